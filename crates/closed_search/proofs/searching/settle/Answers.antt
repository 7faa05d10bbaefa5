use Rattle.closed_search.specs.Searched.{at_first, on}
use Rattle.closed_search.proofs.searching.settle.Goals as goal

pub loop-init : goal.loop-init
loop-init g c = at_first

pub loop-preserved : goal.loop-preserved
loop-preserved g c =
    let w = rw c.in-Some.is at c.in_ok-advance.ensures.next in
    on (g.T.Node.state c.loop.node) (g.T.Node.state c.in-Some.next) w.0 c.loop.invariant w.1 w.2
