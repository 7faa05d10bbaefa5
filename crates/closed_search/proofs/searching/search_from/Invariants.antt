use Rattle.std.proofs.Common.{◌-◌, map}
use Rattle.closed_search.proofs.Growing.{Searching}
use Rattle.closed_search.proofs.searching.search_from.Given as goal

abbrev pub invariant-loop-place : goal.invariant-loop-place
invariant-loop-place g l = Searching g.T.Node.step g.T.Node.stands g.T.Node.private l.bounds.moves (g.T.Node.state l.fn.start) (map g.T.Node.state l.pool.nodes.items) l.place

abbrev pub decreases-loop-place : goal.decreases-loop-place
decreases-loop-place g l = l.bounds.limit - l.place
