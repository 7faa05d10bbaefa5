use Rattle.std.proofs.Common.{map}
use Rattle.closed_search.proofs.Growing.{Expanding}
use Rattle.closed_search.proofs.searching.expand.Given as goal

abbrev pub invariant-loop-step_number : goal.invariant-loop-step_number
invariant-loop-step_number g l = Expanding g.T.Node.step g.T.Node.stands g.T.Node.private (map g.T.Node.state l.fn.pool.nodes.items) (map g.T.Node.state l.pool.nodes.items) l.place l.step_number
