use Rattle.closed_search.specs.Searched.{IsLedOn}
use Rattle.closed_search.proofs.searching.settle.Given as goal

abbrev pub invariant-loop : goal.invariant-loop
invariant-loop g l = IsLedOn g.T.Node.step g.T.Node.private (g.T.Node.state l.fn.first) (g.T.Node.state l.node)
