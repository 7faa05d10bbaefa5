use Rattle.script_outcomes.specs.Pairs.{IsWeighed}
use Rattle.script_outcomes.proofs.Weights.{IsLeastBefore}
use Rattle.script_outcomes.proofs.pair.clearest_pair.Given as goal

abbrev pub invariant-loop-other : goal.invariant-loop-other
invariant-loop-other l = IsWeighed l.outcomes l.clearest.pair l.clearest.weight × IsLeastBefore l.outcomes l.other l.clearest.weight
