use Rattle.std.proofs.Common.{◌≤◌}
use Rattle.script_outcomes.specs.Pairs.{IsLeastWith, IsWeighed}
use Rattle.script_outcomes.proofs.pair.clearer_with.Given as goal

abbrev pub invariant-loop-first : goal.invariant-loop-first
invariant-loop-first l =
    IsWeighed l.outcomes l.clearest.pair l.clearest.weight × (l.clearest.weight ≤ l.fn.so_far.weight) × IsLeastWith l.outcomes l.other l.first l.clearest.weight
