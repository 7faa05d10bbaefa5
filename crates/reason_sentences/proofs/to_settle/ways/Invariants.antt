use Rattle.std.proofs.Common.{◌≡◌, ◌++◌, length}
use Rattle.reason_sentences.specs.Ways.{ways_text}
use Rattle.reason_sentences.proofs.to_settle.ways.Given as goal

-- what mends the reasons that are left completes the text
abbrev pub invariant-loop-reason : goal.invariant-loop-reason
invariant-loop-reason l = l.text.items ++ ways_text l.rest ≡ ways_text l.reasons

abbrev pub decreases-loop-reason : goal.decreases-loop-reason
decreases-loop-reason l = length l.rest
