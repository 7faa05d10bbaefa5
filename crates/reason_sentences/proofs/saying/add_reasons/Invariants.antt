use Rattle.std.proofs.Common.{◌≡◌, ◌++◌, length}
use Rattle.std.specs.Prelude.{map}
use Rattle.reason_sentences.specs.Sentences.{joined, reason_text}
use Rattle.reason_sentences.proofs.saying.add_reasons.Given as goal

-- the sentences that are left complete the text
abbrev pub invariant-loop-reason : goal.invariant-loop-reason
invariant-loop-reason l = l.text.items ++ joined (map reason_text l.rest) ≡ l.initial.text.items ++ joined (map reason_text l.reasons)

abbrev pub decreases-loop-reason : goal.decreases-loop-reason
decreases-loop-reason l = length l.rest
