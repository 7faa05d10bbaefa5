use Rattle.std.proofs.Common.{◌≡◌, ◌++◌, length, map}
use Rattle.missing_names.specs.Texts.{missing_texts, shown}
use Rattle.missing_names.proofs.telling.text_of_missing.Given as goal

-- the sentences of the names that are left complete those of all
abbrev pub invariant-loop-first : goal.invariant-loop-first
invariant-loop-first l = l.text.items ++ missing_texts (map shown l.rest) ≡ missing_texts (map shown l.missing)

abbrev pub decreases-loop-first : goal.decreases-loop-first
decreases-loop-first l = length l.rest
