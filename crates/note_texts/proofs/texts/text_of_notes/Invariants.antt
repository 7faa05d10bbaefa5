use Rattle.std.proofs.Common.{◌≡◌, ◌++◌, length}
use Rattle.note_texts.specs.Texts.{written}
use Rattle.note_texts.proofs.texts.text_of_notes.Given as goal

-- the text of the notes that are left completes that of all
abbrev pub invariant-loop-note : goal.invariant-loop-note
invariant-loop-note l = l.text.items ++ written l.rest ≡ written l.notes

abbrev pub decreases-loop-note : goal.decreases-loop-note
decreases-loop-note l = length l.rest
