use Rattle.std.proofs.Common.{◌≡◌, ◌++◌, ℕ, length}
use Rattle.sh_lexer.specs.Tokens.{AreTokensFrom}
use Rattle.script_notes.specs.Letters.{letter_notes}
use Rattle.script_notes.specs.Notes.{notes_at}
use Rattle.script_notes.specs.Values.{values_of}
use Rattle.script_notes.proofs.letters.add_letter_notes.Given as goal

-- the notes of the tokens that are left complete those of all
abbrev pub invariant-loop-token : goal.invariant-loop-token
invariant-loop-token l = record {
  here : (from : ℕ) × AreTokensFrom l.row.text.now from l.rest;
  notes : (values_of l.notes.list.items) ++ notes_at l.row.number l.row.text.now (letter_notes l.row.text.now l.rest) ≡ (values_of l.initial.notes.list.items) ++ notes_at l.row.number l.row.text.now (letter_notes l.row.text.now l.tokens);
}

abbrev pub decreases-loop-token : goal.decreases-loop-token
decreases-loop-token l = length l.rest
