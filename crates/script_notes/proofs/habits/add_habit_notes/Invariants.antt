use Rattle.std.proofs.Common.{◌≡◌, ◌++◌, ℕ, List, [], length}
use Rattle.sh_lexer.specs.declared.token.Token.{Token}
use Rattle.sh_lexer.specs.Tokens.{AreTokensFrom}
use Rattle.script_notes.specs.Habits.{habit_notes, said_of}
use Rattle.script_notes.specs.Notes.{notes_at}
use Rattle.script_notes.specs.Values.{values_of}
use Rattle.script_notes.proofs.habits.add_habit_notes.Given as goal

-- the notes of the tokens that are left, behind those before, complete those of all
abbrev pub invariant-loop-token : goal.invariant-loop-token
invariant-loop-token l = record {
  here : (from : ℕ) × AreTokensFrom l.row.text.now from l.rest;
  notes : (back : List Token) × (l.said ≡ said_of l.row.text.now back) × ((values_of l.notes.list.items) ++ notes_at l.row.number l.row.text.now (habit_notes l.row.text.now back l.rest) ≡ (values_of l.initial.notes.list.items) ++ notes_at l.row.number l.row.text.now (habit_notes l.row.text.now [] l.tokens));
}

abbrev pub decreases-loop-token : goal.decreases-loop-token
decreases-loop-token l = length l.rest
