use Rattle.std.proofs.Common.{◌≡◌, ◌++◌, ℕ, List, [], length}
use Rattle.sh_lexer.specs.declared.token.Kind.{Kind}
use Rattle.sh_lexer.specs.Tokens.{AreTokensFrom}
use Rattle.sh_tree.specs.Tree.{tree_of}
use Rattle.script_notes.specs.Commands.{command_notes}
use Rattle.script_notes.specs.Notes.{notes_at}
use Rattle.script_notes.specs.Segments.{seen_of}
use Rattle.script_notes.specs.Values.{values_of}
use Rattle.script_notes.proofs.commands.add_command_notes.Given as goal

-- the notes of the tokens that are left, behind those before, complete those of all
abbrev pub invariant-loop-token : goal.invariant-loop-token
invariant-loop-token l = record {
  here : (from : ℕ) × AreTokensFrom l.row.text.now from l.rest;
  notes : (back : List Kind) × (l.seen ≡ seen_of back) × ((values_of l.notes.list.items) ++ notes_at l.row.number l.row.text.now (command_notes l.row.text.now (tree_of l.tree) back l.rest) ≡ (values_of l.initial.notes.list.items) ++ notes_at l.row.number l.row.text.now (command_notes l.row.text.now (tree_of l.tree) [] l.tokens));
}

abbrev pub decreases-loop-token : goal.decreases-loop-token
decreases-loop-token l = length l.rest
