use Rattle.std.proofs.Common.{◌++◌, [], ◌∷◌, refl, sym, subst}
use Rattle.sh_lexer.specs.Tokens.{IsTokenList}
use Rattle.sh_tree.specs.Tree.{tree_of}
use Rattle.script_load.specs.Line.{line_of}
use Rattle.script_load.specs.Script.{IsLineOf}
use Rattle.script_notes.specs.Noted.{HasNotes}
use Rattle.script_notes.specs.Habits.{token_notes}
use Rattle.script_notes.specs.Letters.{byte_notes}
use Rattle.script_notes.specs.Commands.{command_notes}
use Rattle.script_notes.specs.Whole.{cd_note, fault_notes}
use Rattle.script_notes.specs.Values.{values_of}
use Rattle.script_notes.proofs.Adding.{added_two, on_ok}
use Rattle.script_notes.proofs.Inside.{fault_inside}
use Rattle.script_notes.proofs.noting.add_line_notes.Goals as goal

pub returns-in-Cd : goal.returns-in-Cd
returns-in-Cd c =
    let number = c.args.row.number in
    let text = c.args.row.text.now in
    let notes = byte_notes number text ++ cd_note ∷ [] in
    on_ok c.add_cd_note.result
    (λ added. (
      notes,
      subst (λ line. HasNotes number text (line_of line) notes) (sym c.in-Cd.is) refl,
      added_two number text (values_of c.args.notes.now.list.items) (values_of c.add_byte_notes.new.notes.list.items) (values_of c.add_cd_note.new.notes.list.items) (byte_notes number text) (cd_note ∷ []) c.in_ok-add_byte_notes.ensures added,
    ))
    c.add_cd_note.ensures

pub add_fault_note-requires : goal.add_fault_note-requires
add_fault_note-requires c =
    let is = subst (λ line. IsLineOf c.args.row.text.now (line_of line)) c.in-Bad.is c.requires in
    fault_inside c.args.row.text.now c.in-Bad.fault is.1 is.2

pub returns-in-Bad : goal.returns-in-Bad
returns-in-Bad c =
    let number = c.args.row.number in
    let text = c.args.row.text.now in
    let tokens = c.as_slice-tokens.result.now in
    let list = subst (IsTokenList text) (sym c.as_slice-tokens.ensures.value) c.in_ok-all.ensures in
    let last = fault_notes text c.in-Bad.fault in
    let later = token_notes text tokens ++ last in
    let notes = byte_notes number text ++ later in
    on_ok c.add_fault_note.result
    (λ added. (
      notes,
      subst (λ line. HasNotes number text (line_of line) notes) (sym c.in-Bad.is) (tokens, list, refl),
      added_two number text (values_of c.args.notes.now.list.items) (values_of c.add_byte_notes.new.notes.list.items) (values_of c.add_fault_note.new.notes.list.items) (byte_notes number text) later c.in_ok-add_byte_notes.ensures
          (added_two number text (values_of c.add_byte_notes.new.notes.list.items) (values_of c.add_token_notes.new.notes.list.items) (values_of c.add_fault_note.new.notes.list.items) (token_notes text tokens) last c.in_ok-add_token_notes.ensures added),
    ))
    c.add_fault_note.ensures

pub returns : goal.returns
returns c =
    let number = c.args.row.number in
    let text = c.args.row.text.now in
    let tree = tree_of c.in-Tree.tree in
    let tokens = c.as_slice-tokens.result.now in
    let list = subst (IsTokenList text) (sym c.as_slice-tokens.ensures.value) c.in_ok-all.ensures in
    on_ok c.add_clash_note.result
    (λ (last, is, added).
    let commands = command_notes text tree [] tokens ++ last in
    let later = token_notes text tokens ++ commands in
    let notes = byte_notes number text ++ later in (
      notes,
      subst (λ line. HasNotes number text (line_of line) notes) (sym c.in-Tree.is) (tokens, last, list, is, refl),
      added_two number text (values_of c.args.notes.now.list.items) (values_of c.add_byte_notes.new.notes.list.items) (values_of c.add_clash_note.new.notes.list.items) (byte_notes number text) later c.in_ok-add_byte_notes.ensures
          (added_two number text (values_of c.add_byte_notes.new.notes.list.items) (values_of c.add_token_notes.new.notes.list.items) (values_of c.add_clash_note.new.notes.list.items) (token_notes text tokens) commands c.in_ok-add_token_notes.ensures
          (added_two number text (values_of c.add_token_notes.new.notes.list.items) (values_of c.add_command_notes.new.notes.list.items) (values_of c.add_clash_note.new.notes.list.items) (command_notes text tree [] tokens) last c.in_ok-add_command_notes-in-Tree.ensures added)),
    ))
    c.add_clash_note.ensures
