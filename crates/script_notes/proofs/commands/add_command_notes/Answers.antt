use Rattle.std.proofs.Common.{◌≡◌, ◌++◌, ◌∷◌, [], subst}
use Rattle.sh_tree.specs.Tree.{tree_of}
use Rattle.script_notes.specs.Commands.{command_notes, senses_of}
use Rattle.script_notes.specs.Notes.{notes_at}
use Rattle.script_notes.specs.Segments.{seen_of}
use Rattle.script_notes.specs.Values.{values_of}
use Rattle.script_notes.proofs.Adding.{added_first}
use Rattle.script_notes.proofs.Inside.{first_token}
use Rattle.script_notes.proofs.commands.add_command_notes.Goals as goal

pub loop-token-preserved : goal.loop-token-preserved
loop-token-preserved c =
    let text = c.args.row.text.now in
    let tree = tree_of c.args.tree.now in
    let token = c.in-Some.token.now in
    let after = c.in-Some.after.now in
    let here = c.loop-token.invariant.here in
    let noted = c.loop-token.invariant.notes in
    let whole = (values_of c.args.notes.now.list.items) ++ notes_at c.args.row.number text (command_notes text tree [] c.args.tokens.now) in
    let now = subst (λ ts. (values_of c.loop-token.notes.list.items) ++ notes_at c.args.row.number text (command_notes text tree noted.0 ts) ≡ whole) c.in-Some.ensures.cases.0 noted.2 in
    let added = subst (λ seen. (values_of c.add_senses.new.notes.list.items) ≡ (values_of c.loop-token.notes.list.items) ++ notes_at c.args.row.number text (senses_of text tree seen token)) noted.1 c.in_ok-add_senses.ensures in
    record {
      here = (token.past, (first_token text here.0 c.loop-token.rest.now token after c.in-Some.ensures.cases.0 here.1).3);
      notes = (token.kind ∷ noted.0, c.after-seen.ensures noted.0 noted.1, added_first c.args.row.number text whole (values_of c.loop-token.notes.list.items) (values_of c.add_senses.new.notes.list.items) (senses_of text tree (seen_of noted.0) token) (command_notes text tree (token.kind ∷ noted.0) after) now added);
    }
