use Rattle.std.proofs.Common.{◌≡◌, ◌++◌, ◌∷◌, [], subst}
use Rattle.script_notes.specs.Habits.{habit_notes, habits_of, said_of}
use Rattle.script_notes.specs.Notes.{notes_at}
use Rattle.script_notes.specs.Values.{values_of}
use Rattle.script_notes.proofs.Adding.{added_first}
use Rattle.script_notes.proofs.Inside.{first_token}
use Rattle.script_notes.proofs.habits.add_habit_notes.Goals as goal

pub loop-token-preserved : goal.loop-token-preserved
loop-token-preserved c =
    let text = c.args.row.text.now in
    let token = c.in-Some.token.now in
    let after = c.in-Some.after.now in
    let here = c.loop-token.invariant.here in
    let noted = c.loop-token.invariant.notes in
    let whole = (values_of c.args.notes.now.list.items) ++ notes_at c.args.row.number text (habit_notes text [] c.args.tokens.now) in
    let now = subst (λ ts. (values_of c.loop-token.notes.list.items) ++ notes_at c.args.row.number text (habit_notes text noted.0 ts) ≡ whole) c.in-Some.ensures.cases.0 noted.2 in
    let added = subst (λ said. (values_of c.add_habits.new.notes.list.items) ≡ (values_of c.loop-token.notes.list.items) ++ notes_at c.args.row.number text (habits_of text said token)) noted.1 c.in_ok-add_habits.ensures in
    record {
      here = (token.past, (first_token text here.0 c.loop-token.rest.now token after c.in-Some.ensures.cases.0 here.1).3);
      notes = (token ∷ noted.0, c.after-said.ensures noted.0 noted.1, added_first c.args.row.number text whole (values_of c.loop-token.notes.list.items) (values_of c.add_habits.new.notes.list.items) (habits_of text (said_of text noted.0) token) (habit_notes text (token ∷ noted.0) after) now added);
    }
