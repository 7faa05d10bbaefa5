use Rattle.std.proofs.Common.{◌≡◌, ◌∙◌, ◌++◌, [], ◌∷◌, List, refl, sym, ap, ap₂, subst, inr}
use Rattle.script_notes.specs.declared.kind.NoteKind.{NoteKind}
use Rattle.script_notes.specs.declared.span.Span.{Span}
use Rattle.script_notes.specs.Spans.{AreSpansFrom}
use Rattle.script_notes.specs.Notes.{Note, notes_at}
use Rattle.script_notes.specs.Whole.{places_of, clash_kind}
use Rattle.script_notes.specs.Values.{values_of}
use Rattle.script_notes.proofs.Adding.{on_ok}
use Rattle.script_notes.proofs.Inside.{words_inside}
use Rattle.script_notes.proofs.whole.add_clash_note.Goals as goal

pub add-requires : goal.add-requires
add-requires c =
    subst (AreSpansFrom c.args.row.text.now 0) (sym (c.as_slice.ensures.value ∙ c.in_ok-spans.ensures))
    (words_inside c.args.row.text.now c.in-Some.found.name.now 0 c.args.tokens.now c.requires)

pub returns : goal.returns
returns c =
    let text = c.args.row.text.now in
    let name = c.in-Some.found.name.now in
    let places = places_of text name c.args.tokens.now in
    let note : Note = record { kind = clash_kind c.in-Some.found.kind; spans = places } in
    let same : notes_at c.args.row.number text (record { kind = c.clash_kind.result; spans = c.as_slice.result.now } ∷ []) ≡ notes_at c.args.row.number text (note ∷ []) =
    ap₂ (λ (kind : NoteKind) (spans : List Span). notes_at c.args.row.number text (record { kind = kind; spans = spans } ∷ [])) c.clash_kind.ensures (c.as_slice.ensures.value ∙ c.in_ok-spans.ensures) in
    on_ok c.add.result
    (λ added. (
      note ∷ [],
      inr (c.in-Some.found.kind, name, c.in-Some.ensures.some, refl),
      added ∙ ap (λ t. (values_of c.args.notes.now.list.items) ++ t) same,
    ))
    c.add.ensures
