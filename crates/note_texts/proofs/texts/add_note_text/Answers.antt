use Rattle.std.proofs.Common.{[], ◌∷◌, ◌++◌, ◌∙◌, ap, ap₂}
use Rattle.std.specs.Prelude.{codes}
use Rattle.note_texts.specs.Marks.{shown, marks}
use Rattle.note_texts.specs.Texts.{head_text}
use Rattle.note_texts.proofs.Parts.{added_six}
use Rattle.note_texts.proofs.texts.add_note_text.Goals as goal

pub returns : goal.returns
returns c =
    let note = c.args.note.now in
    added_six c.args.text.now.items c.add_head.new.text.items c.extend_from_slice.new.self.items c.add_shown.new.text.items c.extend_from_slice-2.new.self.items c.add_marks.new.text.items c.push.new.self.items
    (head_text note.line note.kind) (codes "  ") (shown note.text.items) (codes "\n  ") (marks note.text.items 0 note.spans.items) (10 ∷ [])
    c.in_ok-add_head.ensures (c.in_ok-extend_from_slice.ensures.items ∙ ap (λ t. c.add_head.new.text.items ++ t) c.as_slice.ensures)
    (c.in_ok-add_shown.ensures ∙ ap (λ t. c.extend_from_slice.new.self.items ++ shown t) c.as_slice-2.ensures.value)
    (c.in_ok-extend_from_slice-2.ensures.items ∙ ap (λ t. c.add_shown.new.text.items ++ t) c.as_slice-3.ensures)
    (c.in_ok-add_marks.ensures ∙ ap₂ (λ t spans. c.extend_from_slice-2.new.self.items ++ marks t 0 spans) c.as_slice-4.ensures.value c.as_slice-5.ensures.value) c.in_ok-push.ensures.items
