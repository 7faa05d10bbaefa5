use Rattle.std.proofs.Common.{◌++◌, ◌∙◌, ap}
use Rattle.std.specs.Prelude.{codes}
use Rattle.reason_sentences.specs.Sentences.{head_text, place_text}
use Rattle.reason_sentences.proofs.Joined.{joined_six}
use Rattle.reason_sentences.proofs.saying.add_cut.Goals as goal

pub returns : goal.returns
returns c =
    joined_six c.args.text.now.items c.add_head.new.text.items c.extend_from_slice.new.self.items c.extend_from_slice-2.new.self.items c.extend_from_slice-3.new.self.items c.add_place.new.text.items c.extend_from_slice-4.new.self.items
    (head_text c.args.line) (codes "a pipe's right side may stop before it has read all, as head does, so how much the left side writes to the file ") c.args.name.now (codes " isn't fixed, and ") (place_text c.args.line c.args.again) (codes " names that file again\n")
    c.in_ok-add_head.ensures (c.in_ok-extend_from_slice.ensures.items ∙ ap (λ t. c.add_head.new.text.items ++ t) c.as_slice.ensures) c.in_ok-extend_from_slice-2.ensures.items (c.in_ok-extend_from_slice-3.ensures.items ∙ ap (λ t. c.extend_from_slice-2.new.self.items ++ t) c.as_slice-2.ensures) c.in_ok-add_place.ensures (c.in_ok-extend_from_slice-4.ensures.items ∙ ap (λ t. c.add_place.new.text.items ++ t) c.as_slice-3.ensures)
