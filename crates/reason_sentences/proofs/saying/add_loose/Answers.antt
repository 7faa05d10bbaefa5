use Rattle.std.proofs.Common.{◌++◌, ◌∙◌, ap}
use Rattle.std.specs.Prelude.{codes}
use Rattle.reason_sentences.specs.Sentences.{head_text, place_text}
use Rattle.reason_sentences.proofs.Joined.{joined_four}
use Rattle.reason_sentences.proofs.saying.add_loose.Goals as goal

pub returns : goal.returns
returns c =
    joined_four c.args.text.now.items c.add_head.new.text.items c.extend_from_slice.new.self.items c.add_place.new.text.items c.extend_from_slice-2.new.self.items
    (head_text c.args.line) (codes "a command may stop before it has read all of its input, so how much of that is left isn't fixed, and a later command of ") (place_text c.args.line c.args.user) (codes " may read on from there\n")
    c.in_ok-add_head.ensures (c.in_ok-extend_from_slice.ensures.items ∙ ap (λ t. c.add_head.new.text.items ++ t) c.as_slice.ensures) c.in_ok-add_place.ensures (c.in_ok-extend_from_slice-2.ensures.items ∙ ap (λ t. c.add_place.new.text.items ++ t) c.as_slice-2.ensures)
