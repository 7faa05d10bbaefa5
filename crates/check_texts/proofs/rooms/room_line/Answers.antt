use Rattle.std.proofs.Common.{◌++◌, ap, ap₂, ◌∙◌}
use Rattle.check_texts.specs.Rooms.{with_need}
use Rattle.check_texts.proofs.Needs.{made}
use Rattle.check_texts.proofs.rooms.room_line.Goals as goal

pub returns : goal.returns
returns c =
    let room = c.args.room.now in
    made room c.extend_from_slice.new.self.items c.add_need.new.text.items c.add_need-2.new.text.items c.add_need-3.new.text.items c.add_need-4.new.text.items c.add_need-5.new.text.items
    (c.in_ok-extend_from_slice.ensures.items ∙ ap₂ (λ a b. a ++ b) c.new-text.ensures.items c.as_slice.ensures)
    (c.in_ok-add_need.ensures ∙ ap (with_need c.extend_from_slice.new.self.items room.processes) c.as_slice-2.ensures)
    (c.in_ok-add_need-2.ensures ∙ ap (with_need c.add_need.new.text.items room.entries) c.as_slice-3.ensures)
    (c.in_ok-add_need-3.ensures ∙ ap (with_need c.add_need-2.new.text.items room.descriptors) c.as_slice-4.ensures)
    (c.in_ok-add_need-4.ensures ∙ ap (with_need c.add_need-3.new.text.items room.files) c.as_slice-5.ensures)
    (c.in_ok-add_need-5.ensures ∙ ap (with_need c.add_need-4.new.text.items room.size) c.as_slice-6.ensures)
