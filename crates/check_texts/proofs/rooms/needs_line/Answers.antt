use Rattle.std.proofs.Common.{◌++◌, codes, ap, ap₂, ◌∙◌}
use Rattle.check_texts.specs.Rooms.{with_need}
use Rattle.check_texts.proofs.rooms.needs_line.Goals as goal

pub returns : goal.returns
returns c =
    let behind = c.args.behind.now in
    c.in_ok-add_need-3.ensures
    ∙ ap (with_need c.add_need-2.new.text.items behind.descriptors) c.as_slice-4.ensures
    ∙ ap (λ t. with_need t behind.descriptors (codes " of 16 descriptors"))
    (c.in_ok-add_need-2.ensures
    ∙ ap (with_need c.add_need.new.text.items behind.entries) c.as_slice-3.ensures
    ∙ ap (λ t. with_need t behind.entries (codes " of 100 open files, "))
    (c.in_ok-add_need.ensures
    ∙ ap (with_need c.extend_from_slice.new.self.items behind.processes) c.as_slice-2.ensures
    ∙ ap (λ t. with_need t behind.processes (codes " of 64 processes, ")) (c.in_ok-extend_from_slice.ensures.items ∙ ap₂ (λ a b. a ++ b) c.new-text.ensures.items c.as_slice.ensures)))
