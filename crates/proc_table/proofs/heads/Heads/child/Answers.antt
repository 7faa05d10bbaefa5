-- The lowest slot in the group of its parent.
use Rattle.std.proofs.Common.{ap, ◌∙◌}
use Rattle.std.specs.Prelude.{map, position}
use Rattle.proc_table.specs.Heads.{head_is_child_of, parent_key}
use Rattle.slot_lists.specs.Sets.{is_key}
use Rattle.proc_table.proofs.Grouping.{first_child}
use Rattle.proc_table.proofs.heads.Heads.child.Goals as goal

pub returns-clause-value : goal.returns-clause-value
returns-clause-value c =
    let heads = c.self.inside.heads in
    c.first.ensures.value (map parent_key heads) c.self.invariant.by_parent ∙ ap (λ pid. position (is_key pid) (map parent_key heads)) c.index.ensures.value
    ∙ first_child c.args.pid heads ∙ ap (position (head_is_child_of c.args.pid)) c.self.view_is
