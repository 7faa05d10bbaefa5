-- The lowest slot in the groups of its parent and of the zombies.
use Rattle.std.proofs.Common.{ap, ◌∙◌}
use Rattle.std.specs.Prelude.{map, position}
use Rattle.slot_lists.specs.Sets.{both_of, is_key}
use Rattle.proc_table.specs.Heads.{head_is_zombie_child_of, parent_key, state_key}
use Rattle.proc_table.proofs.Grouping.{first_zombie_child}
use Rattle.proc_table.proofs.heads.Heads.zombie_child.Goals as goal

pub returns-clause-value : goal.returns-clause-value
returns-clause-value c =
    let heads = c.self.inside.heads in
    let children = map (is_key c.index.result) (map parent_key heads) in
    let zombies = map (is_key 4) (map state_key heads) in
    c.first.ensures.value (both_of children zombies) (c.and.ensures children zombies (c.set.ensures (map parent_key heads) c.self.invariant.by_parent) (c.set-2.ensures (map state_key heads) c.self.invariant.by_state))
    ∙ ap (λ pid. position (λ flag. flag) (both_of (map (is_key pid) (map parent_key heads)) zombies)) c.index.ensures.value
    ∙ first_zombie_child c.args.pid heads ∙ ap (position (head_is_zombie_child_of c.args.pid)) c.self.view_is
