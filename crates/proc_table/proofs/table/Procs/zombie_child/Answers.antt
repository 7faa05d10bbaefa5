-- A zombie's head is a zombie's.
use Rattle.std.proofs.Common.{◌∙◌, ap}
use Rattle.std.specs.Prelude.{position}
use Rattle.proc_table.specs.Slots.{is_zombie_child_of}
use Rattle.proc_table.specs.Heads.{head_is_zombie_child_of}
use Rattle.proc_table.proofs.Searched.{first_zombie_child}
use Rattle.proc_table.proofs.table.Procs.zombie_child.Goals as goal

pub returns-clause-value : goal.returns-clause-value
returns-clause-value g c =
    c.zombie_child.ensures.value ∙ ap (position (head_is_zombie_child_of c.args.pid)) c.self.invariant.theirs ∙ first_zombie_child c.args.pid c.self.inside.slots.items ∙ ap (position (is_zombie_child_of c.args.pid)) c.self.view_is
