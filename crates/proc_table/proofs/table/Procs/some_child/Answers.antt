-- A child's head has its parent.
use Rattle.std.proofs.Common.{◌∙◌, ap}
use Rattle.std.specs.Prelude.{position}
use Rattle.proc_table.specs.Slots.{is_child_of}
use Rattle.proc_table.specs.Heads.{head_is_child_of}
use Rattle.proc_table.proofs.Searched.{first_child}
use Rattle.proc_table.proofs.table.Procs.some_child.Goals as goal

pub returns-clause-value : goal.returns-clause-value
returns-clause-value g c =
    c.child.ensures.value ∙ ap (position (head_is_child_of c.args.pid)) c.self.invariant.theirs ∙ first_child c.args.pid c.self.inside.slots.items ∙ ap (position (is_child_of c.args.pid)) c.self.view_is
