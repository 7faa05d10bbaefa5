-- A slot runs where its head does.
use Rattle.std.proofs.Common.{◌∙◌, ap}
use Rattle.std.specs.Prelude.{position}
use Rattle.proc_table.specs.Slots.{is_running_on, is_running_on_status}
use Rattle.proc_table.specs.Heads.{head_has}
use Rattle.proc_table.proofs.Searched.{first_with}
use Rattle.proc_table.proofs.table.Procs.running_index.Goals as goal

pub returns-clause-value : goal.returns-clause-value
returns-clause-value g c =
    c.running_on.ensures.value ∙ ap (position (head_has (is_running_on_status c.args.hart))) c.self.invariant.theirs ∙ first_with (is_running_on_status c.args.hart) c.self.inside.slots.items ∙ ap (position (is_running_on c.args.hart)) c.self.view_is
