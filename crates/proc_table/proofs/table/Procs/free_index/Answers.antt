-- A slot is free where it has no head.
use Rattle.std.proofs.Common.{◌∙◌, ap}
use Rattle.std.specs.Prelude.{position}
use Rattle.proc_table.specs.Slots.{is_free}
use Rattle.proc_table.specs.Heads.{head_is_free}
use Rattle.proc_table.proofs.Searched.{first_free}
use Rattle.proc_table.proofs.table.Procs.free_index.Goals as goal

pub returns-clause-value : goal.returns-clause-value
returns-clause-value g c =
    c.free.ensures.value ∙ ap (position (head_is_free)) c.self.invariant.theirs ∙ first_free c.self.inside.slots.items ∙ ap (position (is_free)) c.self.view_is
