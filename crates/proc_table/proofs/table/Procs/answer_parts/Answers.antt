-- The head is written with the slot.
use Rattle.std.proofs.Common.{Some, sym, ap, ◌∙◌}
use Rattle.proc_table.proofs.Kept.{written_kept}
use Rattle.proc_table.proofs.table.Procs.answer_parts.Goals as goal

pub invariant_of-self : goal.invariant_of-self
invariant_of-self g c =
    written_kept c.self.inside.slots.items c.self.inside.heads c.put.new.self c.index.result c.index-in-Some.result (Some c.answer_parts.new.self) (Some c.head-head.result)
    c.self.invariant c.put.ensures (c.index-in-Some.ensures.value ∙ sym c.index.ensures.value) (ap Some c.head-head.ensures)
