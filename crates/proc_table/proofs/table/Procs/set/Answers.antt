-- The head is written with the slot.
use Rattle.std.proofs.Common.{refl}
use Rattle.proc_table.proofs.Kept.{written_kept}
use Rattle.proc_table.proofs.table.Procs.set.Goals as goal

pub invariant_of-self : goal.invariant_of-self
invariant_of-self g c =
    written_kept c.self.inside.slots.items c.self.inside.heads c.put.new.self c.args.index c.args.index c.args.slot c.head_of.result
    c.self.invariant c.put.ensures refl c.head_of.ensures
