-- Whatever the descriptors become, the head stays.
use Rattle.proc_table.proofs.Kept.{fds_kept}
use Rattle.proc_table.proofs.table.Procs.fds_mut.Goals as goal

pub invariant_of-self-lent : goal.invariant_of-self-lent
invariant_of-self-lent g c = λ w.
    fds_kept c.self.inside.slots.items c.self.inside.heads c.index.result c.index_mut.result.now w c.self.invariant c.index.ensures.within c.index_mut.ensures.value
