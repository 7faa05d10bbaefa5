-- The burial and then the wake-ups.
use Rattle.proc_table.proofs.Changes.{exit_self, exit_other}
use Rattle.proc_table.proofs.laws.exit_changes_each_slot.Goals as goal

pub returns-clause-slot : goal.returns-clause-slot
returns-clause-slot g c = λ t pid. exit_self t pid

pub returns-clause-others : goal.returns-clause-others
returns-clause-others g c = λ t pid other ne. exit_other t pid other ne
