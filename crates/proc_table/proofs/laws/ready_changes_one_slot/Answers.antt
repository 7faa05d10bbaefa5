-- One slot is written.
use Rattle.std.proofs.Common.{refl}
use Rattle.proc_table.specs.Slots.{at}
use Rattle.proc_table.specs.Calls.{made_ready}
use Rattle.proc_table.proofs.Changes.{written, kept}
use Rattle.proc_table.proofs.laws.ready_changes_one_slot.Goals as goal

pub returns-clause-slot : goal.returns-clause-slot
returns-clause-slot g c = λ t pid machine reply. written (made_ready machine reply) refl t pid

pub returns-clause-others : goal.returns-clause-others
returns-clause-others g c = λ t pid other machine reply ne. kept t pid other (made_ready machine reply (at t pid)) ne
