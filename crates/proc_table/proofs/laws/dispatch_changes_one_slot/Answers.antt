-- One slot is written.
use Rattle.std.proofs.Common.{refl}
use Rattle.proc_table.specs.Slots.{at}
use Rattle.proc_table.specs.declared.states.Status.TheVariants.{Running}
use Rattle.proc_table.specs.Calls.{with_status}
use Rattle.proc_table.proofs.Changes.{written, kept}
use Rattle.proc_table.proofs.laws.dispatch_changes_one_slot.Goals as goal

pub returns-clause-slot : goal.returns-clause-slot
returns-clause-slot g c = λ t pid hart. written (with_status (Running hart)) refl t pid

pub returns-clause-others : goal.returns-clause-others
returns-clause-others g c = λ t pid hart other ne. kept t pid other (with_status (Running hart) (at t pid)) ne
