-- Each slot is written.
use Rattle.std.proofs.Common.{refl}
use Rattle.proc_table.specs.Calls.{woken}
use Rattle.proc_table.proofs.Changes.{mapped}
use Rattle.proc_table.proofs.laws.wakeup_changes_each_slot.Goals as goal

pub returns : goal.returns
returns g c = λ t channel pid. mapped (woken channel) refl t pid
