-- Slot by slot.
use Rattle.std.proofs.Common.{refl}
use Rattle.proc_table.specs.Slots.{is_running_status, is_zombie_status}
use Rattle.proc_table.proofs.Counts.{wake_asleep, wake_runnable, all_woken_free, all_woken_same}
use Rattle.proc_table.proofs.laws.wakeup_counts.Goals as goal

pub returns-clause-asleep : goal.returns-clause-asleep
returns-clause-asleep g c = λ t channel. wake_asleep channel t

pub returns-clause-runnable : goal.returns-clause-runnable
returns-clause-runnable g c = λ t channel. wake_runnable channel t

pub returns-clause-others : goal.returns-clause-others
returns-clause-others g c = λ t channel.
    (all_woken_free channel t, all_woken_same is_running_status (λ _. refl) channel t, all_woken_same is_zombie_status (λ _. refl) channel t)
