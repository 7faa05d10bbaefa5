-- One slot is written.
use Rattle.std.proofs.Common.{ap}
use Rattle.proc_table.specs.declared.states.Status.TheVariants.{Runnable, Running, Asleep}
use Rattle.proc_table.specs.Slots.{Slot, at, has_status, is_free}
use Rattle.proc_table.specs.Calls.{with_status, made_ready, put_to_sleep}
use Rattle.proc_table.proofs.Counts.{status_counts, count_stays, with_status_free, made_ready_free, put_to_sleep_free}
use Rattle.proc_table.proofs.laws.one_process_changes_state.Goals as goal

pub returns-clause-dispatched : goal.returns-clause-dispatched
returns-clause-dispatched g c = λ test t pid hart p is.
    status_counts test t pid p (with_status (Running hart) (at t pid)) (Running hart) is (ap (λ (x : Slot _). has_status test (with_status (Running hart) x)) is)

pub returns-clause-readied : goal.returns-clause-readied
returns-clause-readied g c = λ test t pid machine reply p is.
    status_counts test t pid p (made_ready machine reply (at t pid)) Runnable is (ap (λ (x : Slot _). has_status test (made_ready machine reply x)) is)

pub returns-clause-slept : goal.returns-clause-slept
returns-clause-slept g c = λ test t pid put channel p is.
    status_counts test t pid p (put_to_sleep channel put (at t pid)) (Asleep channel) is (ap (λ (x : Slot _). has_status test (put_to_sleep channel put x)) is)

pub returns-clause-free : goal.returns-clause-free
returns-clause-free g c = λ t pid put hart machine reply channel.
    (count_stays is_free (with_status (Running hart)) (with_status_free (Running hart)) t pid, count_stays is_free (made_ready machine reply) (made_ready_free machine reply) t pid, count_stays is_free (put_to_sleep channel put) (put_to_sleep_free channel put) t pid)
