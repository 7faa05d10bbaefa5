-- One slot is written.
use Rattle.std.proofs.Common.{refl}
use Rattle.proc_table.specs.Slots.{at, has_status, is_free}
use Rattle.proc_table.specs.Calls.{with_fds}
use Rattle.proc_table.proofs.Changes.{written, kept}
use Rattle.proc_table.proofs.Counts.{count_stays, with_fds_status, with_fds_free}
use Rattle.proc_table.proofs.laws.fds_mut_changes_one_slot.Goals as goal

pub returns-clause-slot : goal.returns-clause-slot
returns-clause-slot g c = λ t pid fds. written (with_fds fds) refl t pid

pub returns-clause-others : goal.returns-clause-others
returns-clause-others g c = λ t pid other fds ne. kept t pid other (with_fds fds (at t pid)) ne

pub returns-clause-counts : goal.returns-clause-counts
returns-clause-counts g c = λ test t pid fds.
    (count_stays (has_status test) (with_fds fds) (with_fds_status test fds) t pid, count_stays is_free (with_fds fds) (with_fds_free fds) t pid)
