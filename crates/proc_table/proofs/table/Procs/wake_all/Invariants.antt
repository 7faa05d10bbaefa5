-- The sleepers so far are Runnable and counted, and those that are left are still to be woken.
use Rattle.std.proofs.Common.{◌≡◌, ◌≤◌, ◌+◌, count_by}
use Rattle.proc_table.specs.Calls.{all_woken}
use Rattle.proc_table.specs.Slots.{is_asleep_on}
use Rattle.proc_table.proofs.table.Procs.wake_all.Given as goal

abbrev pub invariant-loop-pid : goal.invariant-loop-pid
invariant-loop-pid g l =
    record {
      rest : all_woken l.channel l.self ≡ all_woken l.channel l.initial.self;
      count : l.woken + count_by (is_asleep_on l.channel) l.self ≡ count_by (is_asleep_on l.channel) l.initial.self;
      few : count_by (is_asleep_on l.channel) l.initial.self ≤ 64;
    }

abbrev pub decreases-loop-pid : goal.decreases-loop-pid
decreases-loop-pid g l = count_by (is_asleep_on l.channel) l.self
