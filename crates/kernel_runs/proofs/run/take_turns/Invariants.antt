-- Each turn took two events on hart 0, after which nobody runs.
use Rattle.std.proofs.Common.{◌≡◌, All, count_by, length, true, ◌*◌}
use Rattle.proc_table.specs.Slots.{is_running}
use Rattle.kernel_events.specs.Harts.{is_of_hart}
use Rattle.kernel_runs.proofs.run.take_turns.Given as goal

abbrev pub invariant-loop-turn : goal.invariant-loop-turn
invariant-loop-turn g l =
    (l.kernel.boot ≡ l.fn.kernel.boot)
    × (count_by is_running l.kernel.now.table ≡ 0)
    × All (λ event. is_of_hart 0 event ≡ true) l.kernel.schedule
    × (length l.kernel.schedule ≡ 2 * l._turn)
