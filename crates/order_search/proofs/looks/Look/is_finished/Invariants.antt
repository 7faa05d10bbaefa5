use Rattle.std.proofs.Common.{◌≡◌, ◌≢◌, ℕ, ◌<◌, None}
use Rattle.proc_table.specs.Slots.{at}
use Rattle.order_search.proofs.looks.Look.is_finished.Given as goal

abbrev pub invariant-loop-i : goal.invariant-loop-i
invariant-loop-i g l = (pid : ℕ) → pid ≢ 0 → pid < l.i → at l.self.table pid ≡ None
