use Rattle.std.proofs.Common.{◌≡◌, ℕ, ◌≤◌, None}
use Rattle.proc_table.specs.Slots.{at}
use Rattle.order_search.proofs.reading.slots_in_use.Given as goal

abbrev pub invariant-loop-count : goal.invariant-loop-count
invariant-loop-count g l = (l.count ≤ 64) × ((pid : ℕ) → l.count ≤ pid → at l.state.table pid ≡ None)

abbrev pub decreases-loop-count : goal.decreases-loop-count
decreases-loop-count g l = l.count
