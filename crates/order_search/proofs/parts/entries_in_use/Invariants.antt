use Rattle.std.proofs.Common.{◌≡◌, ℕ, ◌≤◌, None}
use Rattle.fd_table.specs.Entries.{entry_at}
use Rattle.order_search.proofs.parts.entries_in_use.Given as goal

abbrev pub invariant-loop-count : goal.invariant-loop-count
invariant-loop-count l = (l.count ≤ 100) × ((e : ℕ) → l.count ≤ e → entry_at l.entries e ≡ None)

abbrev pub decreases-loop-count : goal.decreases-loop-count
decreases-loop-count l = l.count
