use Rattle.std.proofs.Common.{◌≡◌, ℕ, ◌<◌}
use Rattle.fd_table.specs.Entries.{entry_at}
use Rattle.order_search.specs.Under.{number_under}
use Rattle.order_search.proofs.renumbering.are_entries_under.Given as goal

abbrev pub invariant-loop-number : goal.invariant-loop-number
invariant-loop-number l = (e : ℕ) → e < l.number → entry_at l.others (number_under l.to e) ≡ entry_at l.entries e
