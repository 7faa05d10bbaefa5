use Rattle.std.proofs.Common.{◌≡◌, take}
use Rattle.fd_table.specs.Entries.{free_count}
use Rattle.order_search.proofs.renumbering.free_entries.Given as goal

abbrev pub invariant-loop-entry : goal.invariant-loop-entry
invariant-loop-entry l = l.count ≡ free_count (take l.entry-index l.entries)
