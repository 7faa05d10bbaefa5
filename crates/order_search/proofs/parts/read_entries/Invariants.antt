use Rattle.std.proofs.Common.{◌≡◌, take, map}
use Rattle.kernel_model.specs.Idle.{renamed_entry}
use Rattle.order_search.specs.Places.{place_among}
use Rattle.order_search.proofs.parts.read_entries.Given as goal

abbrev pub invariant-loop-number : goal.invariant-loop-number
invariant-loop-number l = l.slots.items ≡ map (renamed_entry (place_among l.names)) (take l.number l.entries)
