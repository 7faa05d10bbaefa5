use Rattle.std.proofs.Common.{◌≡◌, take, map}
use Rattle.kernel_model.specs.Idle.{idle_slot}
use Rattle.order_search.specs.Places.{place_among}
use Rattle.order_search.specs.Shown.{slot_of}
use Rattle.order_search.proofs.reading.Reader.read_slots.Given as goal

abbrev pub invariant-loop-number : goal.invariant-loop-number
invariant-loop-number g l = map slot_of l.slots.items ≡ map (idle_slot (place_among l.names)) (take l.number l.state.table)
