use Rattle.std.proofs.Common.{◌≡◌, take, map}
use Rattle.kernel_model.specs.Woke.{woke_slot}
use Rattle.order_search.specs.Shown.{slot_of}
use Rattle.order_search.proofs.looks.are_slots_awake.Given as goal

abbrev pub invariant-loop-i : goal.invariant-loop-i
invariant-loop-i g l = map woke_slot (map slot_of (take l.i l.slots)) ≡ map woke_slot (map slot_of (take l.i l.others))
