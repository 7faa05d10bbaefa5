use Rattle.std.proofs.Common.{◌≡◌, take, map}
use Rattle.kernel_model.specs.Woke.{woke_slot}
use Rattle.kernel_model.specs.Numbers.{renumbered_table}
use Rattle.order_search.specs.Shown.{slot_of}
use Rattle.order_search.specs.Under.{number_under}
use Rattle.order_search.proofs.renumbering.are_slots_under.Given as goal

abbrev pub invariant-loop-i : goal.invariant-loop-i
invariant-loop-i g l = renumbered_table (number_under l.to) (map woke_slot (map slot_of (take l.i l.slots))) ≡ map woke_slot (map slot_of (take l.i l.others))
