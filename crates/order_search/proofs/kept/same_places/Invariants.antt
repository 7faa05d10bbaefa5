use Rattle.std.proofs.Common.{◌≡◌, take}
use Rattle.order_search.proofs.kept.same_places.Given as goal

abbrev pub invariant-loop-i : goal.invariant-loop-i
invariant-loop-i l = take l.i l.places ≡ take l.i l.others
