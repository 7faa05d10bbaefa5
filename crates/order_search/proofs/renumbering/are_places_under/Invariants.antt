use Rattle.std.proofs.Common.{◌≡◌, take}
use Rattle.kernel_model.specs.Numbers.{renumbered_fds}
use Rattle.order_search.specs.Under.{number_under}
use Rattle.order_search.proofs.renumbering.are_places_under.Given as goal

abbrev pub invariant-loop-i : goal.invariant-loop-i
invariant-loop-i l = renumbered_fds (number_under l.to) (take l.i l.places) ≡ take l.i l.others
