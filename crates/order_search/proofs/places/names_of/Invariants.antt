use Rattle.std.proofs.Common.{◌≡◌, take}
use Rattle.order_search.specs.Places.{names_in}
use Rattle.order_search.proofs.places.names_of.Given as goal

abbrev pub invariant-loop-at : goal.invariant-loop-at
invariant-loop-at g l = l.names.items ≡ names_in (take l.at l.state.pipes)
