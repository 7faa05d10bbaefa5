use Rattle.std.proofs.Common.{◌≡◌, ◌+◌, drop}
use Rattle.order_search.specs.Places.{place_among}
use Rattle.order_search.proofs.places.place_of.Given as goal

abbrev pub invariant-loop-other : goal.invariant-loop-other
invariant-loop-other l = record { counted : l.place ≡ l.other-index; rest : place_among l.names l.name ≡ l.place + place_among (drop l.other-index l.names) l.name }
