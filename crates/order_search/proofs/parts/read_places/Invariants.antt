use Rattle.std.proofs.Common.{◌≡◌, take}
use Rattle.order_search.proofs.parts.read_places.Given as goal

abbrev pub invariant-loop-fd : goal.invariant-loop-fd
invariant-loop-fd l = l.places.items ≡ take l.fd l.fds
