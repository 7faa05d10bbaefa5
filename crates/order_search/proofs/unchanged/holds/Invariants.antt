use Rattle.std.proofs.Common.{◌≡◌, take}
use Rattle.order_search.proofs.unchanged.holds.Given as goal

abbrev pub invariant-loop-fd : goal.invariant-loop-fd
invariant-loop-fd l = take l.fd l.places ≡ take l.fd l.fds
