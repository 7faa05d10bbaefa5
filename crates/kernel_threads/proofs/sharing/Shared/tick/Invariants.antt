-- The seat stays the one of its hart.
use Rattle.std.proofs.Common.{◌≡◌}
use Rattle.kernel_threads.proofs.sharing.Shared.tick.Given as goal

abbrev pub invariant-loop : goal.invariant-loop
invariant-loop g l = l.seat.hart ≡ l.fn.seat.hart
