-- The pipes so far are there.
use Rattle.std.proofs.Common.{◌≡◌, take}
use Rattle.kernel_calls.proofs.pipes.Pipes.copy_from.Given as goal

abbrev pub invariant-loop-at : goal.invariant-loop-at
invariant-loop-at g l = l.self ≡ take l.at l.other
