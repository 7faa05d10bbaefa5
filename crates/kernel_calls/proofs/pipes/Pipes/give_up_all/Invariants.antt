-- The first pipes are gone.
use Rattle.std.proofs.Common.{◌≡◌}
use Rattle.std.specs.Prelude.{drop}
use Rattle.kernel_calls.proofs.pipes.Pipes.give_up_all.Given as goal

abbrev pub invariant-loop-pipe : goal.invariant-loop-pipe
invariant-loop-pipe g l = l.self ≡ drop l._pipe l.fn.self
