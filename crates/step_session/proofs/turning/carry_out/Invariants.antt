-- So many events took place.
use Rattle.std.proofs.Common.{◌≡◌, take}
use Rattle.step_session.proofs.turning.carry_out.Given as goal

abbrev pub invariant-loop-place : goal.invariant-loop-place
invariant-loop-place g l = (l.kernel.boot ≡ l.fn.kernel.boot) × (l.kernel.schedule ≡ take l.place l.events)
