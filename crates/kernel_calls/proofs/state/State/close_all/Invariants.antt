use Rattle.std.proofs.Common.{◌≡◌}
use Rattle.kernel_model.specs.Descriptors.{closed_below}
use Rattle.kernel_calls.proofs.state.State.close_all.Given as goal

abbrev pub invariant-loop-fd : goal.invariant-loop-fd
invariant-loop-fd g l = l.self ≡ closed_below l.fn.self l.pid l.fd
