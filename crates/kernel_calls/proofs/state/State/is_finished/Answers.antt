use Rattle.std.proofs.Common.{subst}
use Rattle.std.specs.Prelude.{IsTrue, ◌↔◌}
use Rattle.kernel_model.specs.KernelState.{KernelState}
use Rattle.kernel_model.specs.Events.{IsFinished}
use Rattle.kernel_calls.proofs.state.State.is_finished.Goals as goal

pub returns : goal.returns
returns g c = subst (λ (k : KernelState g.row.M-State.Denot). IsTrue c.is_alone.result ↔ IsFinished k) c.self.view_is c.is_alone.ensures
