use Rattle.std.proofs.Common.{subst}
use Rattle.std.specs.Prelude.{IsTrue, ◌↔◌}
use Rattle.kernel_model.specs.History.{History}
use Rattle.kernel_model.specs.Events.{IsFinished}
use Rattle.kernel_events.proofs.kernel.Kernel.is_finished.Goals as goal

pub returns : goal.returns
returns g c = subst (λ (k : History g.row.M-State.Denot). IsTrue c.is_finished.result ↔ IsFinished k.now) c.self.view_is c.is_finished.ensures
