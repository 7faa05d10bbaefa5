use Rattle.std.proofs.Common.{◌∙◌, ap, subst}
use Rattle.std.specs.Prelude.{IsTrue, ◌↔◌}
use Rattle.kernel_model.specs.History.{History}
use Rattle.kernel_model.specs.Events.{IsFinished}
use Rattle.kernel_events.specs.Harts.{AreCounts}
use Rattle.kernel_events.proofs.kernel.Kernel.into_report.Goals as goal

pub returns-clause-finished : goal.returns-clause-finished
returns-clause-finished g c = subst (λ (k : History g.row.M-State.Denot). IsTrue c.is_finished-finished.result ↔ IsFinished k.now) c.self.view_is c.is_finished-finished.ensures

pub returns-clause-by_hart : goal.returns-clause-by_hart
returns-clause-by_hart g c = subst (AreCounts c.by_hart-by_hart.result) (c.events.ensures ∙ ap (λ (k : History g.row.M-State.Denot). k.schedule) c.self.view_is) c.by_hart-by_hart.ensures
