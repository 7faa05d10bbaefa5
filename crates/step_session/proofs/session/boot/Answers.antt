use Rattle.std.proofs.Common.{◌≡◌, sym, subst}
use Rattle.std.specs.Prelude.{IfOk}
use Rattle.kernel_model.specs.KernelState.{KernelState}
use Rattle.kernel_model.specs.History.{booted}
use Rattle.step_session.proofs.Adding.{first_is}
use Rattle.step_session.proofs.session.boot.Goals as goal

pub returns : goal.returns
returns g c =
    subst (λ (k : KernelState g.row.M-State.Denot). IfOk c.boot.result (λ kernel. kernel ≡ booted k)) (sym (first_is (g.M.Machine.view c.args.init) (g.M.Machine.view c.args.shell) c.args.stdin.now c.args.files.now)) c.boot.ensures
