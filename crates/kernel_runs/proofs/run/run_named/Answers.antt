use Rattle.std.proofs.Common.{subst}
use Rattle.std.specs.Prelude.{IfOk}
use Rattle.sh_machine.specs.State.{User}
use Rattle.script_load.specs.Line.{lines_of}
use Rattle.kernel_model.specs.KernelState.{KernelState}
use Rattle.kernel_events.specs.Reports.{IsRunFrom}
use Rattle.run_model.specs.ScriptRun.{IsSpentFrom}
use Rattle.run_model.proofs.Scripts.{script_boot}
use Rattle.kernel_runs.proofs.run.run_named.Goals as goal

pub returns-clause-run : goal.returns-clause-run
returns-clause-run g c =
    let script = c.args.setting.now.script.now in
    subst (λ (k : KernelState User). IfOk c.run_kernel.result (IsRunFrom k)) (script_boot script.profile (lines_of script.lines) c.args.setting.now.stdin.now c.args.setting.now.files.now _ _ c.in_ok-kernel.kernel c.init-init.ensures c.shell-shell.ensures c.in_ok-kernel.ensures) c.run_kernel.ensures.run

pub returns-clause-spent : goal.returns-clause-spent
returns-clause-spent g c = λ is.
    let script = c.args.setting.now.script.now in
    subst (λ (k : KernelState User). IsSpentFrom k c.args.turns) (script_boot script.profile (lines_of script.lines) c.args.setting.now.stdin.now c.args.setting.now.files.now _ _ c.in_ok-kernel.kernel c.init-init.ensures c.shell-shell.ensures c.in_ok-kernel.ensures) (c.run_kernel.ensures.spent is)
