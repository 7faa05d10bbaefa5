use Rattle.std.proofs.Common.{subst}
use Rattle.std.specs.Prelude.{IfOk, IfErr}
use Rattle.sh_machine.specs.State.{User}
use Rattle.script_load.specs.Line.{lines_of}
use Rattle.kernel_model.specs.KernelState.{KernelState}
use Rattle.kernel_events.specs.Reports.{IsRunFrom}
use Rattle.run_model.proofs.Scripts.{script_boot}
use Rattle.kernel_runs.specs.Refused.{IsReplayFault}
use Rattle.kernel_runs.proofs.replaying.replay_named.Goals as goal

pub returns-clause-run : goal.returns-clause-run
returns-clause-run g c =
    let script = c.args.setting.now.script.now in
    subst (λ (k : KernelState User). IfOk c.replay_kernel.result (IsRunFrom k)) (script_boot script.profile (lines_of script.lines) c.args.setting.now.stdin.now c.args.setting.now.files.now _ _ c.in_ok-kernel.kernel c.init-init.ensures c.shell-shell.ensures c.in_ok-kernel.ensures) c.replay_kernel.ensures.run

pub returns-clause-fault : goal.returns-clause-fault
returns-clause-fault g c =
    let script = c.args.setting.now.script.now in
    subst (λ (k : KernelState User). IfErr c.replay_kernel.result (IsReplayFault k c.args.events.now)) (script_boot script.profile (lines_of script.lines) c.args.setting.now.stdin.now c.args.setting.now.files.now _ _ c.in_ok-kernel.kernel c.init-init.ensures c.shell-shell.ensures c.in_ok-kernel.ensures) c.replay_kernel.ensures.fault
