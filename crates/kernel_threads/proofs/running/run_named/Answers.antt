use denote.Param.Send.{sendable}
use Rattle.std.proofs.Common.{subst}
use Rattle.std.specs.Prelude.{IfOk}
use Rattle.std.proofs.Crossing.{crosses}
use Rattle.sh_machine.specs.State.{User}
use Rattle.script_load.specs.Line.{lines_of}
use Rattle.kernel_model.specs.KernelState.{KernelState}
use Rattle.kernel_events.specs.Reports.{IsRunFrom}
use Rattle.run_model.specs.ScriptRun.{IsOutOfTurnsFrom}
use Rattle.run_model.proofs.Scripts.{script_boot}
use Rattle.kernel_threads.proofs.Users.{user_send}
use Rattle.kernel_threads.proofs.running.run_named.Goals as goal

pub run_kernel-requires-send-M : goal.run_kernel-requires-send-M
run_kernel-requires-send-M g c κs within = search (crosses, sendable, user_send) depth 60 fits 20000

pub returns-clause-run : goal.returns-clause-run
returns-clause-run g c =
    let script = c.args.setting.now.script.now in
    subst (λ (k : KernelState User). IfOk c.run_kernel.result (IsRunFrom k)) (script_boot script.profile (lines_of script.lines) c.args.setting.now.stdin.now c.args.setting.now.files.now _ _ c.in-Ok.kernel c.init-init.ensures c.shell-shell.ensures c.in-Ok.ensures) c.run_kernel.ensures.run

pub returns-clause-spent : goal.returns-clause-spent
returns-clause-spent g c = λ is.
    let script = c.args.setting.now.script.now in
    subst (λ (k : KernelState User). IsOutOfTurnsFrom k c.args.way.turns) (script_boot script.profile (lines_of script.lines) c.args.setting.now.stdin.now c.args.setting.now.files.now _ _ c.in-Ok.kernel c.init-init.ensures c.shell-shell.ensures c.in-Ok.ensures) (c.run_kernel.ensures.spent is)
