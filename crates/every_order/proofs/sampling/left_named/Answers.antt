use Rattle.std.proofs.Common.{◌≡◌, ◌∙◌, subst}
use Rattle.std.specs.Prelude.{All}
use Rattle.kernel_model.specs.Boot.{boot_kernel}
use Rattle.kernel_model.specs.KernelState.{KernelState}
use Rattle.script_load.specs.Line.{lines_of}
use Rattle.sh_machine.specs.State.{User}
use Rattle.sh_machine.specs.Turn.{call_of, next_of}
use Rattle.run_model.specs.ScriptRun.{script_kernel}
use Rattle.order_search.specs.Told.{IsReplayed}
use Rattle.every_order.proofs.Last.{last_of}
use Rattle.every_order.proofs.sampling.left_named.Goals as goal

pub returns : goal.returns
returns g c =
    let stdin = c.args.setting.now.stdin.now in
    let files = c.args.setting.now.files.now in
    let same : boot_kernel _ _ stdin files ≡ script_kernel c.args.setting.now.script.now.profile (lines_of c.args.setting.now.script.now.lines) stdin files = λ i. boot_kernel (c.init.ensures i) (c.shell.ensures i) stdin files in
    let start = script_kernel c.args.setting.now.script.now.profile (lines_of c.args.setting.now.script.now.lines) stdin files in
    let sound = subst (λ (first : KernelState User). All (IsReplayed call_of next_of first) c.in_ok-found.found.outcomes.items) same c.in_ok-found.ensures.told.tells.sound in
    last_of (IsReplayed call_of next_of start) _ _ c.pop.result c.pop.ensures.items sound
