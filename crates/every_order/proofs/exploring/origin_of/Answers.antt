use Rattle.std.proofs.Common.{◌≡◌, sym, subst}
use Rattle.kernel_model.specs.KernelState.{KernelState}
use Rattle.kernel_model.specs.Boot.{boot_kernel}
use Rattle.script_load.specs.Line.{lines_of}
use Rattle.sh_machine.specs.State.{User}
use Rattle.sh_machine.specs.Turn.{call_of, next_of}
use Rattle.sh_machine.specs.View.{user_of}
use Rattle.run_model.specs.ScriptRun.{script_kernel}
use Rattle.order_search.specs.Room.{HasAhead}
use Rattle.every_order.proofs.exploring.origin_of.Goals as goal

pub returns-clause-begins : goal.returns-clause-begins
returns-clause-begins g c = λ i. boot_kernel (c.init.ensures i) (c.shell.ensures i) c.args.setting.now.stdin.now c.args.setting.now.files.now

pub returns-clause-ahead : goal.returns-clause-ahead
returns-clause-ahead g c =
    let profile = c.args.setting.now.script.now.profile in
    let lines = lines_of c.args.setting.now.script.now.lines in
    let input = c.args.setting.now.stdin.now in
    let list = c.args.setting.now.files.now in
    let begins : boot_kernel (user_of c.init.result) (user_of c.shell.result) input list ≡ script_kernel profile lines input list = λ i. boot_kernel (c.init.ensures i) (c.shell.ensures i) input list in
    subst (λ (k : KernelState User). HasAhead call_of next_of (record { entries = c.has_few_opens.result; slots = c.has_few_forks.result }) k) (sym begins)
    (record {
      entries = λ few. c.a_script_of_few_opens_has_room_ahead.ensures profile lines input list c.are_files.ensures (c.has_few_opens.ensures.0 few);
      slots = λ few. c.a_script_of_few_forks_has_slots_ahead.ensures profile lines input list c.are_files.ensures (c.has_few_forks.ensures.0 few);
    })
