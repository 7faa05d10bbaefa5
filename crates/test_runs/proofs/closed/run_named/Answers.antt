use Rattle.script_load.specs.Line.{lines_of}
use Rattle.run_model.proofs.Scripts.{script_boot}
use Rattle.test_runs.proofs.closed.run_named.Goals as goal

pub run_of-requires-clause-booted : goal.run_of-requires-clause-booted
run_of-requires-clause-booted g c =
    let setting = c.args.setting.now in
    script_boot setting.script.now.profile (lines_of setting.script.now.lines) setting.stdin.now setting.files.now _ _ c.in-Ok.kernel c.init-init.ensures c.shell-shell.ensures c.in-Ok.ensures
