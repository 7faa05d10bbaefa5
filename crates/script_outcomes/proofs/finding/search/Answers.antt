use Rattle.script_load.specs.Line.{lines_of}
use Rattle.run_model.specs.ScriptRun.{script_kernel}
use Rattle.script_outcomes.proofs.Reordered.{reordered}
use Rattle.script_outcomes.proofs.finding.search.Goals as goal

pub returns-clause-tried : goal.returns-clause-tried
returns-clause-tried g c =
    let setting = c.args.setting.now in
    let start = script_kernel setting.script.now.profile (lines_of setting.script.now.lines) setting.stdin.now setting.files.now in
    reordered start c.args.extent.states c.add_sampled.new.found c.in_ok-sorted.sorted c.in_ok-runs.ensures.tried c.in_ok-sorted.ensures
