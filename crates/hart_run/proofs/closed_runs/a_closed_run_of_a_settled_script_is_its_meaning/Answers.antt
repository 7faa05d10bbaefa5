use Rattle.script_load.specs.Line.{lines_of}
use Rattle.run_model.specs.ScriptRun.{script_kernel}
use Rattle.hart_run.proofs.Answers.{answer}
use Rattle.hart_run.proofs.closed_runs.a_closed_run_of_a_settled_script_is_its_meaning.Goals as goal

pub returns : goal.returns
returns g c = λ input list code boot are is finished.
    let script = c.args._script.now in
    answer script.profile (lines_of script.lines) input list c.args._report.now script.small are (finished (script_kernel script.profile (lines_of script.lines) input list) is)
