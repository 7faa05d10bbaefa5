use Rattle.script_load.specs.Line.{lines_of}
use Rattle.run_model.specs.ScriptRun.{script_kernel}
use Rattle.hart_run.proofs.Answers.{answer, roomy_answer}
use Rattle.hart_run.proofs.closing.close.Goals as goal

pub returns-clause-so_far : goal.returns-clause-so_far
returns-clause-so_far g c =
    let script = c.args.script.now in
    c.close.ensures.run (script_kernel script.profile (lines_of script.lines) c.args.stdin.now c.args.files.now) c.requires.boot

pub returns-clause-run : goal.returns-clause-run
returns-clause-run g c = λ finished.
    let script = c.args.script.now in
    c.close.ensures.finished finished (script_kernel script.profile (lines_of script.lines) c.args.stdin.now c.args.files.now) c.requires.boot

pub returns-clause-answer : goal.returns-clause-answer
returns-clause-answer g c = λ finished.
    let script = c.args.script.now in
    answer script.profile (lines_of script.lines) c.args.stdin.now c.args.files.now c.close.result script.small c.are_files.ensures
    (c.close.ensures.finished finished (script_kernel script.profile (lines_of script.lines) c.args.stdin.now c.args.files.now) c.requires.boot)

pub returns-clause-roomy : goal.returns-clause-roomy
returns-clause-roomy g c = λ finished.
    let script = c.args.script.now in
    roomy_answer script.profile (lines_of script.lines) c.args.stdin.now c.args.files.now c.close.result script.small c.are_files.ensures
    (c.close.ensures.finished finished (script_kernel script.profile (lines_of script.lines) c.args.stdin.now c.args.files.now) c.requires.boot)
