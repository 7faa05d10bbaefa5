use Rattle.script_load.specs.Line.{lines_of}
use Rattle.grade_verdicts.proofs.Known.{filled_of}
use Rattle.grade_verdicts.proofs.judging.judge_filled.Goals as goal

pub returns-in-Some-filling : goal.returns-in-Some-filling
returns-in-Some-filling c =
    let says = c.in-Some-filling.ensures in
    filled_of c.args.task.now (lines_of c.args.script.now.lines) c.in-Some-filling.full c.args.outcomes.now c.in-Some.outcome.now c.requires.sound c.in-Some.ensures says.0 says.1
