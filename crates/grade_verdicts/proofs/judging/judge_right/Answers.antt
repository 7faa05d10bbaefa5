use Rattle.script_load.specs.Line.{lines_of}
use Rattle.grade_verdicts.proofs.Known.{passed_in_every_order}
use Rattle.grade_verdicts.proofs.judging.judge_right.Goals as goal

pub returns-in-Some : goal.returns-in-Some
returns-in-Some c =
    passed_in_every_order c.args.task.now (lines_of c.args.script.now.lines) c.args.outcomes.now c.in-Some._roomy.now c.requires.complete c.requires.right c.requires.awake c.requires.sound
    c.in-Some.ensures.among c.in-Some.ensures.roomy
