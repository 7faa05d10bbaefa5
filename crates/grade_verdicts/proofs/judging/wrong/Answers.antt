use Rattle.script_load.specs.Line.{lines_of}
use Rattle.grade_verdicts.proofs.Known.{not_right}
use Rattle.grade_verdicts.proofs.judging.wrong.Goals as goal

pub returns-in-Some-clause-due : goal.returns-in-Some-clause-due
returns-in-Some-clause-due c = not_right c.args.task.now (lines_of c.args.script.now.lines) c.args.is_whole c.requires.whole c.requires.part

pub returns-in-None-clause-due : goal.returns-in-None-clause-due
returns-in-None-clause-due c = c.requires.whole c.if-is_whole.true
