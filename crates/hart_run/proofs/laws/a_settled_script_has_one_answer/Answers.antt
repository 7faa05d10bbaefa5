use Rattle.script_load.specs.Line.{lines_of}
use Rattle.hart_run.proofs.Answers.{answer}
use Rattle.hart_run.proofs.laws.a_settled_script_has_one_answer.Goals as goal

pub returns : goal.returns
returns g c = λ profile input list are ran. answer profile (lines_of c.args._script.now.lines) input list c.args._report.now c.args._script.now.small are ran
