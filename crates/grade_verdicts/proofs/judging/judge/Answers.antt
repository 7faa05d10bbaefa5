use Rattle.std.proofs.Common.{subst}
use Rattle.std.specs.Prelude.{IfOk}
use Rattle.script_load.specs.Line.{lines_of}
use Rattle.script_load.specs.Script.{IsScript}
use Rattle.grade_verdicts.proofs.Known.{judged_lines}
use Rattle.grade_verdicts.proofs.judging.judge.Goals as goal

pub returns-in-Ok : goal.returns-in-Ok
returns-in-Ok c =
    let bytes = c.args.bytes.now in
    let script = subst (λ read. IfOk read (λ script. IsScript bytes (lines_of script.lines))) c.in-Ok.is c.in_ok-read.ensures.script in
    judged_lines c.args.task.now bytes (lines_of c.in-Ok.script.lines) c.judge_script.result script c.judge_script.ensures.time c.judge_script.ensures.verdict
