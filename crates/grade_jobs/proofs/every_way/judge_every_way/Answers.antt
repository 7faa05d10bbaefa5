use Rattle.std.proofs.Common.{subst}
use Rattle.std.specs.Prelude.{IfOk}
use Rattle.script_load.specs.Line.{lines_of}
use Rattle.script_load.specs.Script.{IsScript}
use Rattle.grade_verdicts.proofs.Known.{judged_lines}
use Rattle.grade_jobs.proofs.every_way.judge_every_way.Goals as goal

pub returns-in-Ok-clause-due : goal.returns-in-Ok-clause-due
returns-in-Ok-clause-due g c =
    let bytes = c.args.bytes.now in
    let script = subst (λ read. IfOk read (λ script. IsScript bytes (lines_of script.lines))) c.in-Ok.is c.in_ok-script.ensures.script in
    judged_lines c.args.task.now bytes (lines_of c.in-Ok.script.lines) c.judge_all_ways.result script c.judge_all_ways.ensures.time c.judge_all_ways.ensures.verdict
