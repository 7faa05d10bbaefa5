use Rattle.std.proofs.Common.{subst}
use Rattle.mem_files.specs.Files.{files}
use Rattle.script_load.specs.Line.{lines_of}
use Rattle.grade_verdicts.specs.Agrees.{Agrees}
use Rattle.grade_jobs.proofs.Reported.{right, without_room}
use Rattle.grade_jobs.proofs.every_way.judge_run.Goals as goal

pub returns-in-Some-clause-verdict : goal.returns-in-Some-clause-verdict
returns-in-Some-clause-verdict c =
    let run = c.requires.run in
    without_room c.args.task.now (lines_of c.args.script.now.lines) c.args.report.now run.run run.turns c.in_ok-verdict-in-Some.verdict c.in-Some.full run.most run.few c.in-Some.is c.in_ok-verdict-in-Some.ensures

pub returns-in-None-difference-clause-right : goal.returns-in-None-difference-clause-right
returns-in-None-difference-clause-right c = λ _.
    let t = c.args.task.now in
    let report = c.args.report.now in
    right t (lines_of c.args.script.now.lines) report c.requires.run.run c.in-None.is
    (subst (λ out. Agrees t.expected.now out (files report.files)) c.as_slice.ensures.value (c.in_ok-difference.ensures.0 c.in-None-difference.is))
