use Rattle.std.proofs.Common.{subst}
use Rattle.script_load.specs.Line.{lines_of}
use Rattle.run_model.specs.ScriptRun.{script_kernel}
use Rattle.kernel_events.specs.Reports.{IsRunFrom}
use Rattle.grade_verdicts.specs.Judged.{ended}
use Rattle.grade_verdicts.proofs.judging.ends_in_time.Goals as goal

pub returns-in-Ok-clause-ends : goal.returns-in-Ok-clause-ends
returns-in-Ok-clause-ends c = λ is.
    let task = c.args.task.now in
    let lines = lines_of c.args.script.now.lines in
    let report = c.in-Ok._report in
    let run = subst (λ profile. IsRunFrom (script_kernel profile lines task.stdin.now task.files.now) report) c.requires c.in-Ok.ensures.run in
    ended report.schedule (record { notes = run.notes; last = run.last; runs = run.runs; finished = run.finished }) c.in-Ok.ensures.turns
