use Rattle.std.proofs.Common.{Ok, ap, subst}
use Rattle.std.specs.Prelude.{All}
use Rattle.script_load.specs.Line.{lines_of}
use Rattle.grade_jobs.specs.Ways.{RunsRight}
use Rattle.grade_jobs.proofs.Reported.{agrees_in_runs, the_one}
use Rattle.grade_jobs.proofs.every_way.judge_all_ways.Goals as goal

pub judge_ways-requires-clause-agree : goal.judge_ways-requires-clause-agree
judge_ways-requires-clause-agree g c = λ lives below.
    agrees_in_runs c.args.task.now (lines_of c.args.script.now.lines) c.in_ok-verdict.verdict (c.passes.ensures.0 c.if-not-passes.false) c.in_ok-verdict.ensures.verdict

pub returns-in-Some-clause-time : goal.returns-in-Some-clause-time
returns-in-Some-clause-time g c = (the_one c.args.task.now (lines_of c.args.script.now.lines) c.in_ok-found.found c.in-Some.other c.in-Some.is c.in_ok-found.ensures.verdict).time

pub returns-in-None-clause-ways : goal.returns-in-None-clause-ways
returns-in-None-clause-ways g c = λ _.
    subst (All (RunsRight c.args.task.now (lines_of c.args.script.now.lines))) c.as_slice.ensures (c.in_ok-found.ensures.right (ap Ok c.in-None.is))
