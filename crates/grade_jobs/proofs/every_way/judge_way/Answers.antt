use Rattle.std.proofs.Common.{inl, refl, rules}
use Rattle.script_load.specs.Line.{lines_of}
use Rattle.grade_verdicts.specs.Judged.{by_turns}
use Rattle.grade_jobs.specs.Ways.{IsSpentIn}
use Rattle.grade_jobs.proofs.Reported.{spent_fails}
use Rattle.grade_jobs.proofs.every_way.judge_way.Goals as goal

pub returns-in-Err-Spent-clause-verdict : goal.returns-in-Err-Spent-clause-verdict
returns-in-Err-Spent-clause-verdict g c =
    let s : IsSpentIn c.args.task.now (lines_of c.args.script.now.lines) = c.in-Err-Spent.ensures.spent (search rules) in
    record { due = by_turns s.turns s.most s.spent; time = inl refl; fails = spent_fails }
