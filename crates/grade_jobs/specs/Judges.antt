-- The verdict of a job, and when two jobs are the same work.
use Rattle.std.specs.Prelude.{◌≡◌, Bool, true, Option, IfSome}
use Rattle.mem_files.specs.Name.{Bytes}
use Rattle.grade_verdicts.specs.Judged.{IsJudged}
use Rattle.grade_verdicts.specs.Same.{IsSameTask}
use Rattle.grade_verdicts.specs.declared.expected.Task.{Task}
use Rattle.grade_verdicts.specs.declared.verdict.Verdict.{Verdict}
use Rattle.grade_jobs.specs.Ways.{RunsRightInEveryWay}
use Rattle.grade_jobs.specs.declared.judging.Job.{Job}

-- the verdict is due of the job's test on its script, and where the job asks for it, a pass is one in every way
pub record IsVerdictOn (job : Job) (verdict : Verdict) : Type 0 where
  pub due : IsJudged job.task job.bytes.now verdict
  pub ways : job.every_way ≡ true → RunsRightInEveryWay job.task job.bytes.now verdict

-- the same of what was found of a job, which is nothing where memory was refused to it
abbrev pub IsFoundOn : Job → Option Verdict → Type 0
IsFoundOn job found = IfSome found (IsVerdictOn job)

-- the same of a test on a script that is kept
pub record IsDue (task : Task) (every_way : Bool) (bytes : Bytes) (verdict : Verdict) : Type 0 where
  pub due : IsJudged task bytes verdict
  pub ways : every_way ≡ true → RunsRightInEveryWay task bytes verdict

-- both have these bytes, the same test, and ask or don't ask for every way
pub record IsSameJob (one other : Job) : Type 0 where
  pub bytes : one.bytes.now ≡ other.bytes.now
  pub every_way : one.every_way ≡ other.every_way
  pub task : IsSameTask one.task other.task
