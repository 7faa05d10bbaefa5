use Rattle.std.proofs.Common.{take}
use Rattle.std.specs.List.{AllZip}
use Rattle.grade_jobs.specs.Judges.{IsFoundOn}
use Rattle.grade_jobs.proofs.judging.verdicts_on.Given as goal

-- so many jobs have their verdicts
abbrev pub invariant-loop-job : goal.invariant-loop-job
invariant-loop-job l = AllZip IsFoundOn (take l.job-index l.jobs) l.verdicts.items
