use Rattle.std.proofs.Common.{arith}
use Rattle.grade_jobs.specs.Judges.{IsFoundOn}
use Rattle.grade_jobs.proofs.Shared.{one_more}
use Rattle.grade_jobs.proofs.judging.verdicts_on.Goals as goal

pub loop-job-preserved : goal.loop-job-preserved
loop-job-preserved c =
    one_more IsFoundOn c.args.jobs.now c.loop-job.verdicts.items c.push.new.self.items c.loop-job.job-index c.job-item.result c.verdict_on.result
    (omega arith) c.job-item.is c.loop-job.invariant c.verdict_on.ensures c.in_ok-push.ensures.items
