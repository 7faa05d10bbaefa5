use Rattle.grade_jobs.proofs.Shared.{shared_job}
use Rattle.grade_jobs.proofs.known.shared.Goals as goal

pub returns-in-Ok : goal.returns-in-Ok
returns-in-Ok c =
    shared_job c.args.other.now c.args.job.now c.args.verdict.now c.in-Ok.copy (c.is_same_job.ensures.0 c.if-not-is_same_job.false) c.in-Ok.ensures c.requires
