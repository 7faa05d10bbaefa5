use Rattle.std.proofs.Common.{arith}
use Rattle.xvsh_grades.specs.Jobs.{IsJobOf}
use Rattle.xvsh_grades.proofs.Joined.{one_more}
use Rattle.xvsh_grades.proofs.marks.jobs_of.Goals as goal

pub loop-piece-preserved : goal.loop-piece-preserved
loop-piece-preserved c =
    one_more IsJobOf c.args.pieces.now c.loop-piece.jobs.items c.push.new.self.items c.loop-piece.piece-index c.piece-item.result c.job_of.result
    (omega arith) c.piece-item.is c.loop-piece.invariant c.job_of.ensures c.in_ok-push.ensures.items
