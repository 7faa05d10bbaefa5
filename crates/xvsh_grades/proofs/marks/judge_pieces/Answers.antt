use Rattle.std.proofs.Common.{Option, Some, None, subst, sym, ◌∙◌}
use Rattle.std.specs.List.{AllZip}
use Rattle.grade_verdicts.specs.Judged.{IsJudged}
use Rattle.grade_verdicts.specs.declared.verdict.Verdict.{Verdict}
use Rattle.grade_jobs.specs.Ways.{RunsRightInEveryWay}
use Rattle.grade_jobs.specs.Judges.{IsFoundOn, IsVerdictOn}
use Rattle.grade_jobs.specs.declared.judging.Job.{Job}
use Rattle.xvsh_grades.specs.Jobs.{IsFoundOf, IsJobOf}
use Rattle.xvsh_grades.specs.Marks.{IsVerdictOf}
use Rattle.xvsh_grades.specs.declared.marks.Piece.{Piece}
use Rattle.xvsh_grades.proofs.Joined.{joined}
use Rattle.xvsh_grades.proofs.marks.judge_pieces.Goals as goal

-- what is due of its job is due of the piece
of_job : (piece : Piece) (job : Job) (verdict : Verdict) → IsJobOf piece job → IsVerdictOn job verdict → IsVerdictOf piece.test.now piece.bytes.now verdict
of_job piece job verdict h k =
    record {
      t = job.task;
      task = h.task;
      due = subst (λ bytes. IsJudged job.task bytes verdict) h.bytes k.due;
      ways = λ asked. subst (λ bytes. RunsRightInEveryWay job.task bytes verdict) h.bytes (k.ways (h.every_way ∙ asked));
    }

-- so it is of what was found
of_found : (piece : Piece) (job : Job) (found : Option Verdict) → IsJobOf piece job → IsFoundOn job found → IsFoundOf piece found
of_found piece job None h k = tt
of_found piece job (Some verdict) h k = of_job piece job verdict h k

pub returns : goal.returns
returns g c =
    let pieces = c.args.pieces.now in
    joined IsJobOf IsFoundOn IsFoundOf of_found pieces c.as_slice.result.now c.in_ok-verdicts.verdicts.items
    (subst (AllZip IsJobOf pieces) (sym c.as_slice.ensures.value) c.in_ok-jobs.ensures) c.in_ok-verdicts.ensures
