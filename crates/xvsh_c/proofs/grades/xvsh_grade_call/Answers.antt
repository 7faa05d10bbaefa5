use Rattle.std.proofs.Common.{Bool, inl, subst}
use Rattle.embed.specs.Grades.{IsGradeAnswer}
use Rattle.xvsh_c.proofs.grades.xvsh_grade_call.Goals as goal

pub returns-in-Ok : goal.returns-in-Ok
returns-in-Ok c = inl (c.in-Ok.report, subst (λ (on : Bool). IsGradeAnswer c.args.task.now c.args.suite.now c.args.states on c.in-Ok.report) c.is_on.ensures c.in-Ok.ensures.graded, c.put_graded.ensures)
