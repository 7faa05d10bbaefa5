use Rattle.std.proofs.Common.{◌∙◌, refl, subst, sym}
use Rattle.xvsh_grades.specs.Endings.{EndsGrading, fault, graded}
use Rattle.xvsh_grades.proofs.ending.run_grade.Goals as goal

pub returns-in-Ok : goal.returns-in-Ok
returns-in-Ok g c =
    let report = c.in-Ok.ensures in
    graded report.0 c.in-Ok.report report.1 report.2 (c.write_report.ensures report.0 report.2)

pub returns-in-Err : goal.returns-in-Err
returns-in-Err g c =
    subst (EndsGrading (g.H.Host.input c.args.console.now.host) (g.H.Host.file c.args.console.now.host) c.args.request.now (g.W.Write.contents c.args.console.now.out) (g.W.Write.contents c.args.console.now.out))
    (sym (c.code.ensures ∙ c.status.ensures)) (fault c.in-Err.fault refl)
