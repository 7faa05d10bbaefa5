use Rattle.std.proofs.Common.{◌≡◌, if◌then◌else◌, ap, sum_by, ◌∙◌}
use Rattle.grade_report.specs.Sums.{capped, earned, is_pass}
use Rattle.grade_report.specs.declared.rows.Row.{Row}
use Rattle.xvsh_grades.specs.Passed.{IsRowOf, points_of, worth_of}
use Rattle.xvsh_grades.specs.declared.marks.Mark.{Mark}
use Rattle.xvsh_grades.proofs.Growing.{same_sum}
use Rattle.xvsh_grades.proofs.reporting.report_of.Goals as goal

same_points : (mark : Mark) (row : Row) → IsRowOf mark row → earned row ≡ points_of mark
same_points mark row h = ap (λ v. if is_pass v then row.points else 0) h.verdict ∙ ap (λ p. if is_pass mark.verdict then p else 0) h.points

pub returns : goal.returns
returns c =
    let marks = c.args.marks.now in
    let rows = c.in_ok-rows.rows.items in
    record {
      passed = c.are_passed.ensures;
      judged = c.are_judged.ensures;
      points = c.sum_of.ensures.points ∙ ap (λ r. capped (sum_by earned r)) c.as_slice-2.ensures.value ∙ ap capped (same_sum IsRowOf points_of earned same_points marks rows c.in_ok-rows.ensures);
      of = c.sum_of.ensures.of ∙ ap (λ r. capped (sum_by (λ row. row.points) r)) c.as_slice-2.ensures.value ∙ ap capped (same_sum IsRowOf worth_of (λ row. row.points) (λ mark row h. h.points) marks rows c.in_ok-rows.ensures);
    }
