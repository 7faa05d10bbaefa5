-- When tests are passed, and what they are worth.
use Rattle.std.specs.Prelude.{◌≡◌, ◌≢◌, ◌⊎◌, ◌↔◌, ℕ, IsTrue, if◌then◌else◌, List, [], Some, None, All, string_bytes, sum_by}
use Rattle.std.specs.Option.{option_copied}
use Rattle.grade_verdicts.specs.declared.verdict.Verdict.TheVariants.{Pass, PassEveryOrder}
use Rattle.grade_report.specs.Sums.{capped, is_pass}
use Rattle.grade_report.specs.declared.rows.Row.{Row}
use Rattle.xvsh_grades.specs.declared.marks.Mark.{Mark}
use Rattle.xvsh_grades.specs.declared.request.Report.{Report}

-- the mark gives its test's points
abbrev pub IsPassed : Mark → Type 0
IsPassed mark = (mark.verdict ≡ Some Pass) ⊎ (mark.verdict ≡ Some PassEveryOrder)

-- it is a verdict at all
abbrev pub HasVerdict : Mark → Type 0
HasVerdict mark = mark.verdict ≢ None

-- there is a mark, and each gives its test's points
abbrev pub AreAllPassed : List Mark → Type 0
AreAllPassed marks = (marks ≢ []) × All IsPassed marks

-- the points that the mark gives, and those that it could give
abbrev pub points_of : Mark → ℕ
points_of mark = if is_pass mark.verdict then mark.test.now.points else 0

abbrev pub worth_of : Mark → ℕ
worth_of mark = mark.test.now.points

-- the row is that of the mark
pub record IsRowOf (mark : Mark) (row : Row) : Type 0 where
  pub script : row.script ≡ mark.script
  pub name : row.test.now ≡ string_bytes mark.test.now.name
  pub points : row.points ≡ mark.test.now.points
  pub verdict : option_copied row.verdict ≡ mark.verdict

-- the report is of these marks
pub record IsReportOf (marks : List Mark) (report : Report) : Type 0 where
  pub passed : IsTrue report.has_passed ↔ AreAllPassed marks
  pub judged : IsTrue report.is_judged ↔ All HasVerdict marks
  pub points : report.sum.points ≡ capped (sum_by points_of marks)
  pub of : report.sum.of ≡ capped (sum_by worth_of marks)

-- the status of these marks: 4 where memory was refused to one, 0 where there is one and all are passed, else 3
pub data IsStatusOf (marks : List Mark) : ℕ → Type 0 where
  not_judged : (All HasVerdict marks → ⊥) → IsStatusOf marks 4
  all_passed : AreAllPassed marks → IsStatusOf marks 0
  not_passed : All HasVerdict marks → (AreAllPassed marks → ⊥) → IsStatusOf marks 3
