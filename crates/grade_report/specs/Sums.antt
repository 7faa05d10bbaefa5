-- What the rows of a report add up to.
use Rattle.std.specs.Prelude.{◌≡◌, ◌-◌, ◌^◌, ℕ, Bool, true, false, if◌then◌else◌, List, Option, Some, None, is_none, min, length, sum_by, count_by}
use Rattle.std.specs.Option.{option_copied}
use Rattle.grade_verdicts.specs.declared.verdict.Verdict.{Verdict}
use Rattle.grade_verdicts.specs.declared.verdict.Verdict.TheVariants.{Pass, PassEveryOrder}
use Rattle.grade_report.specs.declared.rows.Row.{Row}
use Rattle.grade_report.specs.declared.rows.Sum.{Sum}

-- there is a verdict, and it is one of the two that pass
abbrev pub is_pass : Option Verdict → Bool
is_pass (Some Pass) = true
is_pass (Some PassEveryOrder) = true
is_pass (Some _) = false
is_pass None = false

-- the points that a row gives
abbrev pub earned : Row → ℕ
earned row = if is_pass (option_copied row.verdict) then row.points else 0

-- a sum of points; the largest number that there is, where it is larger
abbrev pub capped : ℕ → ℕ
capped points = min points (2 ^ 64 - 1)

-- the points of the rows that pass, of all rows; and how many rows pass, there are, and have no verdict
pub record IsSumOf (rows : List Row) (total : Sum) : Type 0 where
  pub points : total.points ≡ capped (sum_by earned rows)
  pub of : total.of ≡ capped (sum_by (λ row. row.points) rows)
  pub passed : total.passed ≡ count_by (λ row. is_pass (option_copied row.verdict)) rows
  pub tests : total.tests ≡ length rows
  pub unjudged : total.unjudged ≡ count_by (λ row. is_none row.verdict) rows
