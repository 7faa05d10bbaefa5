use Rattle.std.proofs.Common.{◌≡◌, take, sum_by}
use Rattle.grade_report.specs.Sums.{capped}
use Rattle.grade_report.proofs.rows.most_of.Given as goal

abbrev pub invariant-loop-row : goal.invariant-loop-row
invariant-loop-row l = l.points ≡ capped (sum_by (λ row. row.points) (take l.row-index l.rows))
