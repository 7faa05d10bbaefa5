use Rattle.std.proofs.Common.{◌≡◌, take, sum_by}
use Rattle.grade_report.specs.Sums.{capped, earned}
use Rattle.grade_report.proofs.rows.points_of.Given as goal

abbrev pub invariant-loop-row : goal.invariant-loop-row
invariant-loop-row l = l.points ≡ capped (sum_by earned (take l.row-index l.rows))
