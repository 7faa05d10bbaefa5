use Rattle.std.proofs.Common.{take}
use Rattle.std.specs.List.{AllZip}
use Rattle.xvsh_grades.specs.Passed.{IsRowOf}
use Rattle.xvsh_grades.proofs.reporting.rows_of.Given as goal

abbrev pub invariant-loop-mark : goal.invariant-loop-mark
invariant-loop-mark l = AllZip IsRowOf (take l.mark-index l.marks) l.rows.items
