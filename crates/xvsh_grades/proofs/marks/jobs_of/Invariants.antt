use Rattle.std.proofs.Common.{take}
use Rattle.std.specs.List.{AllZip}
use Rattle.xvsh_grades.specs.Jobs.{IsJobOf}
use Rattle.xvsh_grades.proofs.marks.jobs_of.Given as goal

abbrev pub invariant-loop-piece : goal.invariant-loop-piece
invariant-loop-piece l = AllZip IsJobOf (take l.piece-index l.pieces) l.jobs.items
