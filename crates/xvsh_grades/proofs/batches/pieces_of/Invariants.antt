use Rattle.std.proofs.Common.{map, take}
use Rattle.xvsh_grades.specs.Jobs.{ArePieces}
use Rattle.xvsh_grades.proofs.batches.pieces_of.Given as goal

abbrev pub invariant-loop-script : goal.invariant-loop-script
invariant-loop-script l = ArePieces (map (λ test. test.now) l.plan.tests.now) (take l.script-index l.scripts) l.pieces.items
