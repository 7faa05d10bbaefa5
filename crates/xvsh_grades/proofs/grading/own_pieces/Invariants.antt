use Rattle.std.proofs.Common.{take}
use Rattle.std.specs.List.{AllZip}
use Rattle.xvsh_grades.specs.Jobs.{IsOwnPiece}
use Rattle.xvsh_grades.specs.Marks.{own_tests}
use Rattle.xvsh_grades.proofs.grading.own_pieces.Given as goal

abbrev pub invariant-loop-test : goal.invariant-loop-test
invariant-loop-test l = AllZip IsOwnPiece (own_tests (take l.test-index l.tests)) l.pieces.items
