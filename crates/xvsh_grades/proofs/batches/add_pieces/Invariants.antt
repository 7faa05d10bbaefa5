use Rattle.std.proofs.Common.{◌≡◌, List, ◌++◌, Some, map, take}
use Rattle.std.specs.List.{AllZip}
use Rattle.xvsh_grades.specs.Jobs.{IsPieceOf}
use Rattle.xvsh_grades.specs.declared.marks.Piece.{Piece}
use Rattle.xvsh_grades.proofs.batches.add_pieces.Given as goal

-- the tests so far have their pieces
abbrev pub invariant-loop-test : goal.invariant-loop-test
invariant-loop-test l =
    (more : List Piece) × (l.pieces.items ≡ l.fn.pieces.items ++ more) × AllZip (IsPieceOf (Some l.script.path.now) l.script.bytes.items) (map (λ test. test.now) (take l.test-index l.tests)) more
