use Rattle.std.proofs.Common.{◌≡◌, List, ◌++◌, drop, length, take}
use Rattle.std.specs.List.{AllZip}
use Rattle.std.specs.Vec.Iter.{into_iter_items, into_iter_len}
use Rattle.xvsh_grades.specs.Jobs.{IsFoundOf, IsMarkOf}
use Rattle.xvsh_grades.specs.declared.marks.Mark.{Mark}
use Rattle.xvsh_grades.proofs.marks.add_marks.Given as goal

-- the pieces so far have their marks, and the verdicts of the others are left
abbrev pub invariant-loop-piece : goal.invariant-loop-piece
invariant-loop-piece l = record {
  left : AllZip IsFoundOf (drop l.piece-index l.pieces) (into_iter_items l.left);
  long : into_iter_len l.left ≡ length (into_iter_items l.left);
  found : (found : List Mark) × (l.marks.items ≡ l.fn.marks.items ++ found) × AllZip IsMarkOf (take l.piece-index l.pieces) found;
}
