use Rattle.std.proofs.Common.{◌≡◌, ◌≤◌, ◌-◌, List, ◌++◌, length, take}
use Rattle.std.specs.List.{AllZip}
use Rattle.xvsh_grades.specs.Jobs.{IsMarkOf}
use Rattle.xvsh_grades.specs.declared.marks.Mark.{Mark}
use Rattle.xvsh_grades.proofs.grading.judge_own.Given as goal

-- the first pieces have their marks
abbrev pub invariant-batches : goal.invariant-batches
invariant-batches g l = record {
  within : l.done ≤ length l.pieces;
  found : (found : List Mark) × (l.book.marks.items ≡ l.fn.book.marks.items ++ found) × AllZip IsMarkOf (take l.done l.pieces) found;
  waiting : l.book.waiting ≡ l.fn.book.waiting;
  stays : g.H.Host.file l.host ≡ g.H.Host.file l.fn.host;
}

abbrev pub decreases-batches : goal.decreases-batches
decreases-batches g l = length l.pieces - l.done
