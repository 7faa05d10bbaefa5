use Rattle.std.proofs.Common.{◌≡◌, map, take}
use Rattle.grade_verdicts.specs.Same.{named}
use Rattle.grade_verdicts.proofs.sameness.are_same_files.Given as goal

-- so many files are the same
abbrev pub invariant-loop-i : goal.invariant-loop-i
invariant-loop-i l = take l.i (map named l.one) ≡ take l.i (map named l.other)
