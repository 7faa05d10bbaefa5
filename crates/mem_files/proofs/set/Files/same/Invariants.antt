-- So many files are the same.
use Rattle.std.proofs.Common.{◌≡◌, take}
use Rattle.mem_files.proofs.set.Files.same.Given as goal

abbrev pub invariant-loop-i : goal.invariant-loop-i
invariant-loop-i g l = take l.i l.self ≡ take l.i l.other
