-- So many entries were copied.
use Rattle.std.proofs.Common.{◌≡◌, take}
use Rattle.mem_files.proofs.set.Files.copy.Given as goal

abbrev pub invariant-loop-entry : goal.invariant-loop-entry
invariant-loop-entry g l = l.entries.items ≡ take l.entry-index l.entry-items
