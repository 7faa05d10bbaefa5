-- The places so far are equal.
use Rattle.std.proofs.Common.{◌≡◌, length, take}
use Rattle.fd_table.specs.declared.entries.TheConstants.{ENTRIES}
use Rattle.fd_table.proofs.entries.OpenFiles.copy_from.Given as goal

abbrev pub invariant-loop-place : goal.invariant-loop-place
invariant-loop-place l = (length l.self-inside.slots ≡ ENTRIES) × (take l.place l.self-inside.slots ≡ take l.place l.other-inside.slots)
