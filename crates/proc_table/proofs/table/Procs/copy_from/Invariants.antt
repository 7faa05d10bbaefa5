-- The heads are equal, and the slots so far.
use Rattle.std.proofs.Common.{◌≡◌, length, take}
use Rattle.proc_table.specs.declared.pid.TheConstants.{PROCS}
use Rattle.proc_table.proofs.table.Procs.copy_from.Given as goal

abbrev pub invariant-loop-index : goal.invariant-loop-index
invariant-loop-index g l = (length l.self-inside.slots.items ≡ PROCS) × (l.self-inside.heads ≡ l.other-inside.heads) × (take l.index l.self-inside.slots.items ≡ take l.index l.other-inside.slots.items)
