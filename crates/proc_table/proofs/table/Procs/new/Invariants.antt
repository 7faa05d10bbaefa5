-- So far init, the shell and the free slots are there.
use Rattle.std.proofs.Common.{◌≡◌, Some, None, ◌∷◌}
use Rattle.std.specs.Prelude.{replicate}
use Rattle.proc_table.specs.Calls.{booted}
use Rattle.proc_table.proofs.table.Procs.new.Given as goal

abbrev pub invariant-loop-free : goal.invariant-loop-free
invariant-loop-free g l = l.slots.items ≡ Some (booted None (g.M.Machine.view l.fn.init)) ∷ Some (booted (Some 0) (g.M.Machine.view l.fn.shell)) ∷ replicate l._free None
