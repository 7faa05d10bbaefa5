-- The children so far are init's, and those that are left are still to be given.
use Rattle.std.proofs.Common.{◌≡◌, count_by}
use Rattle.std.specs.Prelude.{map}
use Rattle.proc_table.specs.Calls.{given}
use Rattle.proc_table.specs.Slots.{is_child_of}
use Rattle.proc_table.proofs.table.Procs.give_all.Given as goal

abbrev pub invariant-loop-child : goal.invariant-loop-child
invariant-loop-child g l = map (given l.pid) l.self ≡ map (given l.pid) l.initial.self

abbrev pub decreases-loop-child : goal.decreases-loop-child
decreases-loop-child g l = count_by (is_child_of l.pid) l.self
