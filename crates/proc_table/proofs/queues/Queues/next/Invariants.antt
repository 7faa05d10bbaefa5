-- The queues that were looked at are empty.
use Rattle.std.proofs.Common.{◌≡◌, ◌+◌, ◌%◌, ◌<◌, ℕ, None}
use Rattle.std.specs.Prelude.{slice_get}
use Rattle.slot_lists.specs.Links.{slots_of}
use Rattle.proc_table.proofs.queues.Queues.next.Given as goal

abbrev pub invariant-loop-away : goal.invariant-loop-away
invariant-loop-away l = (k : ℕ) → k < l.away → slice_get (slots_of l.self.lists ((l.hart + k) % 8)) 0 ≡ None
