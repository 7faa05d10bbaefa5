-- A fork that finds a free slot, and another process's turn, in either order.
use Rattle.std.specs.Prelude.{◌≡◌, ◌≢◌, ℕ, Some, None}
use Rattle.user_calls.specs.declared.calls.Call.{Call}
use Rattle.user_calls.specs.declared.calls.Call.TheVariants.{Fork}
use Rattle.user_calls.specs.declared.calls.Reply.{Reply}
use Rattle.proc_table.specs.declared.states.Status.TheVariants.{Runnable}
use Rattle.proc_table.specs.Slots.{Process, at}
use Rattle.proc_table.specs.Calls.{lowest_free}
use Rattle.kernel_model.specs.KernelState.{KernelState}

-- some slot is free
abbrev pub HasSlot : {S : Type 0} → KernelState S → Type 0
HasSlot k = lowest_free k.table ≢ None
