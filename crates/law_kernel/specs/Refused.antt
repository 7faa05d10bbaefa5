-- A call that is refused.
use Rattle.std.specs.Prelude.{◌≡◌, Option, Some, None}
use Rattle.user_calls.specs.declared.calls.Reply.TheVariants.{Refused}
use Rattle.proc_table.specs.declared.states.Status.TheVariants.{Runnable}
use Rattle.proc_table.specs.Slots.{Slot}
use Rattle.kernel_model.specs.declared.events.Full.{Full}
use Rattle.kernel_model.specs.KernelState.{KernelState}

-- the slot's process goes on, and its call was refused
abbrev pub IsRefused : {S : Type 0} → Slot S → Type 0
IsRefused None = ⊥
IsRefused (Some p) = (p.status ≡ Runnable) × (p.reply ≡ Refused)

-- the kernel with this mark
abbrev pub with_mark : {S : Type 0} → KernelState S → Option Full → KernelState S
with_mark k full = record k { full = full }
