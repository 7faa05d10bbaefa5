-- What an event changed, by the kernel before it and the kernel after it.
use Rattle.std.specs.Prelude.{◌≡◌, ℕ, Bool, ◌&&◌, not, Option, Some, None, IfSome, drop, length}
use Rattle.mem_files.specs.Name.{Bytes}
use Rattle.user_calls.specs.declared.calls.Call.{Call}
use Rattle.user_calls.specs.declared.calls.Reply.{Reply}
use Rattle.proc_table.specs.Slots.{at, is_asleep, is_free, is_runnable}
use Rattle.kernel_model.specs.declared.events.Event.{Event}
use Rattle.kernel_model.specs.declared.events.Event.TheVariants.{Dispatch, Trap}
use Rattle.kernel_model.specs.declared.events.Full.{Full}
use Rattle.kernel_model.specs.KernelState.{KernelState}

-- the process was woken: it slept, and is Runnable now
abbrev pub is_woken : {S : Type 0} → KernelState S → KernelState S → ℕ → Bool
is_woken old new pid = is_asleep (at old.table pid) && is_runnable (at new.table pid)

-- the process was made: its slot was free
abbrev pub is_made : {S : Type 0} → KernelState S → KernelState S → ℕ → Bool
is_made old new pid = is_free (at old.table pid) && not (is_free (at new.table pid))

-- the process is gone: its slot is free now
abbrev pub is_gone : {S : Type 0} → KernelState S → KernelState S → ℕ → Bool
is_gone old new pid = not (is_free (at old.table pid)) && is_free (at new.table pid)

-- the bytes that were added behind the old ones
abbrev pub added : Bytes → Bytes → Bytes
added old new = drop (length old) new

-- what was full for the first time
abbrev pub newly_full : Option Full → Option Full → Option Full
newly_full None full = full
newly_full (Some first) full = None

-- the call that an event carries out is the one that the machine of its process makes of its last reply; a dispatch carries none out
abbrev pub IsCallOf : {S : Type 0} → (S → Reply → Call) → KernelState S → Event → Call → Type 0
IsCallOf call_of old (Dispatch hart pid) call = Unit {0}
IsCallOf call_of old (Trap hart pid) call = IfSome (at old.table pid) (λ process. call ≡ call_of process.machine process.reply)
