-- How a call ends: the process goes on with a reply, is refused because something is full, or sleeps.
use Rattle.std.specs.Prelude.{ℕ, Option, Some, None}
use Rattle.user_calls.specs.declared.calls.Reply.{Reply}
use Rattle.user_calls.specs.declared.calls.Reply.TheVariants.{Refused}
use Rattle.proc_table.specs.declared.states.Channel.{Channel}
use Rattle.proc_table.specs.Calls.{readied, slept, all_woken}
use Rattle.kernel_model.specs.declared.events.Full.{Full}
use Rattle.kernel_model.specs.KernelState.{KernelState}

-- pid goes on with its machine after the call and this reply (`yield`)
abbrev pub answered : {S : Type 0} → KernelState S → ℕ → S → Reply → KernelState S
answered k pid after reply = record k { table = readied k.table pid after reply }

-- the mark after a refusal: the first one is kept
abbrev pub marked : Option Full → Full → Option Full
marked None full = Some full
marked (Some first) full = Some first

-- the call is refused because something is full, and marked so
abbrev pub refused_for : {S : Type 0} → KernelState S → ℕ → S → Full → KernelState S
refused_for k pid after full = record (answered k pid after Refused) { full = marked k.full full }

-- pid sleeps on the channel with so many bytes put (`sleep`); it keeps its machine before the call, which it makes again
abbrev pub sleeps : {S : Type 0} → KernelState S → ℕ → Channel → ℕ → KernelState S
sleeps k pid channel put = record k { table = slept k.table pid channel put }

-- all that sleep on the channel are woken (`wakeup`)
abbrev pub wakes : {S : Type 0} → Channel → KernelState S → KernelState S
wakes channel k = record k { table = all_woken channel k.table }
