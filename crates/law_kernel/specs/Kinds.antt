-- What the events of a run are: dispatches, calls that only put their process to sleep, and calls that do more.
use Rattle.std.specs.Prelude.{ℕ, ◌+◌, Bool, false, not, ◌&&◌, nat_lt, List, [], ◌∷◌, Option, Some, None}
use Rattle.user_calls.specs.declared.calls.Call.{Call}
use Rattle.user_calls.specs.declared.calls.Reply.{Reply}
use Rattle.proc_table.specs.Slots.{at, put_of, is_asleep, tally}
use Rattle.kernel_model.specs.declared.events.Event.{Event}
use Rattle.kernel_model.specs.declared.events.Event.TheVariants.{Dispatch, Trap}
use Rattle.kernel_model.specs.KernelState.{KernelState}
use Rattle.kernel_model.specs.Events.{happens}
use Rattle.kernel_model.specs.KernelRun.{KernelRun, start_of}

-- after its call pid sleeps, and the call put no byte into a pipe: a read of an empty pipe, a write to a full one, or a wait
abbrev pub fell_asleep : {S : Type 0} → KernelState S → ℕ → KernelState S → Bool
fell_asleep k pid new = is_asleep (at new.table pid) && not (nat_lt (put_of (at k.table pid)) (put_of (at new.table pid)))

-- tests of an event, by the kernels before and after it

abbrev pub only_sleeps : {S : Type 0} → KernelState S → Event → KernelState S → Bool
only_sleeps k (Dispatch h pid) new = false
only_sleeps k (Trap h pid) new = fell_asleep k pid new

abbrev pub does_more : {S : Type 0} → KernelState S → Event → KernelState S → Bool
does_more k (Dispatch h pid) new = false
does_more k (Trap h pid) new = not (fell_asleep k pid new)

-- a call after which its process doesn't sleep: it was carried out, or refused
abbrev pub stays_awake : {S : Type 0} → KernelState S → Event → KernelState S → Bool
stays_awake k (Dispatch h pid) new = false
stays_awake k (Trap h pid) new = not (is_asleep (at new.table pid))

module _ {S : Type 0} (call : S → Reply → Call) (next : S → Reply → S) (test : KernelState S → Event → KernelState S → Bool) where
  -- one for an event that passes the test, if it can happen
  abbrev pub count_event : KernelState S → Event → Option (KernelState S) → ℕ
  count_event k e None = 0
  count_event k e (Some new) = tally (test k e new)

  -- how many events of a run pass the test
  abbrev pub count_events : Option (KernelState S) → List Event → List Bool → ℕ
  count_events None events notes = 0
  count_events (Some k) [] notes = 0
  count_events (Some k) (e ∷ es) [] = 0
  count_events (Some k) (e ∷ es) (refused ∷ notes) = count_event k e (happens call next k e refused) + count_events (happens call next k e refused) es notes

  -- how many events of a run from the start pass the test
  abbrev pub count_in : KernelRun call next → ℕ
  count_in r = count_events (Some (start_of r)) r.schedule r.notes
