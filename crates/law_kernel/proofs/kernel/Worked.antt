-- The definitions at work: small runs that compute.
use Rattle.std.proofs.Common.{◌≡◌, ℕ, List, [], ◌∷◌, Option, Some, None, refl}
use Rattle.user_calls.specs.declared.calls.Call.{Call}
use Rattle.user_calls.specs.declared.calls.Call.TheVariants.{Fork, Exit, Wait, MakePipe, Read, Write, Close}
use Rattle.user_calls.specs.declared.calls.Reply.{Reply}
use Rattle.user_calls.specs.declared.calls.Reply.TheVariants.{Start, Child, Done, Bytes, Fd, Ends, Refused}
use Rattle.proc_table.specs.declared.states.Channel.TheVariants.{PipeBytes, Children}
use Rattle.proc_table.specs.declared.states.State.{State}
use Rattle.proc_table.specs.declared.states.State.TheVariants.{Free, Runnable, Asleep, Zombie}
use Rattle.proc_table.specs.Slots.{Slot, at, state_of, parent_of}
use Rattle.kernel_model.specs.declared.events.Event.{Event}
use Rattle.kernel_model.specs.declared.events.Event.TheVariants.{Dispatch, Trap}
use Rattle.kernel_model.specs.declared.events.Full.{Full}
use Rattle.kernel_model.specs.KernelState.{KernelState}
use Rattle.kernel_model.specs.Boot.{boot_kernel}
use Rattle.kernel_model.specs.Quiet.{no_refusals}
use Rattle.kernel_model.specs.Descriptors.{closed_below}
use Rattle.kernel_model.specs.Events.{run}
use Rattle.law_kernel.specs.Flow.{put_by, taken_by, all_moved}

-- ---- a machine that makes the calls of a list, and its child those of another

record Script : Type 0 where
  own : List Call
  child : List Call

abbrev first : List Call → Call
first [] = Exit
first (c ∷ cs) = c

abbrev rest : List Call → List Call
rest [] = []
rest (c ∷ cs) = cs

-- the calls that are left
abbrev left : Script → Reply → List Call
left s Start = s.own
left s Child = s.child
left s Done = s.own
left s (Bytes b) = s.own
left s (Fd fd) = s.own
left s (Ends reader writer) = s.own
left s Refused = s.own

abbrev script_call : Script → Reply → Call
script_call s reply = first (left s reply)

abbrev script_next : Script → Reply → Script
script_next s reply = record { own = rest (left s reply); child = s.child }

-- ---- runs on one hart

-- pid runs up to its next call, and makes it
abbrev turn : ℕ → List Event → List Event
turn pid later = Dispatch 0 pid ∷ Trap 0 pid ∷ later

abbrev booted : List Call → List Call → KernelState Script
booted shell child = boot_kernel (record { own = Wait ∷ []; child = [] }) (record { own = shell; child = child }) [] []

abbrev after : KernelState Script → List Event → Option (KernelState Script)
after k events = run script_call script_next (Some k) events (no_refusals events)

-- what is shown of a slot, once the run can happen
abbrev told : {X : Type 0} → X → (Slot Script → X) → ℕ → Option (KernelState Script) → X
told none tell pid None = none
told none tell pid (Some k) = tell (at k.table pid)

abbrev state_in : Option (KernelState Script) → ℕ → State
state_in k pid = told Free state_of pid k

abbrev reply_of : Slot Script → Reply
reply_of None = Start
reply_of (Some p) = p.reply

abbrev reply_in : Option (KernelState Script) → ℕ → Reply
reply_in k pid = told Start reply_of pid k

abbrev mark_in : Option (KernelState Script) → Option Full
mark_in None = None
mark_in (Some k) = k.full

-- ---- a write wakes the sleeping reader

abbrev piped : KernelState Script
piped = booted (MakePipe ∷ Fork ∷ Write 4 (97 ∷ []) ∷ Close 4 ∷ []) (Close 4 ∷ Read 3 10 ∷ Read 3 10 ∷ [])

-- the child sleeps on the pipe that the second event made
abbrev reader_waits : List Event
reader_waits = turn 1 (turn 1 (turn 2 (turn 2 [])))

it_sleeps : state_in (after piped reader_waits) 2 ≡ Asleep (PipeBytes 2)
it_sleeps = refl

abbrev writer_writes : List Event
writer_writes = turn 1 (turn 1 (turn 2 (turn 2 (turn 1 []))))

it_is_woken : state_in (after piped writer_writes) 2 ≡ Runnable
it_is_woken = refl

abbrev reader_reads : List Event
reader_reads = turn 1 (turn 1 (turn 2 (turn 2 (turn 1 (turn 2 [])))))

it_gets_the_byte : reply_in (after piped reader_reads) 2 ≡ Bytes (97 ∷ [])
it_gets_the_byte = refl

it_was_put : all_moved script_call script_next (put_by 2) (Some piped) reader_reads (no_refusals reader_reads) ≡ 97 ∷ []
it_was_put = refl

it_was_taken : all_moved script_call script_next (taken_by 2) (Some piped) reader_reads (no_refusals reader_reads) ≡ 97 ∷ []
it_was_taken = refl

-- ---- end of file after the last close

abbrev reads_on : List Event
reads_on = turn 1 (turn 1 (turn 2 (turn 2 (turn 1 (turn 2 (turn 2 []))))))

it_sleeps_again : state_in (after piped reads_on) 2 ≡ Asleep (PipeBytes 2)
it_sleeps_again = refl

abbrev writer_closes : List Event
writer_closes = turn 1 (turn 1 (turn 2 (turn 2 (turn 1 (turn 2 (turn 2 (turn 1 (turn 2 []))))))))

it_meets_the_end : reply_in (after piped writer_closes) 2 ≡ Bytes []
it_meets_the_end = refl

-- ---- an exit wakes the parent, and hands children to init

abbrev family : KernelState Script
family = booted (Fork ∷ Wait ∷ []) (Fork ∷ [])

-- 2 is the shell's child, and 3 is a child of 2; init and the shell sleep
abbrev all_wait : List Event
all_wait = turn 1 (turn 2 (turn 1 (turn 0 [])))

parent_sleeps : state_in (after family all_wait) 1 ≡ Asleep (Children 1)
parent_sleeps = refl

its_own_child : told 0 parent_of 3 (after family all_wait) ≡ 2
its_own_child = refl

abbrev child_exits : List Event
child_exits = turn 1 (turn 2 (turn 1 (turn 0 (turn 2 []))))

it_is_a_zombie : state_in (after family child_exits) 2 ≡ Zombie
unfolding closed_below
it_is_a_zombie = refl

parent_is_woken : state_in (after family child_exits) 1 ≡ Runnable
unfolding closed_below
parent_is_woken = refl

init_sleeps_on : state_in (after family child_exits) 0 ≡ Asleep (Children 0)
unfolding closed_below
init_sleeps_on = refl

init_has_the_child : told 1 parent_of 3 (after family child_exits) ≡ 0
unfolding closed_below
init_has_the_child = refl

-- ---- a write to a pipe without a reader is refused, and marks nothing

abbrev alone : KernelState Script
alone = booted (MakePipe ∷ Close 3 ∷ Write 4 (97 ∷ []) ∷ []) []

abbrev writes_to_nobody : List Event
writes_to_nobody = turn 1 (turn 1 (turn 1 []))

it_is_refused : reply_in (after alone writes_to_nobody) 1 ≡ Refused
it_is_refused = refl

nothing_is_marked : mark_in (after alone writes_to_nobody) ≡ None
nothing_is_marked = refl
