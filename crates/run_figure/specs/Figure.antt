-- What of a run's events stands in its figure.
use Rattle.std.specs.Prelude.{◌≡◌, ◌≢◌, ℕ, ◌<◌, ◌-◌, ◌/◌, ◌%◌, ◌^◌, ◌&&◌, ◌==◌, nat_lt, Bool, true, false, cond, List, [], ◌∷◌, AllPairs, not, is_some, Option, Some, None, option_map, find, drop, slice_get}
use Rattle.std.specs.Option.{option_and_then}
use Rattle.trace_read.specs.declared.trace.Channel.{Channel}
use Rattle.trace_read.specs.declared.trace.Child.{Child}
use Rattle.trace_read.specs.declared.trace.Event.{Event}
use Rattle.trace_read.specs.declared.trace.Process.{Process}
use Rattle.trace_read.specs.declared.trace.Reply.{Reply}
use Rattle.trace_read.specs.declared.trace.Reply.TheVariants.{Ends}
use Rattle.trace_read.specs.declared.trace.State.{State}
use Rattle.trace_read.specs.declared.trace.State.TheVariants.{Runnable, Asleep}
use Rattle.trace_read.specs.declared.trace.Trap.{Trap}
use Rattle.run_figure.specs.declared.figure.Band.{Band}
use Rattle.run_figure.specs.declared.figure.Bar.{Bar}
use Rattle.run_figure.specs.declared.figure.Lane.{Lane}

abbrev pub pid_of : Child → ℕ
pid_of child = child.pid

abbrev pub child_in : Trap → Option ℕ
child_in trap = option_map pid_of trap.child

-- the slot of the child that a trap made
abbrev pub child_of : Option Trap → Option ℕ
child_of trap = option_and_then child_in trap

abbrev pub sleep_in : State → Option Channel
sleep_in (Asleep channel) = Some channel
sleep_in _ = None

abbrev pub sleep_of : Trap → Option Channel
sleep_of trap = sleep_in trap.state

-- what the process sleeps on after a trap
abbrev pub asleep_on : Option Trap → Option Channel
asleep_on trap = option_and_then sleep_of trap

abbrev pub end_in_reply : Reply → Option ℕ
end_in_reply (Ends reader _) = Some reader
end_in_reply _ = None

abbrev pub end_in_state : State → Option ℕ
end_in_state (Runnable reply) = end_in_reply reply
end_in_state _ = None

abbrev pub end_in : Trap → Option ℕ
end_in trap = end_in_state trap.state

-- the descriptor of the read end of the pipe that a trap made
abbrev pub read_end_of : Option Trap → Option ℕ
read_end_of trap = option_and_then end_in trap

-- a trap woke the process of this slot: its bit is set
abbrev pub wakes : Option Trap → ℕ → Bool
wakes None pid = false
wakes (Some trap) pid = nat_lt pid 64 && (((trap.woken / 2 ^ pid) % 2) == 1)

abbrev pub lane_for : Event → ℕ → Lane
lane_for event pid = record { process = record { pid = pid; born = event.number }; maker = event.process }

-- the lane of the process that the event made
unfoldable pub lane_of : Event → Option Lane
lane_of event = option_map (lane_for event) (child_of event.trap)

abbrev pub first_lane : ℕ → Lane
first_lane pid = record { process = record { pid = pid; born = 0 }; maker = record { pid = pid; born = 0 } }

-- the lanes of init and of the first shell, which no event makes
abbrev pub first_lanes : List Lane
first_lanes = first_lane 0 ∷ first_lane 1 ∷ []

-- no two lanes are of one process
abbrev pub AreApart : List Lane → Type 0
AreApart lanes = AllPairs (λ (one later : Lane). one.process ≢ later.process) lanes

-- the numbers of the events rise, from above this one on
abbrev pub Rise : ℕ → List Event → Type 0
Rise number [] = Unit {0}
Rise number (event ∷ events) = (number < event.number) × Rise event.number events

abbrev pub number_of : Event → ℕ
number_of event = event.number

-- the number of the first event behind so many that wakes the process of this slot
abbrev pub wake_of : List Event → ℕ → ℕ → Option ℕ
wake_of events count pid = option_map number_of (find (λ event. wakes event.trap pid) (drop count events))

abbrev pub bar_for : List Event → Event → Channel → Bar
bar_for events event channel = record { process = event.process; channel = channel; from = event.number; to = wake_of events event.number event.process.pid }

-- the bar of the sleep that begins at the event: to the first event behind it that wakes the process
unfoldable pub bar_of : List Event → Event → Option Bar
bar_of events event = option_map (bar_for events event) (asleep_on event.trap)

abbrev pub band_for : Event → ℕ → Band
band_for event reader = record { pipe = event.number; maker = event.process }

-- the band of the pipe that the event made
unfoldable pub band_of : Event → Option Band
band_of event = option_map (band_for event) (read_end_of event.trap)

abbrev pub is_slot : ℕ → Option ℕ → Bool
is_slot pid None = false
is_slot pid (Some child) = child == pid

-- the trap made a child in this slot
abbrev pub makes : ℕ → Event → Bool
makes pid event = is_slot pid (child_of event.trap)

abbrev pub made_by : ℕ → Option Event → Bool
made_by pid None = false
made_by pid (Some event) = makes pid event

-- a process was made by one of the first so many events, or it is init or the first shell
abbrev pub is_made : List Event → ℕ → Process → Bool
is_made events count process = cond (process.born == 0) (nat_lt process.pid 2) (cond (nat_lt count process.born) false (made_by process.pid (slice_get events (process.born - 1))))

-- whether two processes are the same, and two events are of the same kind, on the same hart, of the same process
abbrev pub is_same_process : Process → Process → Bool
is_same_process one other = one.pid == other.pid && one.born == other.born

abbrev pub is_same_turn : Event → Event → Bool
is_same_turn one other = cond (is_some one.trap) (is_some other.trap) (not (is_some other.trap)) && (one.hart == other.hart && is_same_process one.process other.process)

abbrev pub are_same_turns : Option Event → Option Event → Bool
are_same_turns (Some one) (Some other) = is_same_turn one other
are_same_turns _ _ = false

-- whether both have an event of this place, and these are the same
abbrev pub is_same_at : List Event → List Event → ℕ → Bool
is_same_at one other place = are_same_turns (slice_get one place) (slice_get other place)

-- with so many same events both begin, and not with more
pub record BeginAlike (one other : List Event) (count : ℕ) : Type 0 where
  pub same : (place : ℕ) → place < count → is_same_at one other place ≡ true
  pub parted : is_same_at one other count ≡ false
