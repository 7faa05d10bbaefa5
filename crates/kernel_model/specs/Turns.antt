-- Runs by turns: hart 0 dispatches a process, and at once the call of this process is carried out.
use Rattle.std.specs.Prelude.{◌≡◌, ℕ, Bool, false, List, [], ◌∷◌, Option, Some}
use Rattle.user_calls.specs.declared.calls.Call.{Call}
use Rattle.user_calls.specs.declared.calls.Reply.{Reply}
use Rattle.kernel_model.specs.declared.events.Event.{Event}
use Rattle.kernel_model.specs.declared.events.Event.TheVariants.{Dispatch, Trap}
use Rattle.kernel_model.specs.KernelState.{KernelState}
use Rattle.kernel_model.specs.Events.{run}

-- a turn: whose it is, and whether memory is refused at its call
pub record Turn : Type 0 where
  pub pid : ℕ
  pub refused : Bool

-- the calls of a schedule as turns, in their order
abbrev pub turns_of : List Event → List Bool → List Turn
turns_of [] notes = []
turns_of (e ∷ es) [] = []
turns_of (Dispatch h pid ∷ es) (refused ∷ notes) = turns_of es notes
turns_of (Trap h pid ∷ es) (refused ∷ notes) = record { pid = pid; refused = refused } ∷ turns_of es notes

-- the two events of each turn, and their notes
abbrev pub turn_events : List Turn → List Event
turn_events [] = []
turn_events (t ∷ ts) = Dispatch 0 t.pid ∷ Trap 0 t.pid ∷ turn_events ts

abbrev pub turn_notes : List Turn → List Bool
turn_notes [] = []
turn_notes (t ∷ ts) = false ∷ t.refused ∷ turn_notes ts

-- turns of these processes, at none of which memory is refused
abbrev pub quiet_turns : List ℕ → List Turn
quiet_turns [] = []
quiet_turns (pid ∷ pids) = record { pid = pid; refused = false } ∷ quiet_turns pids

-- whose calls a schedule carries out, in their order
abbrev pub callers : List Event → List ℕ
callers [] = []
callers (Dispatch h pid ∷ es) = callers es
callers (Trap h pid ∷ es) = pid ∷ callers es

module _ {S : Type 0} (call : S → Reply → Call) (next : S → Reply → S) where
  -- the kernel after these turns, or None where one of them can't be taken
  abbrev pub by_turns : Option (KernelState S) → List Turn → Option (KernelState S)
  by_turns k ts = run call next k (turn_events ts) (turn_notes ts)

  -- the kernel after turns of these processes, or of this one, at which memory isn't refused
  abbrev pub after_turns : KernelState S → List ℕ → Option (KernelState S)
  after_turns k pids = by_turns (Some k) (quiet_turns pids)

  abbrev pub after_turn : KernelState S → ℕ → Option (KernelState S)
  after_turn k pid = after_turns k (pid ∷ [])

  -- such turns lead from the start to k
  pub record IsReachedFrom (start k : KernelState S) : Type 0 where
    pub pids : List ℕ
    pub turns : after_turns start pids ≡ Some k
