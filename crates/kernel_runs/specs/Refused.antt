-- Why a schedule isn't the one of a finished run.
use Rattle.std.specs.Prelude.{◌≡◌, ℕ, ◌+◌, Bool, List, ◌∷◌, ◌++◌, Some, length}
use Rattle.user_calls.specs.declared.calls.Call.{Call}
use Rattle.user_calls.specs.declared.calls.Reply.{Reply}
use Rattle.sh_machine.specs.State.{User}
use Rattle.sh_machine.specs.Turn.{call_of, next_of}
use Rattle.kernel_model.specs.declared.events.Event.{Event}
use Rattle.kernel_model.specs.declared.events.Event.TheVariants.{Dispatch, Trap}
use Rattle.kernel_model.specs.KernelState.{KernelState}
use Rattle.kernel_model.specs.Events.{run, IsFinished}
use Rattle.kernel_events.specs.Possible.{CanHappen}
use Rattle.kernel_runs.specs.declared.replaying.ReplayFault.{ReplayFault}
use Rattle.kernel_runs.specs.declared.replaying.ReplayFault.TheVariants.{NotRunnable, NotRunning, Unfinished, Memory}

-- the fault of an event of this number that can't take place
abbrev pub refused_at : Event → ℕ → ReplayFault
refused_at (Dispatch h pid) number = NotRunnable number
refused_at (Trap h pid) number = NotRunning number

-- these first events took place and led to this kernel, in which the next one can't take place; this is its fault
pub record Stops {S : Type 0} (k : KernelState S) (before events : List Event) (fault : ReplayFault) : Type 0 where
  pub event : Event
  pub after : List Event
  pub split : events ≡ before ++ event ∷ after
  pub impossible : CanHappen k.table event → ⊥
  pub told : fault ≡ refused_at event (length before + 1)

-- the events stopped at one that can't take place, or memory was refused
abbrev pub StopsAt : {S : Type 0} → KernelState S → List Event → List Event → ReplayFault → Type 0
StopsAt k before events (NotRunnable number) = Stops k before events (NotRunnable number)
StopsAt k before events (NotRunning number) = Stops k before events (NotRunning number)
StopsAt k before events Unfinished = ⊥
StopsAt k before events Memory = Unit {0}

module _ {S : Type 0} (call : S → Reply → Call) (next : S → Reply → S) where
  -- a run by the first of the events leads to a kernel in which the next one can't take place; this is its fault
  pub record StopsFrom (start : KernelState S) (events : List Event) (fault : ReplayFault) : Type 0 where
    pub before : List Event
    pub notes : List Bool
    pub last : KernelState S
    pub runs : run call next (Some start) before notes ≡ Some last
    pub stops : Stops last before events fault

  -- a run by all of the events leads to a kernel that isn't finished
  pub record EndsEarly (start : KernelState S) (events : List Event) : Type 0 where
    pub notes : List Bool
    pub last : KernelState S
    pub runs : run call next (Some start) events notes ≡ Some last
    pub unfinished : IsFinished last → ⊥

  -- why there is no report of a finished run by these events
  abbrev pub IsFaultFrom : KernelState S → List Event → ReplayFault → Type 0
  IsFaultFrom start events (NotRunnable number) = StopsFrom start events (NotRunnable number)
  IsFaultFrom start events (NotRunning number) = StopsFrom start events (NotRunning number)
  IsFaultFrom start events Unfinished = EndsEarly start events
  IsFaultFrom start events Memory = Unit {0}

-- the same of a script
abbrev pub IsReplayFault : KernelState User → List Event → ReplayFault → Type 0
IsReplayFault start events fault = IsFaultFrom call_of next_of start events fault
