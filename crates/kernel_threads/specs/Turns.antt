-- What a turn that makes no event states of its run.
use Rattle.std.specs.Prelude.{◌≡◌, ◌<◌, ◌≤◌, ◌+◌, ℕ, Bool, false, List, Some, All, ⊤, count_by, length}
use Rattle.std.specs.Coded.{Coded}
use base.Stored.{Gv}
use Rattle.user_calls.specs.declared.calls.Call.{Call}
use Rattle.user_calls.specs.declared.calls.Reply.{Reply}
use Rattle.proc_table.specs.Slots.{is_running, is_running_on, is_runnable}
use Rattle.kernel_model.specs.declared.events.Event.{Event}
use Rattle.kernel_model.specs.KernelState.{KernelState}
use Rattle.kernel_model.specs.Events.{run, IsFinished}
use Rattle.kernel_threads.specs.Boots.{number_of}
use Rattle.kernel_threads.specs.declared.sharing.Turn.{Turn}
use Rattle.kernel_threads.specs.declared.sharing.Turn.TheVariants.{Finished, Spent, Idle, Stepped, Lost}

-- a turn of the hart h, in a run of so many turns, that finds this kernel after these events: the run is finished; or it isn't and fewer than two turns are left beside those of the traps that are owed; or it isn't, two such turns are left, and the hart, if it runs nothing, finds nothing Runnable
abbrev pub Says : {S : Type 0} → ℕ → ℕ → Turn → KernelState S → List Event → Type 0
Says turns h Finished k events = IsFinished k
Says turns h Spent k events = (IsFinished k → ⊥) × (turns < length events + count_by is_running k.table + 2)
Says turns h Idle k events = (IsFinished k → ⊥) × (length events + count_by is_running k.table + 2 ≤ turns) × (All (λ slot. is_running_on h slot ≡ false) k.table → All (λ slot. is_runnable slot ≡ false) k.table)
Says turns h Stepped k events = ⊤
Says turns h Lost k events = ⊤

-- what the turn states is so at some moment of a run from the kernel with this number
pub record IsSaid {S : Type 0} (code : Coded S) (call : S → Reply → Call) (next : S → Reply → S) (boot : Gv) (turns h : ℕ) (turn : Turn) : Type 0 where
  pub start : KernelState S
  pub booted : number_of code start ≡ boot
  pub events : List Event
  pub notes : List Bool
  pub last : KernelState S
  pub runs : run call next (Some start) events notes ≡ Some last
  pub says : Says turns h turn last events
