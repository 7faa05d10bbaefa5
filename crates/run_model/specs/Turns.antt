-- When the turns of a run are spent.
use Rattle.std.specs.Prelude.{◌≡◌, ◌≤◌, ◌<◌, ◌+◌, ◌⊎◌, ℕ, Bool, false, List, Some, All, count_by, length}
use Rattle.user_calls.specs.declared.calls.Call.{Call}
use Rattle.user_calls.specs.declared.calls.Reply.{Reply}
use Rattle.proc_table.specs.Slots.{is_running, is_runnable}
use Rattle.kernel_model.specs.declared.events.Event.{Event}
use Rattle.kernel_model.specs.KernelState.{KernelState}
use Rattle.kernel_model.specs.Events.{run, IsFinished}

-- these events took some of so many turns; the run isn't finished, no process runs, and fewer than two turns are left, or nothing is Runnable
pub record IsSpent {S : Type 0} (turns : ℕ) (k : KernelState S) (events : List Event) : Type 0 where
  pub within : length events ≤ turns
  pub unfinished : IsFinished k → ⊥
  pub idle : count_by is_running k.table ≡ 0
  pub over : (turns < length events + 2) ⊎ All (λ slot. is_runnable slot ≡ false) k.table

-- some run from this kernel spends so many turns
pub record IsSpentBy {S : Type 0} (call : S → Reply → Call) (next : S → Reply → S) (start : KernelState S) (turns : ℕ) : Type 0 where
  pub events : List Event
  pub notes : List Bool
  pub last : KernelState S
  pub runs : run call next (Some start) events notes ≡ Some last
  pub spent : IsSpent turns last events

-- some run from this kernel spends so many turns, and leaves fewer than two of them
abbrev pub RunsOutOfTurns : {S : Type 0} → (S → Reply → Call) → (S → Reply → S) → KernelState S → ℕ → Type 0
RunsOutOfTurns call next start turns = (s : IsSpentBy call next start turns) × (turns < length s.events + 2)
