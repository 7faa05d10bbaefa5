-- All outcomes of a kernel.
use Rattle.std.specs.Prelude.{◌≡◌, ◌⊎◌, ℕ, Bool, true, List, Some, None, All, Any, Contains}
use Rattle.user_calls.specs.declared.calls.Call.{Call}
use Rattle.user_calls.specs.declared.calls.Reply.{Reply}
use Rattle.proc_table.specs.Slots.{at, is_runnable, is_running}
use Rattle.kernel_model.specs.declared.events.Event.{Event}
use Rattle.kernel_model.specs.KernelState.{KernelState}
use Rattle.kernel_model.specs.Events.{run, IsFinished}
use Rattle.kernel_model.specs.Quiet.{no_refusals}
use Rattle.kernel_model.specs.Turns.{after_turn, IsReachedFrom}
use Rattle.kernel_model.specs.Outcome.{RunOutcome, outcome_of}
use Rattle.kernel_model.specs.Reduced.{IsReduced}
use Rattle.kernel_model.specs.Giving.{GivesWay}
use Rattle.kernel_model.specs.Anyhow.{SameKeyAnyhow, bare_table}

-- the kernel is finished and this is its outcome
abbrev pub FinishesWith : {S : Type 0} → RunOutcome → KernelState S → Type 0
FinishesWith outcome k = IsFinished k × (outcome_of k ≡ outcome)

-- the outcomes are those of the finished kernels of the list
pub record AreOutcomesOf {S : Type 0} (seen : List (KernelState S)) (outcomes : List RunOutcome) : Type 0 where
  pub told : All (λ k. IsFinished k → Contains outcomes (outcome_of k)) seen
  pub only : All (λ outcome. Any (FinishesWith outcome) seen) outcomes

-- the kernel is finished, or some process is Runnable; the same, or some process is Running
abbrev pub IsFinishedOrReady : {S : Type 0} → KernelState S → Type 0
IsFinishedOrReady k = IsFinished k ⊎ ((pid : ℕ) × (is_runnable (at k.table pid) ≡ true))

abbrev pub IsFinishedOrAwake : {S : Type 0} → KernelState S → Type 0
IsFinishedOrAwake k = IsFinished k ⊎ ((pid : ℕ) × ((is_runnable (at k.table pid) ≡ true) ⊎ (is_running (at k.table pid) ≡ true)))

module _ {S : Type 0} (call : S → Reply → Call) (next : S → Reply → S) where
  -- turns at which memory isn't refused lead from the start to a finished kernel with this outcome
  abbrev pub IsOutcomeByTurns : KernelState S → RunOutcome → Type 0
  IsOutcomeByTurns start outcome = (last : KernelState S) × IsReachedFrom call next start last × FinishesWith outcome last

  -- turns lead from the start to kernels that have the keys, but for who sleeps and for numbers of entries, of the start and of all kernels
  -- to which one turn leads from one of them; where turns that give way to nobody's lead on from there, the key of a kernel to which they lead is enough
  pub record AreEnough (start : KernelState S) (seen : List (KernelState S)) : Type 0 where
    pub reached : All (IsReachedFrom call next start) seen
    pub reduced : IsReduced (after_turn call next) (λ s k. SameKeyAnyhow k s) (GivesWay call next) start seen

  -- what an exploration shows: such kernels, where the outcomes of the finished ones are reported, each of which turns lead to
  pub record Explored (start : KernelState S) (outcomes : List RunOutcome) : Type 0 where
    pub seen : List (KernelState S)
    pub enough : AreEnough start seen
    pub told : All (λ k. IsFinished k → Contains outcomes (outcome_of k)) seen
    pub only : All (IsOutcomeByTurns start) outcomes

  -- some turn leads from the kernel to one with other slots, whoever sleeps and whatever descriptors hold
  pub record IsBusy (k : KernelState S) : Type 0 where
    pub pid : ℕ
    pub now : KernelState S
    pub turn : after_turn call next k pid ≡ Some now
    pub other : bare_table now.table ≡ bare_table k.table → ⊥

  abbrev pub IsFinishedOrBusy : KernelState S → Type 0
  IsFinishedOrBusy k = IsFinished k ⊎ IsBusy k

  -- some finished run at which memory was never refused, on however many harts, has this outcome
  pub record IsOutcomeOfRun (start : KernelState S) (outcome : RunOutcome) : Type 0 where
    pub schedule : List Event
    pub last : KernelState S
    pub runs : run call next (Some start) schedule (no_refusals schedule) ≡ Some last
    pub finishes : FinishesWith outcome last

  -- the outcomes of all finished runs from the start, in any order and on any harts, at which memory was never refused or
  -- nothing was full, and no others
  pub record AreAllOutcomes (start : KernelState S) (outcomes : List RunOutcome) : Type 0 where
    pub quiet : (schedule : List Event) (last : KernelState S) → run call next (Some start) schedule (no_refusals schedule) ≡ Some last → IsFinished last → Contains outcomes (outcome_of last)
    pub roomy : (schedule : List Event) (notes : List Bool) (last : KernelState S) → run call next (Some start) schedule notes ≡ Some last → last.full ≡ None → IsFinished last → Contains outcomes (outcome_of last)
    pub only : All (IsOutcomeOfRun start) outcomes

  -- no run from the start at which memory was never refused, or in which nothing was full, comes to where all processes sleep
  pub record IsNeverStuck (start : KernelState S) : Type 0 where
    pub quiet : (schedule : List Event) (last : KernelState S) → run call next (Some start) schedule (no_refusals schedule) ≡ Some last → IsFinishedOrAwake last
    pub roomy : (schedule : List Event) (notes : List Bool) (last : KernelState S) → run call next (Some start) schedule notes ≡ Some last → last.full ≡ None → IsFinishedOrAwake last
