-- What is known of the diagnostics of a script, in whatever order its processes take their turns.
use Rattle.std.specs.Prelude.{◌≡◌, ◌≢◌, ⊤, ℕ, Bool, true, List, Some, None, IfSome, All, map}
use Rattle.mem_files.specs.Name.{Name, Bytes}
use Rattle.script_load.specs.declared.profile.Profile.{Profile}
use Rattle.script_load.specs.Line.{ScriptLine}
use Rattle.sh_machine.specs.State.{User}
use Rattle.sh_machine.specs.Turn.{call_of, next_of}
use Rattle.kernel_model.specs.declared.events.Event.{Event}
use Rattle.kernel_model.specs.KernelState.{KernelState}
use Rattle.kernel_model.specs.Events.{run, IsFinished}
use Rattle.run_model.specs.ScriptRun.{script_kernel}
use Rattle.kernel_model.specs.Explored.{AreAllOutcomes, IsNeverStuck}
use Rattle.order_search.specs.Told.{outcome_by, IsReplayed, LeadsToSleep}
use Rattle.order_search.specs.declared.ordering.Exploration.{Exploration}
use Rattle.order_search.specs.declared.outcomes.Outcome.{Outcome}
use Rattle.every_order.specs.declared.known.Diagnostics.{Diagnostics}
use Rattle.every_order.specs.declared.known.Diagnostics.TheVariants.{Same, Differ, Untried, Full, Asleep}

-- what an exploration from the start found: finished runs have its outcomes, and where every order was tried, all of them, and
-- where then nobody is stuck, no run is; where somebody is, these turns lead there
pub record AreFoundFrom (start : KernelState User) (found : Exploration) : Type 0 where
  pub sound : All (IsReplayed call_of next_of start) found.outcomes.items
  pub complete : found.whole ≡ true → AreAllOutcomes call_of next_of start (map outcome_by found.outcomes.items)
  pub awake : found.whole ≡ true → found.stuck ≡ None → IsNeverStuck call_of next_of start
  pub asleep : IfSome found.stuck (λ pids. LeadsToSleep call_of next_of start pids.items)

-- every finished run in which nothing was full, on any harts, in any order and whenever memory was refused, has these diagnostics
abbrev pub WritesInEveryRun : KernelState User → Bytes → Type 0
WritesInEveryRun start text = (schedule : List Event) (notes : List Bool) (last : KernelState User)
    → run call_of next_of (Some start) schedule notes ≡ Some last → last.full ≡ None → IsFinished last → last.diag ≡ text

-- in every finished run something was full
abbrev pub FillsInEveryRun : KernelState User → Type 0
FillsInEveryRun start = (schedule : List Event) (notes : List Bool) (last : KernelState User)
    → run call_of next_of (Some start) schedule notes ≡ Some last → IsFinished last → last.full ≢ None

-- a finished run by this outcome's own schedule has this outcome, and nothing was full in it
pub record HasRun (start : KernelState User) (outcome : Outcome) : Type 0 where
  pub replayed : IsReplayed call_of next_of start outcome
  pub roomy : outcome.full ≡ None

-- some finished run has these diagnostics, every one has them, and none comes to where all processes sleep
pub record AreSame (start : KernelState User) (text : Bytes) : Type 0 where
  pub one : Outcome
  pub has : HasRun start one
  pub writes : one.diag.items ≡ text
  pub runs : WritesInEveryRun start text
  pub awake : IsNeverStuck call_of next_of start

-- two finished runs have different diagnostics
pub record AreDifferent (start : KernelState User) : Type 0 where
  pub one : Outcome
  pub other : Outcome
  pub has_one : HasRun start one
  pub has_other : HasRun start other
  pub differ : other.diag.items ≢ one.diag.items

-- something is full in every finished run, and none comes to where all processes sleep
pub record AreFull (start : KernelState User) : Type 0 where
  pub runs : FillsInEveryRun start
  pub awake : IsNeverStuck call_of next_of start

-- turns lead to where all processes sleep
abbrev pub CanSleep : KernelState User → Type 0
CanSleep start = (pids : List ℕ) × LeadsToSleep call_of next_of start pids

-- this is known of the runs from the start
abbrev pub IsKnownFrom : KernelState User → Diagnostics → Type 0
IsKnownFrom start (Same text) = AreSame start text.items
IsKnownFrom start Differ = AreDifferent start
IsKnownFrom start Untried = ⊤
IsKnownFrom start Full = AreFull start
IsKnownFrom start Asleep = CanSleep start

-- this is known of the runs of a script of these lines under a profile, with this standard input and these files
abbrev pub IsKnown : Profile → List ScriptLine → Bytes → List (Name × Bytes) → Diagnostics → Type 0
IsKnown profile lines stdin given = IsKnownFrom (script_kernel profile lines stdin given)
