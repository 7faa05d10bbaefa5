-- What was found of what a script can leave.
use Rattle.std.specs.Prelude.{◌≡◌, ◌<◌, ℕ, Bool, true, false, List, [], ◌∷◌, None, All, IfSome, IsSome, map}
use Rattle.std.specs.Global.{Global}
use Rattle.std.specs.List.Sorted.{IsPermutation}
use Rattle.mem_files.specs.Name.{Name, Bytes}
use Rattle.mem_files.specs.Files.{files}
use Rattle.script_load.specs.declared.profile.Profile.{Profile}
use Rattle.script_load.specs.Line.{ScriptLine}
use Rattle.meaning_model.specs.Meaning.{script_meaning}
use Rattle.meaning_model.specs.Settled.{IsSettledScript}
use Rattle.plain_run.specs.declared.outcome.Plain.{Plain}
use Rattle.sh_machine.specs.State.{User}
use Rattle.sh_machine.specs.Turn.{call_of, next_of}
use Rattle.kernel_model.specs.KernelState.{KernelState}
use Rattle.run_model.specs.ScriptRun.{script_kernel}
use Rattle.kernel_runs.specs.Room.{HasRoom}
use Rattle.kernel_model.specs.Explored.{AreAllOutcomes, IsNeverStuck}
use Rattle.order_search.specs.Told.{outcome_by, AreApart, IsReplayed, LeadsToSleep}
use Rattle.order_search.specs.declared.outcomes.Outcome.{Outcome}
use Rattle.order_search.specs.declared.ordering.Exploration.{Exploration}
use Rattle.script_outcomes.specs.declared.concluding.Conclusion.{Conclusion}
use Rattle.script_outcomes.specs.declared.concluding.Conclusion.TheVariants.{OneOutput, SeveralOutputs, Stuck, Full, Part}
use Rattle.script_outcomes.specs.declared.finding.Found.{Found}
use Rattle.script_outcomes.specs.declared.finding.Found.TheVariants.{Settled, Tried}
use Rattle.script_outcomes.specs.declared.finding.Tried.{Tried as Search}

-- both outcomes have one output and one set of files
abbrev pub LeftTheSame : Outcome → Outcome → Type 0
LeftTheSame one other = (one.out.items ≡ other.out.items) × (one.files ≡ other.files)

-- there is an outcome, and all have its output and its files
abbrev pub AreSingle : List Outcome → Type 0
AreSingle [] = ⊥
AreSingle (first ∷ rest) = All (LeftTheSame first) rest

-- nothing was full in the runs to all of them
abbrev pub AreRoomy : List Outcome → Type 0
AreRoomy outcomes = All (λ outcome. outcome.full ≡ None) outcomes

-- the same but for the order of the outcomes
pub record IsReordered (found sorted : Exploration) : Type 0 where
  pub whole : sorted.whole ≡ found.whole
  pub stopped : sorted.stopped ≡ found.stopped
  pub states : sorted.states ≡ found.states
  pub stuck : sorted.stuck ≡ found.stuck
  pub outcomes : IsPermutation found.outcomes.items sorted.outcomes.items

-- what trying orders from a start shows, where at most so many states were to be kept: each outcome is that of a finished run by its
-- own schedule, and no two are equal. Where every order was tried they are those of all runs, and where none was found stuck none
-- is. Where one was, its turns lead to where all processes sleep. Where not every order was tried and
-- the search isn't said to be stopped by its watch, more states were found
pub record AreTried (start : KernelState User) (states : ℕ) (found : Exploration) : Type 0 where
  pub sound : All (IsReplayed call_of next_of start) found.outcomes.items
  pub apart : AreApart found.outcomes.items
  pub complete : found.whole ≡ true → AreAllOutcomes call_of next_of start (map outcome_by found.outcomes.items)
  pub awake : found.whole ≡ true → found.stuck ≡ None → IsNeverStuck call_of next_of start
  pub asleep : IfSome found.stuck (λ pids. LeadsToSleep call_of next_of start pids.items)
  pub part : found.whole ≡ false → found.stopped ≡ false → states < found.states

-- the script is settled, no file of it is soft, and a run of it ended in which nothing was full; and this is its meaning
pub record IsKnown {A : _} (profile : Profile) (lines : List ScriptLine) (stdin : Bytes) (given : List (Name × Bytes)) (value : Plain A) : Type 0 where
  pub settled : IsSettledScript profile lines stdin (files given)
  pub hard : (name : Name) → (script_meaning profile lines stdin (files given)).soft name ≡ false
  pub room : HasRoom (script_kernel profile lines stdin given)
  pub out : value.out ≡ (script_meaning profile lines stdin (files given)).out
  pub left : (name : Name) → files value.files name ≡ (script_meaning profile lines stdin (files given)).files name

-- what was found of a script on this input and these files, where at most so many states were to be kept, by whether the orders of a
-- settled script were to be tried too
abbrev pub IsFound : Profile → List ScriptLine → Bytes → List (Name × Bytes) → ℕ → Bool → Found → Type 0
IsFound profile lines stdin given states thorough (Settled value) = (thorough ≡ false) × IsKnown profile lines stdin given value
IsFound profile lines stdin given states thorough (Tried t) = AreTried (script_kernel profile lines stdin given) states t.found

-- whether every order was tried, or what it leaves is known without
abbrev pub is_whole : Found → Bool
is_whole (Settled value) = true
is_whole (Tried t) = t.found.whole

-- whether the search is said to be stopped by its watch
abbrev pub is_stopped : Found → Bool
is_stopped (Settled value) = false
is_stopped (Tried t) = t.found.stopped

-- something was found, and all that was has one output and one set of files
abbrev pub IsSingle : Found → Type 0
IsSingle (Settled value) = Unit {0}
IsSingle (Tried t) = AreSingle t.found.outcomes.items

-- what was found, as a whole
pub data Concludes : Found → Conclusion → Type 0 where
  settled : {value : Plain Global} → Concludes (Settled value) OneOutput
  part : {t : Search} → t.found.whole ≡ false → Concludes (Tried t) Part
  several : {t : Search} → t.found.whole ≡ true → (AreSingle t.found.outcomes.items → ⊥) → Concludes (Tried t) SeveralOutputs
  filled : {t : Search} → t.found.whole ≡ true → AreSingle t.found.outcomes.items → (AreRoomy t.found.outcomes.items → ⊥) → Concludes (Tried t) Full
  stuck : {t : Search} → t.found.whole ≡ true → AreSingle t.found.outcomes.items → AreRoomy t.found.outcomes.items → IsSome t.found.stuck → Concludes (Tried t) Stuck
  one : {t : Search} → t.found.whole ≡ true → AreSingle t.found.outcomes.items → AreRoomy t.found.outcomes.items → t.found.stuck ≡ None → Concludes (Tried t) OneOutput
