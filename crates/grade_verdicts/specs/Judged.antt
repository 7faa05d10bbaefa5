-- What each verdict of a test on a script means.
use Rattle.std.specs.Prelude.{◌≡◌, ◌≢◌, ◌<◌, ◌≤◌, ◌⊎◌, ℕ, Bool, false, List, [], Some, None, All, length}
use Rattle.mem_files.specs.Name.{Bytes}
use Rattle.mem_files.specs.Files.{files}
use Rattle.script_load.specs.declared.fault.LoadFault.{LoadFault}
use Rattle.script_load.specs.declared.limits.TheConstants.{MAX_TURNS}
use Rattle.script_load.specs.Line.{ScriptLine}
use Rattle.script_load.specs.Script.{IsScript, HasLoadFault}
use Rattle.meaning_model.specs.Limits.{Outgrows}
use Rattle.meaning_model.specs.Meaning.{script_meaning, script_tree}
use Rattle.meaning_model.specs.Settled.{IsSettledScript}
use Rattle.meaning_model.specs.Value.{Value}
use Rattle.sh_machine.specs.State.{User}
use Rattle.sh_machine.specs.Turn.{call_of, next_of}
use Rattle.kernel_model.specs.declared.events.Event.{Event}
use Rattle.kernel_model.specs.declared.events.Full.{Full}
use Rattle.kernel_model.specs.declared.events.Full.TheVariants.{Memory}
use Rattle.kernel_model.specs.KernelState.{KernelState}
use Rattle.kernel_model.specs.Events.{run, IsFinished}
use Rattle.run_model.specs.ScriptRun.{script_kernel, IsSpentFrom}
use Rattle.kernel_runs.specs.Room.{EndsBy, HasRoom, IsFilled}
use Rattle.kernel_model.specs.Outcome.{RunOutcome, outcome_of}
use Rattle.kernel_model.specs.Explored.{AreAllOutcomes, IsNeverStuck}
use Rattle.order_search.specs.Told.{IsReplayed, LeadsToSleep}
use Rattle.order_search.specs.declared.outcomes.Outcome.{Outcome}
use Rattle.grade_verdicts.specs.Agrees.{Agrees, AgreesIn, AgreesWith}
use Rattle.grade_verdicts.specs.declared.expected.Task.{Task}
use Rattle.grade_verdicts.specs.declared.verdict.Race.{Race}
use Rattle.grade_verdicts.specs.declared.verdict.Refusal.TheVariants.{Script, Line}
use Rattle.grade_verdicts.specs.declared.verdict.Verdict.{Verdict}
use Rattle.grade_verdicts.specs.declared.verdict.Verdict.TheVariants.{Pass, PassEveryOrder, Wrong, WrongSoFar, Race as IsRacing, Unsure, Refused, TooLarge, NoRoom, Spent}

-- the kernel at the start of a script under a test, what the script means there, and that it is settled there
abbrev pub start_of : Task → List ScriptLine → KernelState User
start_of t lines = script_kernel t.profile lines t.stdin.now t.files.now

abbrev pub meaning_of : Task → List ScriptLine → Value
meaning_of t lines = script_meaning t.profile lines t.stdin.now (files t.files.now)

abbrev pub IsSettledOn : Task → List ScriptLine → Type 0
IsSettledOn t lines = IsSettledScript t.profile lines t.stdin.now (files t.files.now)

-- its meaning says what every run leaves in the files that are expected: it is settled, and none of these is soft
pub record IsKnown (t : Task) (lines : List ScriptLine) : Type 0 where
  pub settled : IsSettledOn t lines
  pub firm : All (λ file. (meaning_of t lines).soft file.name.items ≡ false) t.expected.now.files.items

-- a run of the script by this schedule ended
abbrev pub Ends : Task → List ScriptLine → List Event → Type 0
Ends t lines schedule = EndsBy (start_of t lines) schedule

-- the test sets no limit on the events of a run
abbrev pub IsUnlimited : Task → Type 0
IsUnlimited t = (t.turns ≡ 0) ⊎ (MAX_TURNS < t.turns)

-- a run may have so many events: as many as the test allows, or where it sets no limit as many as any run may have
pub data AreMost (t : Task) (turns : ℕ) : Type 0 where
  limited : turns ≡ t.turns → AreMost t turns
  unlimited : IsUnlimited t → turns ≡ MAX_TURNS → AreMost t turns

-- the test sets no limit on the events of a run, or a run ended that had no more
pub data EndsInTime (t : Task) (lines : List ScriptLine) : Type 0 where
  without_limit : IsUnlimited t → EndsInTime t lines
  ended : (schedule : List Event) → Ends t lines schedule → length schedule ≤ t.turns → EndsInTime t lines

-- what every finished run of the script leaves in which nothing was full, on any harts, in any order and whenever memory was refused
abbrev pub InEveryRun : Task → List ScriptLine → (RunOutcome → Type 0) → Type 0
InEveryRun t lines Leaves = (schedule : List Event) (notes : List Bool) (last : KernelState User)
    → run call_of next_of (Some (start_of t lines)) schedule notes ≡ Some last → last.full ≡ None → IsFinished last → Leaves (outcome_of last)

-- a run of it ended in which this was full first, and that wasn't memory
pub record HasNoRoom (t : Task) (lines : List ScriptLine) (full : Full) : Type 0 where
  pub filled : IsFilled (start_of t lines) full
  pub space : full ≢ Memory

-- the script is settled, its meaning is what is expected, and so is what every run leaves
pub record IsMeant (t : Task) (lines : List ScriptLine) : Type 0 where
  pub settled : IsSettledOn t lines
  pub meant : Agrees t.expected.now (meaning_of t lines).out (meaning_of t lines).files
  pub runs : InEveryRun t lines (AgreesIn t.expected.now)

-- so it is, and there is such a run: one ended in which nothing was full
pub record IsPassed (t : Task) (lines : List ScriptLine) : Type 0 where
  pub meant : IsMeant t lines
  pub room : HasRoom (start_of t lines)

-- these are all outcomes, there is one, and each is what is expected; so is what every run leaves, there is one in which nothing was
-- full, and none comes to where all processes sleep
pub record IsPassedInEveryOrder (t : Task) (lines : List ScriptLine) : Type 0 where
  pub outcomes : List RunOutcome
  pub all : AreAllOutcomes call_of next_of (start_of t lines) outcomes
  pub some : outcomes ≡ [] → ⊥
  pub agree : All (AgreesIn t.expected.now) outcomes
  pub runs : InEveryRun t lines (AgreesIn t.expected.now)
  pub room : HasRoom (start_of t lines)
  pub awake : IsNeverStuck call_of next_of (start_of t lines)

-- a finished run by this outcome's own schedule leaves what isn't expected
pub record HasWrongRun (t : Task) (lines : List ScriptLine) (outcome : Outcome) : Type 0 where
  pub replayed : IsReplayed call_of next_of (start_of t lines) outcome
  pub differs : AgreesWith t.expected.now outcome → ⊥

-- the script is settled, and what its meaning leaves, and every run, isn't what is expected; or these are all outcomes, there is one,
-- and none is what is expected
pub data IsWrong (t : Task) (lines : List ScriptLine) : Type 0 where
  by_meaning : IsSettledOn t lines → (Agrees t.expected.now (meaning_of t lines).out (meaning_of t lines).files → ⊥)
      → InEveryRun t lines (λ outcome. AgreesIn t.expected.now outcome → ⊥) → IsWrong t lines
  in_every_order : (outcomes : List RunOutcome) → AreAllOutcomes call_of next_of (start_of t lines) outcomes → (outcomes ≡ [] → ⊥)
      → All (λ outcome. AgreesIn t.expected.now outcome → ⊥) outcomes → IsWrong t lines

-- outcomes of finished runs by their own schedules were found, there is one, and none is what is expected
pub record IsWrongSoFar (t : Task) (lines : List ScriptLine) : Type 0 where
  pub outcomes : List Outcome
  pub some : outcomes ≡ [] → ⊥
  pub each : All (HasWrongRun t lines) outcomes

-- one of both
abbrev pub IsNotRight : Task → List ScriptLine → Type 0
IsNotRight t lines = IsWrong t lines ⊎ IsWrongSoFar t lines

-- the meaning doesn't say what every run leaves, and so many outcomes of finished runs by their own schedules were found, each of
-- which is what is expected
pub record IsUnsure (t : Task) (lines : List ScriptLine) (found : ℕ) : Type 0 where
  pub unknown : IsKnown t lines → ⊥
  pub outcomes : List Outcome
  pub count : length outcomes ≡ found
  pub replayed : All (IsReplayed call_of next_of (start_of t lines)) outcomes
  pub agree : All (AgreesWith t.expected.now) outcomes

-- one finished run leaves what is expected, another doesn't, and these are their schedules
pub record IsRace (t : Task) (lines : List ScriptLine) (race : Race) : Type 0 where
  pub right : Outcome
  pub wrong : Outcome
  pub to_right : race.right.items ≡ right.pids.items
  pub to_wrong : race.wrong.items ≡ wrong.pids.items
  pub replayed : IsReplayed call_of next_of (start_of t lines) right
  pub agrees : AgreesWith t.expected.now right
  pub other : HasWrongRun t lines wrong

-- a run takes as many events as it may have, and isn't finished; or these turns lead to where all sleep
pub data IsSpent (t : Task) (lines : List ScriptLine) : Type 0 where
  by_turns : (turns : ℕ) → AreMost t turns → IsSpentFrom (start_of t lines) turns → IsSpent t lines
  asleep : (pids : List ℕ) → LeadsToSleep call_of next_of (start_of t lines) pids → IsSpent t lines

-- the verdict gives the test's points
abbrev pub IsPass : Verdict → Type 0
IsPass verdict = (verdict ≡ Pass) ⊎ (verdict ≡ PassEveryOrder)

-- the verdict is a race
abbrev pub IsOfRace : Verdict → Type 0
IsOfRace verdict = (race : Race) × (verdict ≡ IsRacing race)

-- what the verdict says of a script of these lines
abbrev pub IsVerdict : Task → List ScriptLine → Verdict → Type 0
IsVerdict t lines Pass = IsPassed t lines
IsVerdict t lines PassEveryOrder = IsPassedInEveryOrder t lines
IsVerdict t lines (Wrong difference) = IsWrong t lines
IsVerdict t lines (WrongSoFar difference) = IsWrongSoFar t lines
IsVerdict t lines (IsRacing race) = IsRace t lines race
IsVerdict t lines (Unsure found) = IsUnsure t lines found
IsVerdict t lines (Refused (Script fault)) = ⊥
IsVerdict t lines (Refused (Line number kind)) = IsNotRight t lines
IsVerdict t lines (NoRoom full) = HasNoRoom t lines full
IsVerdict t lines TooLarge = Outgrows t.profile (script_tree lines) t.stdin.now (files t.files.now)
IsVerdict t lines Spent = IsSpent t lines

-- where it says that the script comes to an end, a run does within the test's limit on events
abbrev pub IsInTime : Task → List ScriptLine → Verdict → Type 0
IsInTime t lines verdict = (verdict ≡ Spent) ⊎ EndsInTime t lines

-- what it says of some bytes: that they are no script, or too many, or a script of these lines
pub data IsJudged (t : Task) (bytes : Bytes) : Verdict → Type 0 where
  no_script : {fault : LoadFault} → HasLoadFault bytes fault → IsJudged t bytes (Refused (Script fault))
  too_long : t.bytes < length bytes → IsJudged t bytes TooLarge
  judged : {verdict : Verdict} (lines : List ScriptLine) → IsScript bytes lines → IsInTime t lines verdict → IsVerdict t lines verdict → IsJudged t bytes verdict
