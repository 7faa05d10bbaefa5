-- What runs of a script in every way leave.
use Rattle.std.specs.Prelude.{◌≡◌, ◌≤◌, ℕ, true, List, [], ◌∷◌, None, All, length}
use Rattle.mem_files.specs.Name.{Bytes}
use Rattle.script_load.specs.Line.{ScriptLine}
use Rattle.script_load.specs.Script.{IsScript}
use Rattle.kernel_model.specs.declared.events.Event.{Event}
use Rattle.run_model.specs.ScriptRun.{IsSpentFrom}
use Rattle.kernel_model.specs.Outcome.{outcome_of}
use Rattle.kernel_runs.specs.declared.ordering.Order.TheVariants.{Kernel, Lowest, Highest, Eager, Starving, Drawn}
use Rattle.kernel_events.specs.declared.report.Report.{Report}
use Rattle.kernel_events.specs.Harts.{is_of_hart}
use Rattle.kernel_events.specs.Reports.{IsRunFrom}
use Rattle.kernel_threads.specs.Events.{AreOfHarts}
use Rattle.grade_verdicts.specs.Agrees.{AgreesIn}
use Rattle.grade_verdicts.specs.Judged.{AreMost, Ends, InEveryRun, IsInTime, IsPass, IsVerdict, start_of}
use Rattle.grade_verdicts.specs.declared.expected.Task.{Task}
use Rattle.grade_verdicts.specs.declared.verdict.Verdict.{Verdict}
use Rattle.grade_jobs.specs.declared.ways.Way.{Way}
use Rattle.grade_jobs.specs.declared.ways.Way.TheVariants.{InOrder, OnHarts}

-- every way: on one hart in nine orders, and on one, two and eight harts
abbrev pub every_way : List Way
every_way =
    InOrder Kernel ∷ InOrder Lowest ∷ InOrder Highest ∷ InOrder Eager ∷ InOrder (Starving 1) ∷ InOrder (Starving 2) ∷ InOrder (Drawn 1) ∷ InOrder (Drawn 2) ∷ InOrder (Drawn 3)
    ∷ OnHarts 1 ∷ OnHarts 2 ∷ OnHarts 8 ∷ []

-- the report is that of a finished run of the script, of no more events
pub record IsRunOf {A : _} (t : Task) (lines : List ScriptLine) (report : Report A) : Type 0 where
  pub turns : ℕ
  pub most : AreMost t turns
  pub run : IsRunFrom (start_of t lines) report
  pub few : length report.schedule ≤ turns

-- a run takes as many, and isn't finished
pub record IsSpentIn (t : Task) (lines : List ScriptLine) : Type 0 where
  pub turns : ℕ
  pub most : AreMost t turns
  pub spent : IsSpentFrom (start_of t lines) turns

-- the events are those of the harts of this way
abbrev pub IsOnHarts : Way → List Event → Type 0
IsOnHarts (InOrder order) events = All (λ event. is_of_hart 0 event ≡ true) events
IsOnHarts (OnHarts harts) events = AreOfHarts harts events

-- every finished run in which nothing was full leaves what is expected
pub record AllRunsAgree (t : Task) (lines : List ScriptLine) : Type 0 where
  pub each : InEveryRun t lines (AgreesIn t.expected.now)

-- in a finished run by this schedule nothing was full, and it leaves what is expected
pub record LeavesRight (t : Task) (lines : List ScriptLine) (schedule : List Event) : Type 0 where
  pub ends : Ends t lines schedule
  pub roomy : ends.last.full ≡ None
  pub agrees : AgreesIn t.expected.now (outcome_of ends.last)

-- so does one in this way
pub record RunsRight (t : Task) (lines : List ScriptLine) (way : Way) : Type 0 where
  pub schedule : List Event
  pub harts : IsOnHarts way schedule
  pub right : LeavesRight t lines schedule

-- the verdict is due, and it is no pass
pub record IsNoPass (t : Task) (lines : List ScriptLine) (verdict : Verdict) : Type 0 where
  pub due : IsVerdict t lines verdict
  pub time : IsInTime t lines verdict
  pub fails : IsPass verdict → ⊥

-- the bytes are a script, and runs of it in each way leave what is expected
pub record RunsInEveryWay (t : Task) (bytes : Bytes) : Type 0 where
  pub lines : List ScriptLine
  pub script : IsScript bytes lines
  pub ways : All (RunsRight t lines) every_way

-- so it is where the verdict is a pass
abbrev pub RunsRightInEveryWay : Task → Bytes → Verdict → Type 0
RunsRightInEveryWay t bytes verdict = IsPass verdict → RunsInEveryWay t bytes
