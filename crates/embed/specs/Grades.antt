-- What the tests of a suite say of a task's script, and why they say nothing.
use Rattle.std.specs.Prelude.{◌≡◌, ◌==◌, ◌+◌, ◌<◌, ◌≤◌, ℕ, Bool, true, false, if◌then◌else◌, List, [], ◌∷◌, Option, Some, None, All, codes, length, option_map, position}
use Rattle.std.specs.List.{find}
use Rattle.std.specs.Str.{bytes_eq}
use Rattle.mem_files.specs.Name.{Bytes}
use Rattle.mem_files.specs.Listing.{max_files}
use Rattle.xvsh_read.specs.Path.{Path}
use Rattle.xvsh_read.specs.Reading.{max_input}
use Rattle.grade_tests.specs.Loads.{AreTestsAt}
use Rattle.grade_tests.specs.declared.test.Loaded.{Loaded}
use Rattle.xvsh_grades.specs.Marks.{AreMarks, ScriptRead, other_tests, own_tests}
use Rattle.xvsh_grades.specs.Passed.{HasVerdict, IsReportOf}
use Rattle.xvsh_grades.specs.declared.marks.Mark.{Mark}
use Rattle.xvsh_grades.specs.declared.request.Report.{Report}
use Rattle.embed.specs.declared.task.Given.{Given}
use Rattle.embed.specs.declared.task.Task.{Task}
use Rattle.embed.specs.declared.refusal.GradeRefusal.{GradeRefusal}
use Rattle.embed.specs.declared.refusal.GradeRefusal.TheVariants.{SuiteTooLong, BadSuite, UnusedScript, EveryWay, TooManyFiles, Memory}

-- the bytes of the first of the files that has this name, if one has it
abbrev pub file_in : List Given → Path → Option Bytes
file_in files path = option_map (λ file. file.bytes.now) (find (λ file. bytes_eq file.name.now path) files)

-- through so many states a test tries orders at most, whatever the suite says; 0 is no such bound
abbrev pub most_by : ℕ → Option ℕ
most_by states = if states == 0 then None else Some states

-- the tests of the suite that these bytes are, with all that it names of the task's files
abbrev pub AreTestsOf : Task → Bytes → ℕ → List Loaded → Type 0
AreTestsOf task suite states tests = AreTestsAt (file_in task.files.now) (codes "-") (Some suite) (most_by states) tests

-- none of the tests is to run in every way
abbrev pub NeedNoThreads : List Loaded → Type 0
NeedNoThreads tests = All (λ test. test.every_way ≡ false) tests

-- the script is at `-`
abbrev pub script_at : Bytes → ScriptRead
script_at script = record { path = codes "-"; bytes = Some script }

-- it is all that is read; where the suite stands alone nothing is
abbrev pub reads_of : Bool → Bytes → List ScriptRead
reads_of true script = []
reads_of false script = script_at script ∷ []

-- the report is of marks, of which each is a verdict: first one of each test with a script of its own, and then, unless the suite stands
-- alone, one of each other test on the script
pub record ReportsOn (tests : List Loaded) (alone : Bool) (script : Bytes) (report : Report) : Type 0 where
  pub marks : List Mark
  pub each : AreMarks (own_tests tests) (other_tests tests) (reads_of alone script) marks
  pub judged : All HasVerdict marks
  pub sums : IsReportOf marks report

-- the report is that of the suite's tests on the task's script
pub record IsGradeAnswer (task : Task) (suite : Bytes) (states : ℕ) (alone : Bool) (report : Report) : Type 0 where
  pub short : length suite ≤ max_input
  pub few : length task.files.now ≤ max_files
  pub tests : List Loaded
  pub told : AreTestsOf task suite states tests
  pub ways : NeedNoThreads tests
  pub reports : ReportsOn tests alone task.script.now report

-- it is reported of the suite's text, or memory was refused
abbrev pub IsToldBelow : GradeRefusal → Type 0
IsToldBelow SuiteTooLong = ⊥
IsToldBelow (BadSuite line told) = Unit {0}
IsToldBelow UnusedScript = Unit {0}
IsToldBelow (EveryWay n) = ⊥
IsToldBelow (TooManyFiles n) = ⊥
IsToldBelow Memory = Unit {0}

-- why nothing is graded: the suite is too long, there are too many files, this test is the first that is to run in every way, or what is
-- reported of the suite's text
pub data IsGradeRefusal (task : Task) (suite : Bytes) (states : ℕ) : GradeRefusal → Type 0 where
  long_suite : max_input < length suite → IsGradeRefusal task suite states SuiteTooLong
  many_files : max_files < length task.files.now → IsGradeRefusal task suite states (TooManyFiles (max_files + 1))
  every_way : (tests : List Loaded) (place : ℕ) → AreTestsOf task suite states tests → position (λ test. test.every_way) tests ≡ Some place → IsGradeRefusal task suite states (EveryWay (place + 1))
  told_below : {refusal : GradeRefusal} → IsToldBelow refusal → IsGradeRefusal task suite states refusal
