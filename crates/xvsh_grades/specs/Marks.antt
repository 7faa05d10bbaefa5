-- What the tests of a suite say of scripts.
use Rattle.std.specs.Prelude.{◌≡◌, true, ◌<◌, List, [], ◌∷◌, ◌++◌, Option, Some, None, IfSome, IsSomeAnd, MatchOption, filter, is_some, is_none, length}
use Rattle.std.specs.Borrow.{Bor}
use Rattle.std.specs.List.{AllZip}
use Rattle.std.specs.Option.{option_copied}
use Rattle.mem_files.specs.Name.{Bytes}
use Rattle.xvsh_read.specs.Path.{Path}
use Rattle.xvsh_read.specs.Reading.{Agree, max_input, told_at}
use Rattle.grade_verdicts.specs.Judged.{IsJudged}
use Rattle.grade_verdicts.specs.declared.expected.Task.{Task}
use Rattle.grade_verdicts.specs.declared.verdict.Verdict.{Verdict}
use Rattle.grade_verdicts.specs.declared.verdict.Verdict.TheVariants.{TooLarge}
use Rattle.grade_jobs.specs.Ways.{RunsRightInEveryWay}
use Rattle.grade_tests.specs.Loads.{AreTestsAt}
use Rattle.grade_tests.specs.Tasks.{IsTaskOf}
use Rattle.grade_tests.specs.declared.test.Loaded.{Loaded}
use Rattle.xvsh_grades.specs.declared.marks.Mark.{Mark}
use Rattle.xvsh_grades.specs.declared.request.GradeRequest.{GradeRequest}

-- the verdict is due of the test on these bytes, and where the test asks for it, a pass is one in every way
pub record IsVerdictOf (test : Loaded) (bytes : Bytes) (verdict : Verdict) : Type 0 where
  pub t : Task
  pub task : IsTaskOf test t
  pub due : IsJudged t bytes verdict
  pub ways : test.every_way ≡ true → RunsRightInEveryWay t bytes verdict

-- the mark is what the test says of these bytes of the script at a path; it is no verdict where memory was refused to it
pub record IsMarkOn (path : Option Path) (bytes : Bytes) (own : Loaded) (mark : Mark) : Type 0 where
  pub script : option_copied mark.script ≡ path
  pub test : mark.test.now ≡ own
  pub found : IfSome mark.verdict (IsVerdictOf own bytes)

-- it is what it says of its own script
abbrev pub IsOwnMark : Loaded → Mark → Type 0
IsOwnMark test mark = IsSomeAnd test.script (λ bytes. IsMarkOn None bytes.items test mark)

-- it says that the script at the path has too many bytes
pub record IsTooLong (path : Path) (own : Loaded) (mark : Mark) : Type 0 where
  pub script : option_copied mark.script ≡ Some path
  pub test : mark.test.now ≡ own
  pub verdict : mark.verdict ≡ Some TooLarge

-- what was read of a script: its path, and its bytes, unless there are too many
pub record ScriptRead : Type 0 where
  pub path : Path
  pub bytes : Option Bytes

-- it was read at this path
pub record IsReadAt (told : Path → Option Bytes) (at : Bor Path) (read : ScriptRead) : Type 0 where
  pub path : read.path ≡ at.now
  pub bytes : MatchOption read.bytes (IfSome (told at.now) (λ bytes. max_input < length bytes)) (Agree (told at.now))

-- one mark of each of the tests on a script, in order
abbrev pub AreMarksOn : List Loaded → ScriptRead → List Mark → Type 0
AreMarksOn tests read marks =
    MatchOption read.bytes (AllZip (IsTooLong read.path) tests marks) (λ bytes. AllZip (IsMarkOn (Some read.path) bytes) tests marks)

-- the tests with a script of their own, and the others
abbrev pub own_tests : List Loaded → List Loaded
own_tests tests = filter (λ test. is_some test.script) tests

abbrev pub other_tests : List Loaded → List Loaded
other_tests tests = filter (λ test. is_none test.script) tests

-- first one mark of each test with a script of its own, and then, script by script, one of each of the others
pub data AreMarks (own others : List Loaded) : List ScriptRead → List Mark → Type 0 where
  of_own : {marks : List Mark} → AllZip IsOwnMark own marks → AreMarks own others [] marks
  of_script : {reads : List ScriptRead} {marks : List Mark} (read : ScriptRead) (more : List Mark) → AreMarks own others reads marks → AreMarksOn others read more → AreMarks own others (reads ++ read ∷ []) (marks ++ more)

-- what the suite at the request's path says of the scripts at its paths, by what the host states of its input and its files; of a
-- script at `-` it isn't said which bytes these are
pub record IsGraded (input : Option Bytes) (file : Path → Option Bytes) (request : GradeRequest) (marks : List Mark) : Type 0 where
  pub tests : List Loaded
  pub suite : AreTestsAt file request.suite.now input request.states tests
  pub reads : List ScriptRead
  pub scripts : AllZip (IsReadAt (told_at None file)) request.scripts.now reads
  pub each : AreMarks (own_tests tests) (other_tests tests) reads marks
