-- What a call of a grading leaves: what the library below reports of the task and the suite, or why nothing is graded.
use Rattle.std.specs.Prelude.{◌≡◌, ◌⊎◌, ℕ, [], string_bytes}
use Rattle.mem_files.specs.Name.{Bytes}
use Rattle.xvsh_grades.specs.declared.request.Report.{Report}
use Rattle.embed.specs.declared.task.Task.{Task}
use Rattle.embed.specs.Packing.{mark_of}
use Rattle.embed.specs.declared.refusal.GradeRefusal.{GradeRefusal}
use Rattle.embed.specs.declared.refusal.GradeRefusal.TheVariants.{SuiteTooLong, BadSuite, UnusedScript, EveryWay, TooManyFiles, Memory}
use Rattle.embed.specs.Grades.{IsGradeAnswer, IsGradeRefusal}
use Rattle.xvsh_c.specs.declared.answer.Answer.{Answer}
use Rattle.xvsh_c.specs.AskCalls.{is_on}

-- the number of a refusal
abbrev pub refusal_number : GradeRefusal → ℕ
refusal_number (TooManyFiles n) = 6
refusal_number Memory = 8
refusal_number (BadSuite line told) = 71
refusal_number SuiteTooLong = 72
refusal_number UnusedScript = 73
refusal_number (EveryWay n) = 74

-- the file, the line or the test that it is about, or 0
abbrev pub refusal_place : GradeRefusal → ℕ
refusal_place (TooManyFiles n) = n
refusal_place Memory = 0
refusal_place (BadSuite line told) = line
refusal_place SuiteTooLong = 0
refusal_place UnusedScript = 0
refusal_place (EveryWay n) = n

-- what is wrong with a suite, in words
abbrev pub refusal_words : GradeRefusal → Bytes
refusal_words (TooManyFiles n) = []
refusal_words Memory = []
refusal_words (BadSuite line told) = string_bytes told
refusal_words SuiteTooLong = []
refusal_words UnusedScript = []
refusal_words (EveryWay n) = []

-- the answer reports why nothing is graded, and of a suite what is wrong with it, and has no other bytes
pub record TellsRefusal (answer : Answer) (refusal : GradeRefusal) : Type 0 where
  pub status : answer.status ≡ refusal_number refusal
  pub place : answer.place ≡ refusal_place refusal
  pub diag : answer.diag.now ≡ refusal_words refusal
  pub out : answer.out.now ≡ []
  pub events : answer.events.now ≡ []
  pub json : answer.json.now ≡ []
  pub block : answer.block.now ≡ []
  pub sizes : answer.sizes.now ≡ []

-- the answer has a report, and says whether every test was passed
pub record TellsGraded (answer : Answer) (report : Report) : Type 0 where
  pub status : answer.status ≡ 0
  pub json : answer.json.now ≡ report.text.items
  pub fine : answer.fine ≡ mark_of report.has_passed

-- a call of `xvsh_grade_call` left this answer
abbrev pub GradeCall : Task → Bytes → ℕ → ℕ → Answer → Type 0
GradeCall task suite states alone answer =
    ((report : Report) × IsGradeAnswer task suite states (is_on alone) report × TellsGraded answer report) ⊎ ((refusal : GradeRefusal) × IsGradeRefusal task suite states refusal × TellsRefusal answer refusal)
