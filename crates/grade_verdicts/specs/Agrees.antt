-- What is expected of a script, and when what a run left agrees with it.
use Rattle.std.specs.Prelude.{◌≡◌, Some, All}
use Rattle.mem_files.specs.Name.{Bytes}
use Rattle.mem_files.specs.Files.{FileMap, files}
use Rattle.kernel_model.specs.Outcome.{RunOutcome}
use Rattle.order_search.specs.declared.outcomes.Outcome.{Outcome}
use Rattle.grade_verdicts.specs.declared.expected.Expected.{Expected}
use Rattle.grade_verdicts.specs.declared.expected.ExpectedFile.{ExpectedFile}

-- the file is there, with the bytes that are expected
abbrev pub HasFile : FileMap → ExpectedFile → Type 0
HasFile F file = F file.name.items ≡ Some file.bytes.items

-- the output is the one that is expected, and each file that is expected is there with its bytes; others may be there too
pub record Agrees (expected : Expected) (printed : Bytes) (F : FileMap) : Type 0 where
  pub out : printed ≡ expected.out.items
  pub files : All (HasFile F) expected.files.items

-- the same of what an exploration reports, and of what a run comes to
abbrev pub AgreesWith : Expected → Outcome → Type 0
AgreesWith expected outcome = Agrees expected outcome.out.items (files outcome.files)

abbrev pub AgreesIn : Expected → RunOutcome → Type 0
AgreesIn expected outcome = Agrees expected outcome.out (files outcome.files)
