-- When two tests are one, and when two verdicts say the same.
use Rattle.std.specs.Prelude.{◌≡◌, None, MatchOption, IsSomeAnd, map}
use Rattle.mem_files.specs.Name.{Name, Bytes}
use Rattle.grade_verdicts.specs.declared.expected.Expected.{Expected}
use Rattle.grade_verdicts.specs.declared.expected.ExpectedFile.{ExpectedFile}
use Rattle.grade_verdicts.specs.declared.expected.Task.{Task}
use Rattle.grade_verdicts.specs.declared.verdict.Difference.{Difference}
use Rattle.grade_verdicts.specs.declared.verdict.Place.{Place}
use Rattle.grade_verdicts.specs.declared.verdict.Place.TheVariants.{Output, File, NoFile}
use Rattle.grade_verdicts.specs.declared.verdict.Race.{Race}
use Rattle.grade_verdicts.specs.declared.verdict.Verdict.{Verdict}
use Rattle.grade_verdicts.specs.declared.verdict.Verdict.TheVariants.{Pass, PassEveryOrder, Wrong, WrongSoFar, Race as IsRacing, Unsure, Refused, TooLarge, NoRoom, Spent}

-- the name and the bytes of a file that is expected
abbrev pub named : ExpectedFile → Name × Bytes
named file = (file.name.items, file.bytes.items)

-- both expect this output and these files
pub record IsSameExpected (one other : Expected) : Type 0 where
  pub out : one.out.items ≡ other.out.items
  pub files : map named one.files.items ≡ map named other.files.items

-- both give this profile, this input and these files, expect the same, and set these limits
pub record IsSameTask (one other : Task) : Type 0 where
  pub profile : one.profile ≡ other.profile
  pub stdin : one.stdin.now ≡ other.stdin.now
  pub files : one.files.now ≡ other.files.now
  pub expected : IsSameExpected one.expected.now other.expected.now
  pub bytes : one.bytes ≡ other.bytes
  pub states : one.states ≡ other.states
  pub turns : one.turns ≡ other.turns

-- the same place
abbrev pub IsSamePlace : Place → Place → Type 0
IsSamePlace Output other = other ≡ Output
IsSamePlace (File name) other = (copy : _) × (other ≡ File copy) × (copy.items ≡ name.items)
IsSamePlace (NoFile name) other = (copy : _) × (other ≡ NoFile copy) × (copy.items ≡ name.items)

-- the same difference
pub record IsSameDifference (one other : Difference) : Type 0 where
  pub place : IsSamePlace one.place other.place
  pub line : other.line ≡ one.line
  pub byte : other.byte ≡ one.byte
  pub from : other.from ≡ one.from
  pub expected : MatchOption one.expected (other.expected ≡ None) (λ text. IsSomeAnd other.expected (λ copy. copy.items ≡ text.items))
  pub found : MatchOption one.found (other.found ≡ None) (λ text. IsSomeAnd other.found (λ copy. copy.items ≡ text.items))

-- the same schedules and the same difference
pub record IsSameRace (one other : Race) : Type 0 where
  pub right : other.right.items ≡ one.right.items
  pub wrong : other.wrong.items ≡ one.wrong.items
  pub difference : IsSameDifference one.difference other.difference

-- the second verdict says what the first one says
abbrev pub IsCopyOf : Verdict → Verdict → Type 0
IsCopyOf Pass copy = copy ≡ Pass
IsCopyOf PassEveryOrder copy = copy ≡ PassEveryOrder
IsCopyOf (Wrong difference) copy = (other : Difference) × (copy ≡ Wrong other) × IsSameDifference difference other
IsCopyOf (WrongSoFar difference) copy = (other : Difference) × (copy ≡ WrongSoFar other) × IsSameDifference difference other
IsCopyOf (IsRacing race) copy = (other : Race) × (copy ≡ IsRacing other) × IsSameRace race other
IsCopyOf (Unsure found) copy = copy ≡ Unsure found
IsCopyOf (Refused refusal) copy = copy ≡ Refused refusal
IsCopyOf (NoRoom full) copy = copy ≡ NoRoom full
IsCopyOf TooLarge copy = copy ≡ TooLarge
IsCopyOf Spent copy = copy ≡ Spent
