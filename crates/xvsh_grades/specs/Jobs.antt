-- What is judged at once.
use Rattle.std.specs.Prelude.{◌≡◌, List, [], ◌∷◌, ◌++◌, Option, Some, None, IfSome, IsSomeAnd, map}
use Rattle.std.specs.List.{AllZip}
use Rattle.std.specs.Option.{option_copied}
use Rattle.mem_files.specs.Name.{Bytes}
use Rattle.xvsh_read.specs.Path.{Path}
use Rattle.grade_verdicts.specs.declared.verdict.Verdict.{Verdict}
use Rattle.grade_jobs.specs.declared.judging.Job.{Job}
use Rattle.grade_tests.specs.Tasks.{IsTaskOf}
use Rattle.grade_tests.specs.declared.test.Loaded.{Loaded}
use Rattle.xvsh_grades.specs.Marks.{AreMarks, IsVerdictOf, ScriptRead}
use Rattle.xvsh_grades.specs.declared.batches.Book.{Book}
use Rattle.xvsh_grades.specs.declared.batches.Script.{Script}
use Rattle.xvsh_grades.specs.declared.marks.Mark.{Mark}
use Rattle.xvsh_grades.specs.declared.marks.Piece.{Piece}

-- the job is the piece's test on its bytes
pub record IsJobOf (piece : Piece) (job : Job) : Type 0 where
  pub task : IsTaskOf piece.test.now job.task
  pub every_way : job.every_way ≡ piece.test.now.every_way
  pub bytes : job.bytes.now ≡ piece.bytes.now

-- the verdict is due of the piece, unless memory was refused to it
abbrev pub IsFoundOf : Piece → Option Verdict → Type 0
IsFoundOf piece found = IfSome found (IsVerdictOf piece.test.now piece.bytes.now)

-- so it is of the mark, which is of the piece
pub record IsMarkOf (piece : Piece) (mark : Mark) : Type 0 where
  pub script : mark.script ≡ piece.script
  pub test : mark.test ≡ piece.test
  pub found : IsFoundOf piece mark.verdict

-- the piece is the test on these bytes of the script at a path
pub record IsPieceOf (path : Option Path) (text : Bytes) (own : Loaded) (piece : Piece) : Type 0 where
  pub script : option_copied piece.script ≡ path
  pub test : piece.test.now ≡ own
  pub bytes : piece.bytes.now ≡ text

-- the piece is the test on its own script
abbrev pub IsOwnPiece : Loaded → Piece → Type 0
IsOwnPiece test piece = IsSomeAnd test.script (λ bytes. IsPieceOf None bytes.items test piece)

-- each of the tests on each script, in order
pub data ArePieces (tests : List Loaded) : List Script → List Piece → Type 0 where
  of_none : ArePieces tests [] []
  of_more : {scripts : List Script} {pieces : List Piece} (script : Script) (more : List Piece) → ArePieces tests scripts pieces → AllZip (IsPieceOf (Some script.path.now) script.bytes.items) tests more → ArePieces tests (scripts ++ script ∷ []) (pieces ++ more)

-- what was read of a script that waits
abbrev pub read_of : Script → ScriptRead
read_of script = record { path = script.path.now; bytes = Some script.bytes.items }

-- the book has the marks of what was read, but for the scripts that wait
pub record Holds (own others : List Loaded) (reads : List ScriptRead) (book : Book) : Type 0 where
  pub judged : List ScriptRead
  pub split : reads ≡ judged ++ map read_of book.waiting.items
  pub marks : AreMarks own others judged book.marks.items
