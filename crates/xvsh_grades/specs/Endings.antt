-- How `grade` ends.
use Rattle.std.specs.Prelude.{◌≡◌, ℕ, List, Option}
use Rattle.std.specs.Io.KnownBytes.{Appends}
use Rattle.mem_files.specs.Name.{Bytes}
use Rattle.xvsh_read.specs.Path.{Path}
use Rattle.xvsh_read.specs.Writing.{AppendsPart}
use Rattle.grade_tests.specs.Status.{grade_status}
use Rattle.grade_tests.specs.declared.fault.GradeFault.{GradeFault}
use Rattle.xvsh_grades.specs.Marks.{IsGraded}
use Rattle.xvsh_grades.specs.Passed.{IsReportOf, IsStatusOf}
use Rattle.xvsh_grades.specs.declared.marks.Mark.{Mark}
use Rattle.xvsh_grades.specs.declared.request.GradeRequest.{GradeRequest}
use Rattle.xvsh_grades.specs.declared.request.Report.{Report}

-- the report goes to standard output, of which this is what it held before and after: with the status of the marks once it was
-- written, or with 1 where only a part of it was
pub data Reports (old new : Option Bytes) (marks : List Mark) (report : Report) : ℕ → Type 0 where
  written : {status : ℕ} → Appends old new report.text.items → IsStatusOf marks status → Reports old new marks report status
  unwritten : AppendsPart old new report.text.items → Reports old new marks report 1

-- so `grade` ends; or with the status of a fault, and nothing was written
pub data EndsGrading (input : Option Bytes) (file : Path → Option Bytes) (request : GradeRequest) (old new : Option Bytes) : ℕ → Type 0 where
  graded : {status : ℕ} (marks : List Mark) (report : Report) → IsGraded input file request marks → IsReportOf marks report → Reports old new marks report status → EndsGrading input file request old new status
  fault : (fault : GradeFault) → new ≡ old → EndsGrading input file request old new (grade_status fault)
