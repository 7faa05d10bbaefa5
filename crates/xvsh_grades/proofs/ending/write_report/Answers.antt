use Rattle.std.proofs.Common.{subst, sym}
use Rattle.std.specs.Io.KnownBytes.{Appends}
use Rattle.xvsh_read.specs.Writing.{AppendsPart}
use Rattle.xvsh_grades.specs.Endings.{unwritten, written}
use Rattle.xvsh_grades.specs.Passed.{IsStatusOf}
use Rattle.xvsh_grades.proofs.ending.write_report.Goals as goal

pub returns-in-Ok : goal.returns-in-Ok
returns-in-Ok g c = λ marks h. written (subst (Appends _ _) c.as_slice.ensures.value c.in-Ok.ensures.written) (subst (IsStatusOf marks) (sym c.code.ensures) (c.status_of.ensures marks h))

pub returns-in-Err : goal.returns-in-Err
returns-in-Err g c = λ marks h. unwritten (subst (AppendsPart _ _) c.as_slice.ensures.value c.in-Err.ensures.part)
