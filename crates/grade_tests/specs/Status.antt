-- The statuses of faults.
use Rattle.std.specs.Prelude.{ℕ}
use Rattle.xvsh_read.specs.Status.{status_of}
use Rattle.grade_tests.specs.declared.fault.GradeFault.{GradeFault}
use Rattle.grade_tests.specs.declared.fault.GradeFault.TheVariants.{Common, Suite, Twice, Unused}

-- 2 where the suite is wrong, or the scripts don't fit it; else that of the fault
abbrev pub grade_status : GradeFault → ℕ
grade_status (Common fault) = status_of fault
grade_status (Suite path line told) = 2
grade_status (Twice path) = 2
grade_status (Unused path) = 2
