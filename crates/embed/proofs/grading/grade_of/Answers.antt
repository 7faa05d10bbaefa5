use Rattle.embed.specs.declared.refusal.GradeRefusal.TheVariants.{Memory}
use Rattle.embed.specs.Grades.{told_below}
use Rattle.embed.proofs.grading.grade_of.Goals as goal

pub returns-clause-fault : goal.returns-clause-fault
returns-clause-fault c = told_below {refusal = Memory} tt
