use Rattle.grade_verdicts.specs.Judged.{no_script, too_long}
use Rattle.grade_verdicts.specs.declared.verdict.Refusal.TheVariants.{Script}
use Rattle.grade_verdicts.proofs.Known.{refused_fails}
use Rattle.grade_verdicts.proofs.judging.read_script.Goals as goal

pub returns-then-task-bytes-clause-refused : goal.returns-then-task-bytes-clause-refused
returns-then-task-bytes-clause-refused c = too_long c.if-task-bytes.true

pub returns-in-Err : goal.returns-in-Err
returns-in-Err c = record { script = tt; profile = tt; refused = no_script c.in-Err.ensures.fault; no_pass = refused_fails (Script c.in-Err.fault) }
