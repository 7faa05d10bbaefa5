use Rattle.std.proofs.Common.{subst}
use Rattle.script_load.specs.Line.{lines_of}
use Rattle.embed.specs.Plain.{IsMeaningFault, IsPlainFault, no_start, no_run}
use Rattle.embed.proofs.Agreeing.{of_fault}
use Rattle.embed.proofs.plain.plain_of.Goals as goal

pub returns-in-Err-clause-fault : goal.returns-in-Err-clause-fault
returns-in-Err-clause-fault c = no_start c.in-Err.ensures.fault

pub returns-then-task-eq0-clause-fault : goal.returns-then-task-eq0-clause-fault
returns-then-task-eq0-clause-fault c =
    let begun = c.in-Ok.begun in
    let task = c.args.task.now in
    of_fault c.plain_in.result (IsMeaningFault begun.script.profile (lines_of begun.script.lines) task.stdin.now begun.files) (IsPlainFault task)
    (λ fault is. no_run (lines_of begun.script.lines) begun.files c.in-Ok.ensures.starts (subst (λ profile. IsMeaningFault profile (lines_of begun.script.lines) task.stdin.now begun.files fault) c.in-Ok.ensures.profile is))
    c.plain_in.ensures.fault

pub returns-clause-fault : goal.returns-clause-fault
returns-clause-fault c =
    let begun = c.in-Ok.begun in
    let task = c.args.task.now in
    of_fault c.plain_in-2.result (IsMeaningFault begun.script.profile (lines_of begun.script.lines) task.stdin.now begun.files) (IsPlainFault task)
    (λ fault is. no_run (lines_of begun.script.lines) begun.files c.in-Ok.ensures.starts (subst (λ profile. IsMeaningFault profile (lines_of begun.script.lines) task.stdin.now begun.files fault) c.in-Ok.ensures.profile is))
    c.plain_in-2.ensures.fault
