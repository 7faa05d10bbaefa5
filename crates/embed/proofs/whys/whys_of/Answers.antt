use Rattle.std.proofs.Common.{◌⊎◌, inl, inr, subst}
use Rattle.script_load.specs.Line.{lines_of}
use Rattle.xvsh_checks.specs.Whys.{AreWhysOf}
use Rattle.embed.specs.Tells.{IsReasonsFault, IsWhysFault, no_start, no_memory, not_told, no_reasons}
use Rattle.embed.proofs.Refusals.{refused}
use Rattle.embed.proofs.whys.whys_of.Goals as goal

pub returns-in-Err-clause-fault : goal.returns-in-Err-clause-fault
returns-in-Err-clause-fault c = not_told (no_start c.in-Err.ensures.fault)

pub returns-in-Err-noted_of-clause-fault : goal.returns-in-Err-noted_of-clause-fault
returns-in-Err-noted_of-clause-fault c =
    refused c.args.task.now (lines_of c.in-Ok.begun.script.lines) c.in-Ok.begun.files c.in-Ok.begun.script.profile c.in-Err-noted_of.fault c.in-Ok.ensures.starts c.in-Ok.ensures.profile c.in-Err-noted_of.ensures.fault

pub returns-in-Ok-object_of-clause-told : goal.returns-in-Ok-object_of-clause-told
returns-in-Ok-object_of-clause-told c =
    let task = c.args.task.now in
    let begun = c.in-Ok.begun in
    let lines = lines_of begun.script.lines in
    let starts = c.in-Ok.ensures.starts in
    let noted = c.in-Ok-noted_of.noted in
    record {
      lines = lines;
      given = begun.files;
      starts = starts;
      whys = subst (λ profile. AreWhysOf task.script.now profile lines task.stdin.now begun.files noted) c.in-Ok.ensures.profile c.in-Ok-noted_of.ensures.told;
    }

pub returns-clause-fault : goal.returns-clause-fault
returns-clause-fault c = not_told no_memory
