use Rattle.std.proofs.Common.{◌≢◌, subst, sym}
use Rattle.script_load.specs.Line.{lines_of}
use Rattle.run_model.specs.ScriptRun.{script_kernel}
use Rattle.kernel_runs.specs.Refused.{IsReplayFault}
use Rattle.embed.specs.Looks.{IsLookRefusal, LedTo, cannot_start, no_schedule, no_event, no_room}
use Rattle.embed.proofs.looking.look_of.Goals as goal

pub returns-in-Err-clause-fault : goal.returns-in-Err-clause-fault
returns-in-Err-clause-fault c = cannot_start c.in-Err.ensures.fault

pub returns-in-Err-schedule_of-clause-fault : goal.returns-in-Err-schedule_of-clause-fault
returns-in-Err-schedule_of-clause-fault c = no_schedule c.in-Err-schedule_of.ensures.fault

pub returns-in-Err-carry_out-clause-fault : goal.returns-in-Err-carry_out-clause-fault
returns-in-Err-carry_out-clause-fault c =
    let task = c.args.task.now in
    let begun = c.in-Ok.begun in
    let lines = lines_of begun.script.lines in
    let events = c.in-Ok-schedule_of.events.items in
    let fault = c.in-Err-carry_out.fault in
    subst (IsLookRefusal task c.args.schedule.now) (sym c.of_replay.ensures)
    (no_event fault lines begun.files events c.in-Ok.ensures.starts c.in-Ok-schedule_of.ensures.lines
    (subst (λ profile. IsReplayFault (script_kernel profile lines task.stdin.now begun.files) events fault) c.in-Ok.ensures.profile
    (subst (λ e. IsReplayFault (script_kernel begun.script.profile lines task.stdin.now begun.files) e fault) c.as_slice.ensures.value c.in-Err-carry_out.ensures.fault))
    c.in-Err-carry_out.ensures.finished)

pub returns-in-Ok-look_object-clause-looked : goal.returns-in-Ok-look_object-clause-looked
returns-in-Ok-look_object-clause-looked c =
    let task = c.args.task.now in
    let begun = c.in-Ok.begun in
    let lines = lines_of begun.script.lines in
    let events = c.in-Ok-schedule_of.events.items in
    let is_finished = c.in-Ok-carry_out.is_finished in
    record {
      lines = lines;
      given = begun.files;
      starts = c.in-Ok.ensures.starts;
      events = events;
      by = c.in-Ok-schedule_of.ensures.lines;
      led = subst (λ profile. LedTo (script_kernel profile lines task.stdin.now begun.files) events is_finished) c.in-Ok.ensures.profile
          (subst (λ e. LedTo (script_kernel begun.script.profile lines task.stdin.now begun.files) e is_finished) c.as_slice.ensures.value c.in-Ok-carry_out.ensures.led);
    }

pub returns-clause-fault : goal.returns-clause-fault
returns-clause-fault c = no_room
