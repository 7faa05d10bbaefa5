use Rattle.std.proofs.Common.{◌∙◌, subst, sym}
use Rattle.script_load.specs.Line.{lines_of}
use Rattle.run_model.specs.ScriptRun.{script_kernel}
use Rattle.kernel_events.specs.Reports.{IsRunFrom}
use Rattle.kernel_runs.specs.Refused.{IsReplayFault}
use Rattle.hart_run.specs.Answer.{IsAnswerIfSettled}
use Rattle.schedule_lines.specs.EventLines.{AreLinesOf}
use Rattle.embed.specs.Runs.{IsReplayRefusal, cannot_start, no_schedule, no_replay, no_room}
use Rattle.embed.proofs.replays.replay_of.Goals as goal

pub returns-in-Err-clause-fault : goal.returns-in-Err-clause-fault
returns-in-Err-clause-fault c = cannot_start c.in-Err.ensures.fault

pub returns-in-Err-schedule_of-clause-fault : goal.returns-in-Err-schedule_of-clause-fault
returns-in-Err-schedule_of-clause-fault c = no_schedule c.in-Err-schedule_of.ensures.fault

pub returns-in-Err-replay-clause-fault : goal.returns-in-Err-replay-clause-fault
returns-in-Err-replay-clause-fault c =
    let task = c.args.task.now in
    let begun = c.in-Ok.begun in
    let lines = lines_of begun.script.lines in
    let events = c.in-Ok-schedule_of.events.items in
    let fault = c.in-Err-replay.fault in
    subst (IsReplayRefusal task c.args.schedule.now) (sym c.of_replay.ensures)
    (no_replay fault lines begun.files events c.in-Ok.ensures.starts c.in-Ok-schedule_of.ensures.lines
    (subst (λ profile. IsReplayFault (script_kernel profile lines task.stdin.now begun.files) events fault) c.in-Ok.ensures.profile
    (subst (λ e. IsReplayFault (script_kernel begun.script.profile lines task.stdin.now begun.files) e fault) c.as_slice.ensures.value c.in-Err-replay.ensures.fault)))

pub returns-in-Ok-answer_of-clause-ran : goal.returns-in-Ok-answer_of-clause-ran
returns-in-Ok-answer_of-clause-ran c =
    let task = c.args.task.now in
    let begun = c.in-Ok.begun in
    let lines = lines_of begun.script.lines in
    let report = c.in-Ok-replay.report in
    let ran = c.in-Ok-replay.ensures.run in
    record {
      lines = lines;
      given = begun.files;
      starts = c.in-Ok.ensures.starts;
      report = report;
      ran = subst (λ profile. IsRunFrom (script_kernel profile lines task.stdin.now begun.files) report) c.in-Ok.ensures.profile ran;
      means = subst (λ profile. IsAnswerIfSettled profile lines task.stdin.now begun.files report) c.in-Ok.ensures.profile (c.a_settled_script_has_one_answer.ensures begun.script.profile task.stdin.now begun.files c.in-Ok.ensures.starts.are ran);
      told = c.in-Ok-answer_of.ensures;
      by = subst (AreLinesOf c.args.schedule.now) (sym (c.in-Ok-replay.ensures.schedule ∙ c.as_slice.ensures.value)) c.in-Ok-schedule_of.ensures.lines;
    }

pub returns-clause-fault : goal.returns-clause-fault
returns-clause-fault c = no_room
