use Rattle.std.proofs.Common.{Err, ap, subst}
use Rattle.script_load.specs.Line.{lines_of}
use Rattle.run_model.specs.ScriptRun.{IsSpentFrom, script_kernel}
use Rattle.kernel_events.specs.Reports.{IsRunFrom}
use Rattle.hart_run.specs.Answer.{IsAnswerIfSettled}
use Rattle.embed.specs.Runs.{no_start, bad_turns, spent, no_memory}
use Rattle.embed.proofs.running.run_of.Goals as goal

pub returns-in-Err-clause-fault : goal.returns-in-Err-clause-fault
returns-in-Err-clause-fault c = no_start c.in-Err.ensures.fault

pub returns-in-Err-BadTurns-clause-fault : goal.returns-in-Err-BadTurns-clause-fault
returns-in-Err-BadTurns-clause-fault c = bad_turns (c.in-Err-BadTurns.ensures.bad_turns.0 (ap Err c.in-Err-BadTurns.field-0-is))

pub returns-in-Err-Spent-clause-fault : goal.returns-in-Err-Spent-clause-fault
returns-in-Err-Spent-clause-fault c =
    let begun = c.in-Ok.begun in
    let lines = lines_of begun.script.lines in
    spent lines begun.files c.in-Ok.ensures.starts
    (subst (λ profile. IsSpentFrom (script_kernel profile lines c.args.task.now.stdin.now begun.files) c.args.turns) c.in-Ok.ensures.profile (c.in-Err-Spent.ensures.spent (ap Err c.in-Err-Spent.field-0-is)))

pub returns-in-Err-Memory-clause-fault : goal.returns-in-Err-Memory-clause-fault
returns-in-Err-Memory-clause-fault c = no_memory

pub returns-in-Ok-answer_of-clause-ran : goal.returns-in-Ok-answer_of-clause-ran
returns-in-Ok-answer_of-clause-ran c =
    let begun = c.in-Ok.begun in
    let lines = lines_of begun.script.lines in
    let input = c.args.task.now.stdin.now in
    let report = c.in-Ok-run_in_order.report in
    record {
      lines = lines;
      given = begun.files;
      starts = c.in-Ok.ensures.starts;
      report = report;
      ran = subst (λ profile. IsRunFrom (script_kernel profile lines input begun.files) report) c.in-Ok.ensures.profile c.in-Ok-run_in_order.ensures.run;
      means = subst (λ profile. IsAnswerIfSettled profile lines input begun.files report) c.in-Ok.ensures.profile c.in-Ok-run_in_order.ensures.answer;
      told = c.in-Ok-answer_of.ensures;
    }

pub returns-clause-fault : goal.returns-clause-fault
returns-clause-fault c = no_memory
