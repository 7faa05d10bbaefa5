use Rattle.std.proofs.Common.{◌≡◌, Err, subst, rules}
use Rattle.script_load.specs.Line.{lines_of}
use Rattle.run_model.specs.ScriptRun.{IsSpentFrom, script_kernel}
use Rattle.grade_verdicts.specs.Judged.{by_turns}
use Rattle.kernel_runs.specs.declared.run.RunOneFault.TheVariants.{Spent}
use Rattle.grade_verdicts.proofs.judging.judge_room.Goals as goal

pub returns-in-Err-Spent : goal.returns-in-Err-Spent
returns-in-Err-Spent c =
    let task = c.args.task.now in
    let lines = lines_of c.args.script.now.lines in
    let turns = c.turns_of.result in
    let was : c.full_in_run.result ≡ Err Spent = search rules in
    by_turns turns c.turns_of.ensures.are (subst (λ profile. IsSpentFrom (script_kernel profile lines task.stdin.now task.files.now) turns) c.requires.profile (c.full_in_run.ensures.spent was))
