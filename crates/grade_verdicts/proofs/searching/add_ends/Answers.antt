use Rattle.std.proofs.Common.{All, subst}
use Rattle.script_load.specs.Line.{lines_of}
use Rattle.sh_machine.specs.Turn.{call_of, next_of}
use Rattle.run_model.specs.ScriptRun.{script_kernel}
use Rattle.order_search.specs.Told.{IsReplayed}
use Rattle.grade_verdicts.proofs.searching.add_ends.Goals as goal

pub returns-clause-sound : goal.returns-clause-sound
returns-clause-sound c =
    let task = c.args.task.now in
    let lines = lines_of c.args.script.now.lines in
    subst (λ profile. All (IsReplayed call_of next_of (script_kernel profile lines task.stdin.now task.files.now)) c.args.found.now.outcomes.items → All (IsReplayed call_of next_of (script_kernel profile lines task.stdin.now task.files.now)) c.add_samples.new.outcomes.items) c.requires c.in_ok-_ended.ensures.sound
