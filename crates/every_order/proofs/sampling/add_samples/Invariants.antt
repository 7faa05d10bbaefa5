use Rattle.std.specs.Prelude.{All}
use Rattle.script_load.specs.Line.{lines_of}
use Rattle.sh_machine.specs.Turn.{call_of, next_of}
use Rattle.run_model.specs.ScriptRun.{script_kernel}
use Rattle.order_search.specs.Told.{AreApart, IsReplayed}
use Rattle.every_order.proofs.sampling.add_samples.Given as goal

abbrev pub invariant-loop-number : goal.invariant-loop-number
invariant-loop-number g l =
    let start = script_kernel l.setting.script.now.profile (lines_of l.setting.script.now.lines) l.setting.stdin.now l.setting.files.now in
    (All (IsReplayed call_of next_of start) l.initial.outcomes.items → All (IsReplayed call_of next_of start) l.outcomes.items)
    × (AreApart l.initial.outcomes.items → AreApart l.outcomes.items)
