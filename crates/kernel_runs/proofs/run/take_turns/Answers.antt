use Rattle.std.proofs.Common.{◌∙◌, arith, rules}
use Rattle.kernel_model.specs.History.{Steps}
use Rattle.kernel_runs.proofs.Turning.{turn_boot, turn_hart, turn_length}
use Rattle.kernel_runs.proofs.run.take_turns.Goals as goal

pub loop-turn-preserved : goal.loop-turn-preserved
loop-turn-preserved g c =
    let steps : Steps g.M.Machine.call_of g.M.Machine.next_of c.loop-turn.kernel 0 c.take_turn.new.kernel = search rules in
    let call = g.M.Machine.call_of in
    let next = g.M.Machine.next_of in (
      turn_boot call next c.loop-turn.kernel c.take_turn.new.kernel 0 steps ∙ c.loop-turn.invariant.0,
      search rules,
      turn_hart call next c.loop-turn.kernel c.take_turn.new.kernel 0 steps c.loop-turn.invariant.2,
      omega (arith, turn_length call next c.loop-turn.kernel c.take_turn.new.kernel 0 steps, c.loop-turn.invariant.3),
    )
