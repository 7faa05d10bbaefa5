use Rattle.std.proofs.Common.{arith}
use Rattle.std.proofs.lemmas.List.{get_or_default}
use Rattle.play_states.specs.Plays.{IsAlikeTo}
use Rattle.play_states.proofs.Placing.{below_more}
use Rattle.play_states.proofs.ground.Ground.check_turns.Goals as goal

pub loop-turn-preserved : goal.loop-turn-preserved
loop-turn-preserved g c =
    below_more (IsAlikeTo g.M.Machine.call_of g.M.Machine.next_of c.args.self.now c.args.shown.now c.args.pids.now) c.args.turns.now c.loop-turn.turn-index _ c.loop-turn.invariant c.loop-turn-test.true (get_or_default c.args.turns.now c.loop-turn.turn-index _ _ c.loop-turn-test.true) c.in_ok-check_turn.ensures

pub returns : goal.returns
returns g c = λ i d within. let t = c.loop-turn-test.false in c.loop-turn.invariant i d (omega (arith, within, t))
