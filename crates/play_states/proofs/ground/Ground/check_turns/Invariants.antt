use Rattle.play_states.specs.Plays.{IsAlikeTo}
use Rattle.play_states.proofs.Placing.{AllBelow}
use Rattle.play_states.proofs.ground.Ground.check_turns.Given as goal

abbrev pub invariant-loop-turn : goal.invariant-loop-turn
invariant-loop-turn g l = AllBelow (IsAlikeTo g.M.Machine.call_of g.M.Machine.next_of l.self l.shown l.pids) l.turns l.turn-index
