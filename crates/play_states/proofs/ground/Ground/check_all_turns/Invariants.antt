use Rattle.std.specs.Prelude.{All}
use Rattle.play_states.specs.declared.spots.Shown.{Shown}
use Rattle.play_states.specs.Plays.{IsAlikeTo}
use Rattle.play_states.proofs.Placing.{AllBelow}
use Rattle.play_states.proofs.ground.Ground.check_all_turns.Given as goal

abbrev pub invariant-loop-it : goal.invariant-loop-it
invariant-loop-it g l = AllBelow (λ (s : Shown). All (IsAlikeTo g.M.Machine.call_of g.M.Machine.next_of l.self l.shown s.spot.pids.items) s.spot.turns.items) l.shown l.it-index
