use Rattle.std.specs.Prelude.{All}
use Rattle.play_states.specs.Plays.{IsShown}
use Rattle.play_states.proofs.ground.Ground.show_all.Given as goal

abbrev pub invariant-loop-spot : goal.invariant-loop-spot
invariant-loop-spot g l = All (IsShown g.M.Machine.call_of g.M.Machine.next_of l.self l.outcomes) l.shown.items
