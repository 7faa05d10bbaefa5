use Rattle.play_states.specs.Plays.{IsLedTo}
use Rattle.play_states.proofs.Placing.{AllBelow}
use Rattle.play_states.proofs.telling.are_led_to.Given as goal

abbrev pub invariant-loop-place : goal.invariant-loop-place
invariant-loop-place l = AllBelow (IsLedTo l.shown l.turns) l.places l.place-index
