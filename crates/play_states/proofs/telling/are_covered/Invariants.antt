use Rattle.play_states.specs.Plays.{IsCovered}
use Rattle.play_states.proofs.Placing.{AllBelow}
use Rattle.play_states.proofs.telling.are_covered.Given as goal

abbrev pub invariant-loop-it : goal.invariant-loop-it
invariant-loop-it l = AllBelow (IsCovered l.shown) l.shown l.it-index
