use Rattle.std.proofs.Common.{map}
use Rattle.order_search.specs.Told.{outcome_by}
use Rattle.play_states.specs.Plays.{IsOneOf}
use Rattle.play_states.proofs.Placing.{AllBelow}
use Rattle.play_states.proofs.places.are_found.Given as goal

abbrev pub invariant-loop-place : goal.invariant-loop-place
invariant-loop-place l = AllBelow (IsOneOf (map outcome_by l.outcomes) (map outcome_by l.found)) l.places l.place-index
