use Rattle.std.proofs.Common.{map}
use Rattle.order_search.specs.Told.{outcome_by}
use Rattle.play_states.specs.Plays.{IsAt}
use Rattle.play_states.proofs.Placing.{AllBelow}
use Rattle.play_states.proofs.places.are_placed.Given as goal

abbrev pub invariant-loop-outcome : goal.invariant-loop-outcome
invariant-loop-outcome l = AllBelow (λ o. IsAt (map outcome_by l.outcomes) l.places (outcome_by o)) l.found l.outcome-index
