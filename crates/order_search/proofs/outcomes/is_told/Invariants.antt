use Rattle.kernel_model.specs.Outcome.{outcome_of}
use Rattle.order_search.proofs.Telling.{IsUntold}
use Rattle.order_search.proofs.outcomes.is_told.Given as goal

abbrev pub invariant-loop-outcome : goal.invariant-loop-outcome
invariant-loop-outcome g l = IsUntold l.outcomes (outcome_of l.look) l.outcome-index
