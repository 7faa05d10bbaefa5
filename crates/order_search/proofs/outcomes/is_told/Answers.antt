use Rattle.std.proofs.Common.{arith}
use Rattle.kernel_model.specs.Outcome.{outcome_of}
use Rattle.order_search.proofs.Telling.{untold}
use Rattle.order_search.proofs.outcomes.is_told.Goals as goal

pub returns : goal.returns
returns g c = ((λ t. absurd (let z : ⊥ = cc in z)), (λ has. absurd (untold c.args.outcomes.now (outcome_of c.args.look.now) (λ k d less. c.loop-outcome.invariant k d (omega (arith, less))) has)))
