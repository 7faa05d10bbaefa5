use Rattle.law_kernel.proofs.outcomes.Outcomes as outcomes
use Rattle.law_kernel.proofs.outcomes.every_call_ends.Goals as goal

pub returns : goal.returns
returns g c = outcomes.every_call_ends
