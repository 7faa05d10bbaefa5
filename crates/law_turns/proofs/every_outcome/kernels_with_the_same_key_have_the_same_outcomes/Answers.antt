use Rattle.law_turns.proofs.Same.{same_outcomes}
use Rattle.law_turns.proofs.every_outcome.kernels_with_the_same_key_have_the_same_outcomes.Goals as goal

pub returns : goal.returns
returns g c = same_outcomes g.M.Machine.call_of g.M.Machine.next_of
