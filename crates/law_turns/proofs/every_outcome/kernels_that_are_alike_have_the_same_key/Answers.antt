use Rattle.law_turns.proofs.Canonical.{alike_same_key}
use Rattle.law_turns.proofs.every_outcome.kernels_that_are_alike_have_the_same_key.Goals as goal

pub returns : goal.returns
returns g c = alike_same_key g.M.Machine.call_of g.M.Machine.next_of
