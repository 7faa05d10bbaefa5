use Rattle.law_turns.proofs.orders.Back.{alike_back}
use Rattle.law_turns.proofs.orders.Keys.{one_key}
use Rattle.law_turns.proofs.orders.Matching.{alike_matched}
use Rattle.law_turns.proofs.orders.alike_kernels_have_the_same_outcomes.Goals as goal

pub returns-clause-forth : goal.returns-clause-forth
returns-clause-forth g c = alike_matched g.M.Machine.call_of g.M.Machine.next_of

pub returns-clause-back : goal.returns-clause-back
returns-clause-back g c = alike_back

pub returns-clause-keyed : goal.returns-clause-keyed
returns-clause-keyed g c = one_key
