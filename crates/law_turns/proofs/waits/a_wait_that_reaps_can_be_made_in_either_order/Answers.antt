use Rattle.law_turns.proofs.waits.Turned.{reaps_either, reaps_stays}
use Rattle.law_turns.proofs.waits.a_wait_that_reaps_can_be_made_in_either_order.Goals as goal

pub returns-clause-either : goal.returns-clause-either
returns-clause-either g c = reaps_either g.M.Machine.call_of g.M.Machine.next_of

pub returns-clause-stays : goal.returns-clause-stays
returns-clause-stays g c = reaps_stays g.M.Machine.call_of g.M.Machine.next_of
