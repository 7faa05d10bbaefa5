use Rattle.law_turns.proofs.exits.Bare.{bare_either, bare_stays}
use Rattle.law_turns.proofs.exits.an_exit_without_descriptors_can_be_made_in_either_order.Goals as goal

pub returns-clause-either : goal.returns-clause-either
returns-clause-either g c = bare_either g.M.Machine.call_of g.M.Machine.next_of

pub returns-clause-stays : goal.returns-clause-stays
returns-clause-stays g c = bare_stays g.M.Machine.call_of g.M.Machine.next_of
