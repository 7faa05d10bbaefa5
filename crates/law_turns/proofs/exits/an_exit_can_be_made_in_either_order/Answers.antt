use Rattle.law_turns.proofs.exits.Whole.{exits_either, exits_stay}
use Rattle.law_turns.proofs.exits.an_exit_can_be_made_in_either_order.Goals as goal

pub returns-clause-either : goal.returns-clause-either
returns-clause-either g c = exits_either g.M.Machine.call_of g.M.Machine.next_of

pub returns-clause-stays : goal.returns-clause-stays
returns-clause-stays g c = exits_stay g.M.Machine.call_of g.M.Machine.next_of
