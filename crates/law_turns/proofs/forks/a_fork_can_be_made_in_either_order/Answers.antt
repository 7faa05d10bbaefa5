use Rattle.law_turns.proofs.forks.Turned.{forks_either, forks_stay}
use Rattle.law_turns.proofs.forks.a_fork_can_be_made_in_either_order.Goals as goal

pub returns-clause-either : goal.returns-clause-either
returns-clause-either g c = forks_either g.M.Machine.call_of g.M.Machine.next_of

pub returns-clause-stays : goal.returns-clause-stays
returns-clause-stays g c = forks_stay g.M.Machine.call_of g.M.Machine.next_of
