use Rattle.law_turns.proofs.giving_way.Following.{following}
use Rattle.law_turns.proofs.giving_way.Linked.{can_back, can_outcome}
use Rattle.law_turns.proofs.giving_way.neither_sleepers_nor_slots_are_seen.Goals as goal

pub returns-clause-follows : goal.returns-clause-follows
returns-clause-follows g c = following g.M.Machine.call_of g.M.Machine.next_of

pub returns-clause-back : goal.returns-clause-back
returns-clause-back g c = can_back g.M.Machine.call_of g.M.Machine.next_of

pub returns-clause-outcome : goal.returns-clause-outcome
returns-clause-outcome g c = can_outcome g.M.Machine.call_of g.M.Machine.next_of
