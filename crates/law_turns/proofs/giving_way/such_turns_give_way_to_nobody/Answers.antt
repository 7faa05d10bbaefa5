use Rattle.law_turns.proofs.giving_way.Safe.{giving_safe}
use Rattle.law_turns.proofs.giving_way.such_turns_give_way_to_nobody.Goals as goal

pub returns : goal.returns
returns g c = giving_safe g.M.Machine.call_of g.M.Machine.next_of
