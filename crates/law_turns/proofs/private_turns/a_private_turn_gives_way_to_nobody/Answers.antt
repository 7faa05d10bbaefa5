use Rattle.law_turns.proofs.private_turns.Safe.{privates_safe_awake}
use Rattle.law_turns.proofs.private_turns.a_private_turn_gives_way_to_nobody.Goals as goal

pub returns : goal.returns
returns g c = privates_safe_awake g.M.Machine.call_of g.M.Machine.next_of
