use Rattle.law_turns.proofs.read_ends.Safe.{gives_way_safe}
use Rattle.law_turns.proofs.read_ends.such_closes_give_way_to_nobody.Goals as goal

pub returns : goal.returns
returns g c = gives_way_safe g.M.Machine.call_of g.M.Machine.next_of
