use Rattle.law_turns.proofs.exits.Joining.{exits_join}
use Rattle.law_turns.proofs.exits.an_exit_gives_way_to_nobody_who_frees_no_zombie.Goals as goal

pub returns : goal.returns
returns g c = exits_join g.M.Machine.call_of g.M.Machine.next_of
