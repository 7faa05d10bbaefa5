use Rattle.law_turns.proofs.Same.{kept_outcomes}
use Rattle.law_turns.proofs.every_outcome.a_turn_that_gives_way_keeps_all_outcomes.Goals as goal

pub returns : goal.returns
returns g c = kept_outcomes g.M.Machine.call_of g.M.Machine.next_of
