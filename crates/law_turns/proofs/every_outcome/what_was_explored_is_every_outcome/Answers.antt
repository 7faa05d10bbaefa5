use Rattle.law_turns.proofs.Listed.{explored_all}
use Rattle.law_turns.proofs.every_outcome.what_was_explored_is_every_outcome.Goals as goal

pub returns : goal.returns
returns g c = explored_all g.M.Machine.call_of g.M.Machine.next_of
