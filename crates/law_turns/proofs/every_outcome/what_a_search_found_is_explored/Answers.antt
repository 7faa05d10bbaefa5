use Rattle.law_turns.proofs.Searched.{search_enough, enough_explored}
use Rattle.law_turns.proofs.every_outcome.what_a_search_found_is_explored.Goals as goal

pub returns-clause-enough : goal.returns-clause-enough
returns-clause-enough g c = search_enough g.M.Machine.call_of g.M.Machine.next_of

pub returns-clause-explored : goal.returns-clause-explored
returns-clause-explored g c = enough_explored g.M.Machine.call_of g.M.Machine.next_of
