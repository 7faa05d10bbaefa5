use Rattle.law_turns.proofs.Searched.{reached_outcomes}
use Rattle.law_turns.proofs.every_outcome.outcomes_of_reached_kernels_are_those_of_runs.Goals as goal

pub returns : goal.returns
returns g c = reached_outcomes g.M.Machine.call_of g.M.Machine.next_of
