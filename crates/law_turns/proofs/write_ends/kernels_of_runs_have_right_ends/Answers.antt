use Rattle.law_turns.proofs.write_ends.Runs.{still, ends, fresh}
use Rattle.law_turns.proofs.write_ends.kernels_of_runs_have_right_ends.Goals as goal

pub returns-clause-still : goal.returns-clause-still
returns-clause-still g c = still g.M.Machine.call_of g.M.Machine.next_of

pub returns-clause-ends : goal.returns-clause-ends
returns-clause-ends g c = ends g.M.Machine.call_of g.M.Machine.next_of

pub returns-clause-fresh : goal.returns-clause-fresh
returns-clause-fresh g c = fresh g.M.Machine.call_of g.M.Machine.next_of
