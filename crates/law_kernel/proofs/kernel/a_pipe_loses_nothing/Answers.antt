use Rattle.law_kernel.proofs.kernel.FlowRuns.{put_is_taken_and_held, taken_begins_put}
use Rattle.law_kernel.proofs.kernel.a_pipe_loses_nothing.Goals as goal

pub returns-clause-holds : goal.returns-clause-holds
returns-clause-holds g c = λ r id p found.
    put_is_taken_and_held g.M.Machine.call_of g.M.Machine.next_of id r.init r.shell r.input r.files r.schedule r.notes r.last r.runs p found

pub returns-clause-order : goal.returns-clause-order
returns-clause-order g c = λ r id.
    taken_begins_put g.M.Machine.call_of g.M.Machine.next_of id r.init r.shell r.input r.files r.schedule r.notes r.last r.runs
