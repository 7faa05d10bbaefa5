use Rattle.run_trace.proofs.Runs.{all_diag, all_out}
use Rattle.run_trace.proofs.laws.a_run_writes_what_its_events_add.Goals as goal

pub returns-clause-out : goal.returns-clause-out
returns-clause-out g c = λ k m events notes is. all_out g.M.Machine.call_of g.M.Machine.next_of k m events notes is

pub returns-clause-diag : goal.returns-clause-diag
returns-clause-diag g c = λ k m events notes is. all_diag g.M.Machine.call_of g.M.Machine.next_of k m events notes is
