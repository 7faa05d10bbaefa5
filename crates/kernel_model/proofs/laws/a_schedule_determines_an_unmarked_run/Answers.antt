use Rattle.kernel_model.proofs.Quiet.{one_run, run_quiet}
use Rattle.kernel_model.proofs.laws.a_schedule_determines_an_unmarked_run.Goals as goal

pub returns-clause-quiet : goal.returns-clause-quiet
returns-clause-quiet g c = run_quiet g.M.Machine.call_of g.M.Machine.next_of

pub returns-clause-one : goal.returns-clause-one
returns-clause-one g c = one_run g.M.Machine.call_of g.M.Machine.next_of
