use Rattle.kernel_model.proofs.Lasting.{run_later}
use Rattle.kernel_model.proofs.laws.a_run_counts_its_events.Goals as goal

pub returns : goal.returns
returns g c = run_later g.M.Machine.call_of g.M.Machine.next_of
