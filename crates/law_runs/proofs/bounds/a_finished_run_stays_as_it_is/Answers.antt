use Rattle.law_runs.proofs.bounds.Alone.{goes_on_finished}
use Rattle.law_runs.proofs.bounds.a_finished_run_stays_as_it_is.Goals as goal

pub returns : goal.returns
returns c = λ r more later m finished on. goes_on_finished r.profile r.lines r.input r.files r.schedule more r.notes later r.last m r.are r.runs finished on
