use Rattle.law_runs.proofs.bounds.Bounded.{finished_then, finished_or_goes}
use Rattle.law_runs.proofs.bounds.every_run_is_finished_after_so_many_events.Goals as goal

pub returns-clause-finished : goal.returns-clause-finished
returns-clause-finished c = λ r clear roomy long. finished_then r.profile r.lines r.input r.files r.are clear r.schedule r.notes r.last r.runs roomy long

pub returns-clause-goes_on : goal.returns-clause-goes_on
returns-clause-goes_on c = λ r clear roomy. finished_or_goes r.profile r.lines r.input r.files r.are clear r.schedule r.notes r.last r.runs roomy
