use Rattle.law_runs.proofs.bounds.Ending.{ends_then, ends_or_goes}
use Rattle.law_runs.proofs.bounds.every_run_ends_with_the_meaning.Goals as goal

pub returns-clause-finished : goal.returns-clause-finished
returns-clause-finished c = λ r settled short roomy long. ends_then r.profile r.lines r.input r.files r.are settled short r.schedule r.notes r.last r.runs roomy long

pub returns-clause-goes_on : goal.returns-clause-goes_on
returns-clause-goes_on c = λ r settled short roomy. ends_or_goes r.profile r.lines r.input r.files r.are settled short r.schedule r.notes r.last r.runs roomy
