use Rattle.law_runs.proofs.standing.RunsEnd.{finished_means}
use Rattle.law_runs.proofs.standing.a_finished_run_gives_the_meaning.Goals as goal

pub returns : goal.returns
returns c = λ r settled short roomy alone. finished_means r.profile r.lines r.input r.files r.schedule r.notes r.last r.are settled short r.runs roomy alone
