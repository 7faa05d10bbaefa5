use Rattle.law_runs.proofs.never_stuck.Never.{somebody_is_awake}
use Rattle.law_runs.proofs.never_stuck.no_run_is_stuck.Goals as goal

pub returns : goal.returns
returns c = λ r plain roomy. somebody_is_awake r.profile r.lines r.input r.files r.schedule r.notes r.last r.are plain r.runs roomy
