use Rattle.law_runs.proofs.bounds.CallsCounted.{run_pays}
use Rattle.law_runs.proofs.call_counts.the_steps_of_the_machine_pay_for_the_calls.Goals as goal

pub returns : goal.returns
returns c = λ r plain roomy. run_pays r.profile r.lines r.input r.files r.are plain r.schedule r.notes r.last r.runs roomy
