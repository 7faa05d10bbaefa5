use Rattle.law_runs.proofs.bounds.OneEvent.{paid_for}
use Rattle.law_runs.proofs.call_counts.each_call_is_paid_for.Goals as goal

pub returns : goal.returns
returns c = λ r e n l plain happened roomy. paid_for r.profile r.lines r.input r.files r.schedule r.notes r.last e n l r.are plain r.runs happened roomy
