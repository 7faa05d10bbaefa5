use Rattle.law_runs.proofs.bounds.CallsBounded.{so_many_calls}
use Rattle.law_runs.proofs.call_counts.a_clear_script_makes_so_many_calls.Goals as goal

pub returns : goal.returns
returns c = λ r clear roomy. so_many_calls r.profile r.lines r.input r.files r.schedule r.notes r.last r.are clear r.runs roomy
