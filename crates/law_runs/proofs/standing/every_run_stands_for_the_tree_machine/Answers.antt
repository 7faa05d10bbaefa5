use Rattle.law_runs.proofs.standing.RunsStand.{stands_then}
use Rattle.law_runs.proofs.standing.every_run_stands_for_the_tree_machine.Goals as goal

pub returns : goal.returns
returns c = λ r plain roomy. stands_then r.profile r.lines r.input r.files r.schedule r.notes r.last r.are plain r.runs roomy
