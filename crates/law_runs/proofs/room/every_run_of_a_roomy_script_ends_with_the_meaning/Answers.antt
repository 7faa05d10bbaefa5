use Rattle.law_runs.proofs.room.Roomy.{roomy_ends_or_goes, roomy_ends_then}
use Rattle.law_runs.proofs.room.every_run_of_a_roomy_script_ends_with_the_meaning.Goals as goal

pub returns-clause-finished : goal.returns-clause-finished
returns-clause-finished c = λ r settled short roomy long. roomy_ends_then r.profile r.lines r.input r.files r.are roomy r.schedule r.notes r.last r.runs settled short long

pub returns-clause-goes_on : goal.returns-clause-goes_on
returns-clause-goes_on c = λ r settled short roomy. roomy_ends_or_goes r.profile r.lines r.input r.files r.are roomy r.schedule r.notes r.last r.runs settled short
