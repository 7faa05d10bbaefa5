use Rattle.sh_machine.specs.State.{init, shell, top}
use Rattle.sh_machine.specs.declared.state.Phase.TheVariants.{Starts}
use Rattle.law_runs.proofs.views.Named.{every_run_is_named}
use Rattle.law_runs.proofs.views.Runs as runs
use Rattle.law_runs.proofs.views.every_run_can_be_seen.Goals as goal

pub returns-clause-names : goal.returns-clause-names
returns-clause-names c = λ r roomy. (every_run_is_named r.profile r.lines r.input r.files r.schedule r.notes r.last r.are r.runs roomy).0

pub returns-clause-init : goal.returns-clause-init
returns-clause-init c = λ r roomy. (every_run_is_named r.profile r.lines r.input r.files r.schedule r.notes r.last r.are r.runs roomy).1

pub returns-clause-consistent : goal.returns-clause-consistent
returns-clause-consistent c = λ r. runs.settled init (shell r.profile (top Starts r.lines)) r.input r.files r.are r.last (record { events = r.schedule; notes = r.notes; runs = r.runs })
