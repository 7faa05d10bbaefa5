use Rattle.law_runs.proofs.views.Events.{dispatch_quiet}
use Rattle.law_runs.proofs.views.a_dispatch_is_not_seen.Goals as goal

pub returns-clause-names : goal.returns-clause-names
returns-clause-names c = λ k l g h p refused shows happened. (dispatch_quiet g k l h p refused shows happened).0

pub returns-clause-quiet : goal.returns-clause-quiet
returns-clause-quiet c = λ k l g h p refused shows happened. (dispatch_quiet g k l h p refused shows happened).1
