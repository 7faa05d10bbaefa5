use Rattle.law_runs.proofs.views.InitSeen.{init_seen}
use Rattle.law_runs.proofs.views.init_takes_zombies_away.Goals as goal

pub returns-clause-names : goal.returns-clause-names
returns-clause-names c = λ k l g h refused settled shows is_init happened. (init_seen g k settled shows h l refused is_init happened).0

pub returns-clause-waits : goal.returns-clause-waits
returns-clause-waits c = λ k l g h refused settled shows is_init happened. (init_seen g k settled shows h l refused is_init happened).1
