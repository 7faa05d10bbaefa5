use Rattle.law_runs.proofs.views.Events.{trap_seen}
use Rattle.law_runs.proofs.views.each_call_is_seen_as_its_effect.Goals as goal

pub returns : goal.returns
returns c = λ k l g h p refused up settled shows happened full. trap_seen g k l h p refused up settled shows happened full
