use Rattle.law_limits.proofs.forks.Scripts.{slots_ahead}
use Rattle.law_limits.proofs.forks.a_script_of_few_forks_has_slots_ahead.Goals as goal

pub returns : goal.returns
returns c = slots_ahead
