use Rattle.law_turns.proofs.Scripts.{script_begun}
use Rattle.law_turns.proofs.every_outcome.a_script_begins_at_a_boot.Goals as goal

pub returns : goal.returns
returns c = script_begun
