use Rattle.script_mends.proofs.Found.{at_none}
use Rattle.script_mends.proofs.rounds.next_round.Goals as goal

pub returns-clause-made : goal.returns-clause-made
returns-clause-made c = at_none _ _ c.in_ok-new.field-0 c.in_ok-new.ensures c.in-None.is
