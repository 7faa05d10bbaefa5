use Rattle.law_limits.proofs.opens.Scripts.{room_ahead}
use Rattle.law_limits.proofs.opens.a_script_of_few_opens_has_room_ahead.Goals as goal

pub returns : goal.returns
returns c = room_ahead
