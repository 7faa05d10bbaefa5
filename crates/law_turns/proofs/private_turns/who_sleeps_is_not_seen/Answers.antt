use Rattle.law_turns.proofs.private_turns.Awake.{following_awake}
use Rattle.law_turns.proofs.private_turns.who_sleeps_is_not_seen.Goals as goal

pub returns : goal.returns
returns g c = following_awake g.M.Machine.call_of g.M.Machine.next_of
