use Rattle.conflict_check.proofs.FirstClash.{one_first}
use Rattle.conflict_check.proofs.laws.one_first_clash.Goals as goal

pub returns : goal.returns
returns c tree kind other name another f g = one_first f g
