use Rattle.prog_parts.proofs.Cuts.{one_cut, some_cut}
use Rattle.prog_parts.proofs.laws.one_cut.Goals as goal

pub returns-clause-exists : goal.returns-clause-exists
returns-clause-exists c bytes = some_cut bytes

pub returns-clause-unique : goal.returns-clause-unique
returns-clause-unique c bytes ls ms p q = one_cut bytes ls ms p q
