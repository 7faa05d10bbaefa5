use Rattle.conflict_check.proofs.Listed.{names_listed, names_parts}
use Rattle.conflict_check.proofs.laws.names_occur.Goals as goal

pub returns : goal.returns
returns c = record {
  parts = λ tree name. names_parts tree name;
  listed = λ tree name. names_listed tree name;
}
