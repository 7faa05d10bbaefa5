use Rattle.mem_files.proofs.Listed.{at_other}
use Rattle.mem_files.proofs.laws.at_other_names.Goals as goal

pub returns : goal.returns
returns c = at_other
