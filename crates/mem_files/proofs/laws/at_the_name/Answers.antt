use Rattle.mem_files.proofs.Kept.{at_name}
use Rattle.mem_files.proofs.laws.at_the_name.Goals as goal

pub returns : goal.returns
returns c = at_name
