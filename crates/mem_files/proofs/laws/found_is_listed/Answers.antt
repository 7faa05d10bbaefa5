use Rattle.mem_files.proofs.Listed.{found_listed}
use Rattle.mem_files.proofs.laws.found_is_listed.Goals as goal

pub returns : goal.returns
returns c = found_listed
