use Rattle.mem_files.proofs.Listed.{listed_found}
use Rattle.mem_files.proofs.laws.listed_is_found.Goals as goal

pub returns : goal.returns
returns c = listed_found
