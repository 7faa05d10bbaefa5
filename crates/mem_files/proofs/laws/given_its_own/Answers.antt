use Rattle.mem_files.proofs.Listed.{its_own}
use Rattle.mem_files.proofs.laws.given_its_own.Goals as goal

pub returns : goal.returns
returns c = its_own
