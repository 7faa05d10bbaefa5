use Rattle.mem_files.proofs.Listed.{one_list}
use Rattle.mem_files.proofs.laws.one_list.Goals as goal

pub returns : goal.returns
returns c = one_list
