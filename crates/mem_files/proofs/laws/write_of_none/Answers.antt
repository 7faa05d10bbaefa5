use Rattle.mem_files.proofs.Overlays.{written_none}
use Rattle.mem_files.proofs.laws.write_of_none.Goals as goal

pub returns : goal.returns
returns c = written_none
