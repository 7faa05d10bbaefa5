use Rattle.mem_files.proofs.Overlays.{written_again}
use Rattle.mem_files.proofs.laws.write_again.Goals as goal

pub returns : goal.returns
returns c = written_again
