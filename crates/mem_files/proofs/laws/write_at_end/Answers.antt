use Rattle.mem_files.proofs.Overlays.{written_end}
use Rattle.mem_files.proofs.laws.write_at_end.Goals as goal

pub returns : goal.returns
returns c = written_end
