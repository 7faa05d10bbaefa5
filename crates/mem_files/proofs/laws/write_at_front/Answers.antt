use Rattle.mem_files.proofs.Overlays.{written_start}
use Rattle.mem_files.proofs.laws.write_at_front.Goals as goal

pub returns : goal.returns
returns c = written_start
