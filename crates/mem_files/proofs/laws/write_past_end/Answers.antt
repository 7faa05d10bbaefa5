use Rattle.mem_files.proofs.Overlays.{written_gap}
use Rattle.mem_files.proofs.laws.write_past_end.Goals as goal

pub returns : goal.returns
returns c = written_gap
