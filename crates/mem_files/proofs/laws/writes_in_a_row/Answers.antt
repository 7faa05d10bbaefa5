use Rattle.mem_files.proofs.Overlays.{written_twice}
use Rattle.mem_files.proofs.laws.writes_in_a_row.Goals as goal

pub returns : goal.returns
returns c = written_twice
