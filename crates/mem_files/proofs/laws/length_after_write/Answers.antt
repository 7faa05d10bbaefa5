use Rattle.mem_files.proofs.Overlays.{length-written}
use Rattle.mem_files.proofs.laws.length_after_write.Goals as goal

pub returns : goal.returns
returns c = length-written
