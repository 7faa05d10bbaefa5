use Rattle.mem_files.proofs.Kept.{AreFiles-with_entry}
use Rattle.mem_files.proofs.laws.entry_keeps_files.Goals as goal

pub returns : goal.returns
returns c = AreFiles-with_entry
