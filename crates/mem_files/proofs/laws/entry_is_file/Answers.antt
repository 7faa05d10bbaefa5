use Rattle.mem_files.proofs.Places.{files-with_entry}
use Rattle.mem_files.proofs.laws.entry_is_file.Goals as goal

pub returns : goal.returns
returns c = λ list name other bytes. files-with_entry list name bytes other
