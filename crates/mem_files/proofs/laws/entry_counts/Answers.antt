use Rattle.mem_files.proofs.Places.{length-with_entry}
use Rattle.mem_files.proofs.laws.entry_counts.Goals as goal

pub returns : goal.returns
returns c = λ list name bytes kept. length-with_entry list name bytes kept.ascending
