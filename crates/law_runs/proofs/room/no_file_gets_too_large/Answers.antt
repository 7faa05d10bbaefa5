use Rattle.law_runs.proofs.room.SmallFiles.{file_stays_small}
use Rattle.law_runs.proofs.room.no_file_gets_too_large.Goals as goal

pub returns : goal.returns
returns c = λ r clear small full. file_stays_small r.profile r.lines r.input r.files r.are clear r.schedule r.notes r.last r.runs small full
