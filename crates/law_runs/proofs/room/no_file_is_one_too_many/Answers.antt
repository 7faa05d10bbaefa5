use Rattle.law_runs.proofs.room.FewFiles.{file_finds_place}
use Rattle.law_runs.proofs.room.no_file_is_one_too_many.Goals as goal

pub returns : goal.returns
returns c = λ r clear few full. file_finds_place r.profile r.lines r.input r.files r.are clear r.schedule r.notes r.last r.runs few full
