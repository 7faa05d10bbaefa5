use Rattle.law_limits.proofs.sizes.FewFiles.{file_finds_place}
use Rattle.law_limits.proofs.sizes.no_run_makes_too_many_files.Goals as goal

pub returns : goal.returns
returns c = λ r L keeps few full. file_finds_place r.profile L r.lines r.input r.files r.are keeps r.schedule r.notes r.last r.runs few full
