use Rattle.law_limits.proofs.sizes.Runs.{file_within}
use Rattle.law_limits.proofs.sizes.no_file_exceeds_its_size.Goals as goal

pub returns : goal.returns
returns c = λ r L keeps full name. file_within r.profile L r.lines r.input r.files r.are keeps r.schedule r.notes r.last r.runs full name
