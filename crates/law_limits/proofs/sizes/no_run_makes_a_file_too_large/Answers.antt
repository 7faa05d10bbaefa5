use Rattle.law_limits.proofs.sizes.TooLarge.{file_stays_small}
use Rattle.law_limits.proofs.sizes.no_run_makes_a_file_too_large.Goals as goal

pub returns : goal.returns
returns c = λ r L keeps small full. file_stays_small r.profile L r.lines r.input r.files r.are keeps small r.schedule r.notes r.last r.runs full
