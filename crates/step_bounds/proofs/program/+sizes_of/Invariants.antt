use Rattle.std.proofs.Common.{length}
use Rattle.step_bounds.proofs.program.+sizes_of.Given as goal

abbrev pub decreases-sizes_of : goal.decreases-sizes_of
decreases-sizes_of g l = length l.names.now
