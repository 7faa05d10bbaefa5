use Rattle.std.proofs.Common.{length}
use Rattle.room_bounds.proofs.grown.+sizes_of.Given as goal

abbrev pub decreases-sizes_of : goal.decreases-sizes_of
decreases-sizes_of g l = length l.names.now
