use Rattle.std.proofs.Common.{length}
use Rattle.room_bounds.proofs.program.+echo_bytes.Given as goal

abbrev pub decreases-echo_bytes : goal.decreases-echo_bytes
decreases-echo_bytes g l = length l.arguments.now
