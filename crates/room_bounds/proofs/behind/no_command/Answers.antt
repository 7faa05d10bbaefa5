use Rattle.std.proofs.Common.{[]}
use Rattle.room_bounds.proofs.behind.no_command.Goals as goal

pub returns : goal.returns
returns c = c.alone.ensures []
