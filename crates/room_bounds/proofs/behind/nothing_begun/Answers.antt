use Rattle.std.proofs.Common.{refl, arith}
use Rattle.room_bounds.proofs.behind.nothing_begun.Goals as goal

pub returns : goal.returns
returns c = record { together = c.no_command.ensures; opens = (refl, omega arith); needs = c.of_nothing.ensures }
