use Rattle.std.proofs.Common.{◌+◌, refl, arith}
use Rattle.std.specs.Prelude.{ℕ}
use Rattle.room_bounds.specs.Capped.{IsCapped}
use Rattle.room_bounds.proofs.behind.behind_by.Goals as goal

pub returns : goal.returns
returns c lines begun = record {
  processes = c.one_more.ensures _ begun.together.at_once;
  entries = c.sum_with.ensures 0 _ (refl, omega arith) begun.opens;
  descriptors = begun.needs.descriptors;
}
