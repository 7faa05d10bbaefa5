use Rattle.std.proofs.Common.{subst}
use Rattle.room_model.proofs.Trees.{at_once_with, left_with}
use Rattle.room_bounds.specs.Capped.{IsCapped}
use Rattle.room_bounds.proofs.behind.and_line.Goals as goal

pub returns : goal.returns
returns c lines last before line = record {
  at_once = subst (λ n. IsCapped n c.larger.result) (at_once_with last lines) (c.larger.ensures _ _ before.at_once (c.sum_with.ensures _ _ before.behind line.at_once));
  behind = subst (λ n. IsCapped n c.sum.result) (left_with last lines) (c.sum.ensures _ _ before.behind line.behind);
}
