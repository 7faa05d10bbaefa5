use Rattle.std.proofs.Common.{◌≡◌, ◌+◌, subst, arith}
use Rattle.room_bounds.specs.Capped.{IsCapped}
use Rattle.room_bounds.proofs.capped.sum.Goals as goal

pub returns : goal.returns
returns c m n one other = let both : 0 + m + n ≡ m + n = omega arith in subst (λ k. IsCapped k c.sum_with.result) both (c.sum_with.ensures m n one other)
