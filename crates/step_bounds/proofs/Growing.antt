-- Files that grow twice.
use Rattle.std.proofs.Common.{◌≡◌, ℕ, ◌+◌, arith}
use Rattle.tree_model.specs.FilesAhead.{Sizes}
use Rattle.tree_model.specs.Bound.{grown}

pub grown_twice : (L : Sizes) (a b : ℕ) → grown (grown L a) b ≡ grown L (a + b)
grown_twice L a b = λ i name. (let e : L name + a + b ≡ L name + (a + b) = omega arith in e) i
