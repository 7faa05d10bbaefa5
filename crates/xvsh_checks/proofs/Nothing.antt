-- Lists without elements.
use Rattle.std.proofs.Common.{◌≡◌, List, [], ◌∷◌, refl}
use Rattle.std.specs.Prelude.{map}

pub nothing_left : {X Y : Type 0} (f : X → Y) (xs : List X) → map f xs ≡ [] → xs ≡ []
nothing_left f [] none = refl
nothing_left f (x ∷ xs) none = cc

pub none_mapped : {X Y : Type 0} (f : X → Y) (xs : List X) → xs ≡ [] → map f xs ≡ []
none_mapped f [] none = refl
none_mapped f (x ∷ xs) none = cc
