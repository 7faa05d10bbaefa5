-- Truth values: when an `and` is false, when two of them are not both true, and the sides of an `or` that is false.
use Rattle.std.proofs.Common.{◌≡◌, Bool, true, false, refl, sym, ◌∙◌}
use Rattle.std.specs.Prelude.{◌&&◌, ◌||◌}

-- where the one is true the other is false, and the other is true
pub apart : (a b : Bool) → (a ≡ true → b ≡ false) → b ≡ true → a ≡ false
apart true b h e = sym e ∙ h refl
apart false b h e = refl

pub and_if_right : (a b : Bool) → (b ≡ true → a ≡ false) → (a && b) ≡ false
and_if_right true true h = h refl
and_if_right true false h = refl
and_if_right false b h = refl

pub and_if_left : (a b : Bool) → (a ≡ true → b ≡ false) → (a && b) ≡ false
and_if_left true b h = h refl
and_if_left false b h = refl

pub not_left : (a b : Bool) → (a || b) ≡ false → a ≡ false
not_left true b e = cc
not_left false b e = refl

pub not_right : (a b : Bool) → (a || b) ≡ false → b ≡ false
not_right true b e = cc
not_right false b e = e
