-- Where two byte strings part.
use Rattle.std.specs.Prelude.{◌≡◌, ℕ, ◌<◌, ◌==◌, Bool, true, false, List, Option, Some, None, slice_get}

abbrev pub are_same_bytes : Option ℕ → Option ℕ → Bool
are_same_bytes (Some one) (Some other) = one == other
are_same_bytes _ _ = false

-- whether both have a byte at this place, and these are the same
abbrev pub is_same_byte : List ℕ → List ℕ → ℕ → Bool
is_same_byte one other place = are_same_bytes (slice_get one place) (slice_get other place)

-- with so many same bytes both begin, and not with more
pub record BeginSame (one other : List ℕ) (count : ℕ) : Type 0 where
  pub same : (place : ℕ) → place < count → is_same_byte one other place ≡ true
  pub parted : is_same_byte one other count ≡ false
