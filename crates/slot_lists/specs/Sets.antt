-- Sets of slots, as a flag for each of the 64.
use Rattle.std.specs.Prelude.{◌≡◌, ℕ, ◌<◌, Bool, false, ◌&&◌, ◌==◌, if◌then◌else◌, List, [], ◌∷◌, Option, Some, None, length, map, slice_index, slice_set}
use Rattle.std.specs.Simd.Lanes.{mask_l}

-- the set of the slots whose flags are true; the number has these flags as its bits, the first as the lowest
pub record HasFlags (bits : ℕ) (flags : List Bool) : Type 0 where
  pub all : length flags ≡ 64
  pub bits_are : bits ≡ mask_l flags

-- the flags of what is in both
abbrev pub both_of : List Bool → List Bool → List Bool
both_of [] others = []
both_of (flag ∷ flags) [] = []
both_of (flag ∷ flags) (other ∷ others) = (flag && other) ∷ both_of flags others

-- the key is this number
abbrev pub is_key : ℕ → Option ℕ → Bool
is_key group None = false
is_key group (Some key) = group == key

-- each of so many sets has the slots that have its number as their key
pub record AreGrouped (groups : ℕ) (keys : List (Option ℕ)) (sets : List ℕ) : Type 0 where
  pub all : length keys ≡ 64
  pub theirs : (group : ℕ) → group < groups → HasFlags (slice_index sets group) (map (is_key group) keys)

-- the slot was put into the set of this key, or taken out of it, and the other sets are unchanged
unfoldable pub IsMarked : ℕ → Option ℕ → ℕ → Bool → List ℕ → List ℕ → Type 0
IsMarked groups key slot is_in old new =
    (group : ℕ) (flags : List Bool) → group < groups → HasFlags (slice_index old group) flags → HasFlags (slice_index new group) (if is_key group key then slice_set flags slot is_in else flags)
