-- The pair of outcomes whose difference is easiest to see (own).
use Rattle.std.specs.Prelude.{◌≡◌, ℕ, ◌<◌, ◌≤◌, List, Some, length, slice_get}
use Rattle.order_search.specs.declared.outcomes.Outcome.{Outcome}
use Rattle.script_outcomes.specs.declared.contrast.Contrast.{Contrast}
use Rattle.script_outcomes.specs.declared.pair.Pair.{Pair}
use Rattle.script_outcomes.specs.declared.pair.TheConstants.{MOST_PAIRED}
use Rattle.script_outcomes.specs.Contrast.{IsContrast, weight_of}

-- two outcomes of the list, the first before the other, not too far behind
pub record IsPair (outcomes : List Outcome) (pair : Pair) : Type 0 where
  pub ordered : pair.first < pair.other
  pub there : pair.other < length outcomes
  pub near : pair.other < MOST_PAIRED

-- the difference of these two is so hard to see
pub record Weighs (outcomes : List Outcome) (pair : Pair) (weight : ℕ) : Type 0 where
  pub one : Outcome
  pub first : slice_get outcomes pair.first ≡ Some one
  pub two : Outcome
  pub other : slice_get outcomes pair.other ≡ Some two
  pub contrast : Contrast
  pub is : IsContrast one two contrast
  pub same : weight ≡ weight_of contrast

-- a pair of this weight
pub record IsWeighed (outcomes : List Outcome) (pair : Pair) (weight : ℕ) : Type 0 where
  pub is_pair : IsPair outcomes pair
  pub weighs : Weighs outcomes pair weight

-- so much is the least weight of pairs with this place as the other one, and a first one before that
abbrev pub IsLeastWith : List Outcome → ℕ → ℕ → ℕ → Type 0
IsLeastWith outcomes other before weight = (first n : ℕ) → first < before → Weighs outcomes (record { first = first; other = other }) n → weight ≤ n

-- no pair's difference is easier to see
pub record IsClearest (outcomes : List Outcome) (pair : Pair) : Type 0 where
  pub is_pair : IsPair outcomes pair
  pub weight : ℕ
  pub weighs : Weighs outcomes pair weight
  pub least : (second : Pair) (other : ℕ) → IsPair outcomes second → Weighs outcomes second other → weight ≤ other
