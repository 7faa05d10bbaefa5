-- Lists that are kept up to the last place that is in use.
use Rattle.std.proofs.Common.{◌≡◌, ℕ, zero, suc, ◌+◌, ◌-◌, ◌≤◌, List, [], ◌∷◌, ◌++◌, Option, None, length, take, map, refl, sym, ap, ◌∙◌, arith}
use Rattle.std.specs.Prelude.{slice_index_or, replicate, cond}
use Rattle.std.proofs.lemmas.List.{map-append, length-map, length-append}
use Rattle.std.proofs.lemmas.List.Sums.{sum_by-cons, sum_by-append}
use Rattle.fd_table.specs.Entries.{is_free, free_count}
use Rattle.order_search.specs.Shown.{filled}

free_none : (X : Type 0) (n : ℕ) → free_count (replicate {A = Option X} n None) ≡ n
free_none X zero = refl
free_none X (suc n) = sum_by-cons (λ (x : Option X). cond {A = ℕ} (is_free x) 1 0) None (replicate n None) ∙ ap (λ (m : ℕ). 1 + m) (free_none X n) ∙ omega arith

module _ {X : Type 0} where
  take_none : (ys : List (Option X)) → take 0 ys ≡ []
  take_none [] = refl
  take_none (y ∷ ys) = refl

  -- past its end a list has nothing
  pub past_end : (xs : List (Option X)) (i : ℕ) → length xs ≤ i → slice_index_or xs i None ≡ None
  past_end [] i past = refl
  past_end (x ∷ xs) zero past = absurd (let z : ⊥ = omega (arith, past) in z)
  past_end (x ∷ xs) (suc i) past = past_end xs i (omega (arith, past))

  none_in : (n i : ℕ) → slice_index_or (replicate {A = Option X} n None) i None ≡ None
  none_in zero i = refl
  none_in (suc n) zero = refl
  none_in (suc n) (suc i) = none_in n i

  at_rest : (n : ℕ) (xs : List (Option X)) (i : ℕ) → slice_index_or (xs ++ replicate n None) i None ≡ slice_index_or xs i None
  at_rest n [] i = none_in n i
  at_rest n (x ∷ xs) zero = refl
  at_rest n (x ∷ xs) (suc i) = at_rest n xs i

  -- at each number stands what is kept there
  pub at_filled : (n : ℕ) (xs : List (Option X)) (i : ℕ) → slice_index_or (filled n xs) i None ≡ slice_index_or xs i None
  unfolding filled
  at_filled n xs i = at_rest (n - length xs) xs i

  all_none : (xs : List (Option X)) → ((i : ℕ) → slice_index_or xs i None ≡ None) → replicate (length xs) None ≡ xs
  all_none [] none = refl
  all_none (x ∷ xs) none = (λ j. sym (none 0) j ∷ all_none xs (λ i. none (suc i)) j)

  rest_of : (n top : ℕ) (xs : List (Option X)) → length xs ≡ n → ((i : ℕ) → top ≤ i → slice_index_or xs i None ≡ None) → take top xs ++ replicate (n - length (take top xs)) None ≡ xs
  rest_of n zero [] long none = ap (λ (m : ℕ). replicate m None) (let z : n - 0 ≡ 0 = omega (arith, long) in z)
  rest_of n zero (x ∷ xs) long none = ap (λ (m : ℕ). replicate m None) (let z : n - 0 ≡ length (x ∷ xs) = omega (arith, long) in z) ∙ all_none (x ∷ xs) (λ i. none i (omega arith))
  rest_of zero (suc top) [] long none = refl
  rest_of (suc n) (suc top) [] long none = absurd (let z : ⊥ = omega (arith, long) in z)
  rest_of zero (suc top) (x ∷ xs) long none = absurd (let z : ⊥ = omega (arith, long) in z)
  rest_of (suc n) (suc top) (x ∷ xs) long none =
      ap (λ (l : List (Option X)). x ∷ l)
      (ap (λ (m : ℕ). take top xs ++ replicate m None) (let z : suc n - suc (length (take top xs)) ≡ n - length (take top xs) = omega arith in z) ∙ rest_of n top xs (omega (arith, long)) (λ i past. none (suc i) (omega (arith, past))))

  -- a list past whose first places there is nothing
  pub filled_rest : (n top : ℕ) (xs : List (Option X)) → length xs ≡ n → ((i : ℕ) → top ≤ i → slice_index_or xs i None ≡ None) → filled n (take top xs) ≡ xs
  unfolding filled
  filled_rest n top xs long none = rest_of n top xs long none

  front_of : (xs ys : List (Option X)) → take (length xs) (xs ++ ys) ≡ xs
  front_of [] ys = take_none ys
  front_of (x ∷ xs) ys = ap (λ (l : List (Option X)). x ∷ l) (front_of xs ys)

  -- what is kept is the front
  pub front_filled : (n : ℕ) (xs : List (Option X)) → take (length xs) (filled n xs) ≡ xs
  unfolding filled
  front_filled n xs = front_of xs (replicate (n - length xs) None)

  pub length_filled : (n : ℕ) (xs : List (Option X)) → length xs ≤ length (filled n xs)
  unfolding filled
  length_filled n xs = let both = length-append xs (replicate (n - length xs) None) in omega (arith, both)

  -- what isn't kept is free
  pub free_filled : (n : ℕ) (xs : List (Option X)) → free_count (filled n xs) ≡ free_count xs + (n - length xs)
  unfolding filled
  free_filled n xs = sum_by-append (λ (x : Option X). cond {A = ℕ} (is_free x) 1 0) xs (replicate (n - length xs) None) ∙ ap (λ (m : ℕ). free_count xs + m) (free_none X (n - length xs))

module _ {X Y : Type 0} (f : Option X → Option Y) (none : f None ≡ None) where
  map_none : (n : ℕ) → map f (replicate n None) ≡ replicate n None
  map_none zero = refl
  map_none (suc n) = λ j. none j ∷ map_none n j

  pub map_filled : (n : ℕ) (xs : List (Option X)) → map f (filled n xs) ≡ filled n (map f xs)
  unfolding filled
  map_filled n xs = map-append f xs (replicate (n - length xs) None) ∙ (λ j. map f xs ++ map_none (n - length xs) j) ∙ ap (λ (m : ℕ). map f xs ++ replicate (n - m) None) (sym (length-map xs f))

  -- the same of a list past whose first places there is nothing
  pub map_rest : (n top : ℕ) (xs : List (Option X)) → length xs ≡ n → ((i : ℕ) → top ≤ i → slice_index_or xs i None ≡ None) → filled n (map f (take top xs)) ≡ map f xs
  map_rest n top xs long past = sym (map_filled n (take top xs)) ∙ ap (map f) (filled_rest n top xs long past)
