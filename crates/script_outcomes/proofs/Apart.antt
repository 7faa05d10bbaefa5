-- What holds of all pairs of a list, whichever of the two comes first, holds of them in any order of the list.
use Rattle.std.proofs.Common.{◌≡◌, ◌<◌, ◌≤◌, ℕ, List, length, get_or, arith, refl, sym, ◌∙◌, ap, subst, ◌⊎◌, inl, inr}
use Rattle.std.specs.Prelude.{AllPairs}
use Rattle.std.specs.List.{swap}
use Rattle.std.specs.List.Sorted.{IsPermutation}
use Rattle.std.proofs.lemmas.List.Sorted.{IsPermutation-keeps, IsPermutation-swap, length_permutation}
use Rattle.std.proofs.lemmas.List.Edits.{Swapped, swapped_from_swap}
use Rattle.std.proofs.lemmas.Bool.{cases_eq, cases_lt}

module _ {X : Type 0} (R : X → X → Type 0) (symmetric : (a b : X) → R a b → R b a) where
  -- of two different places, whichever is lower
  either_way : (xs : List X) → AllPairs R xs → (i j : ℕ) (d : X) → (i ≡ j → ⊥) → i < length xs → j < length xs → R (get_or xs i d) (get_or xs j d)
  either_way xs all i j d other within also = by (cases_lt i j)
    where
      by : (i < j) ⊎ (j ≤ i) → R (get_or xs i d) (get_or xs j d)
      by (inl below) = all i j d below also
      by (inr above) = symmetric _ _ (all j i d (omega (arith, above, other)) within)

  module _ (xs : List X) (i j : ℕ) (below : i < length xs) (under : j < length xs) (d : X) where
    -- where the element at a place of the list with two exchanged stood before
    record Was (p : ℕ) : Type 0 where
      at : ℕ
      within : at < length xs
      is : get_or (swap xs i j) p d ≡ get_or xs at d
      first : p ≡ i → at ≡ j
      second : p ≡ j → at ≡ i
      others : (p ≡ i → ⊥) → (p ≡ j → ⊥) → at ≡ p

    was : (p : ℕ) → p < length xs → Was p
    was p inside = by (cases_eq p i) (cases_eq p j)
      where
        moved : Swapped (λ k. get_or xs k d) (λ k. get_or (swap xs i j) k d) i j
        moved = swapped_from_swap xs (swap xs i j) i j d below under refl

        by : (p ≡ i) ⊎ (p ≡ i → ⊥) → (p ≡ j) ⊎ (p ≡ j → ⊥) → Was p
        by (inl e) _ = record { at = j; within = under; is = ap (λ k. get_or (swap xs i j) k d) e ∙ moved.0; first = λ _. refl; second = λ f. sym f ∙ e; others = λ isnt _. absurd (isnt e) }
        by (inr isnt) (inl e) = record { at = i; within = below; is = ap (λ k. get_or (swap xs i j) k d) e ∙ moved.1; first = λ f. absurd (isnt f); second = λ _. refl; others = λ _ non. absurd (non e) }
        by (inr isnt) (inr non) = record { at = p; within = inside; is = moved.2 p isnt non; first = λ f. absurd (isnt f); second = λ f. absurd (non f); others = λ _ _. refl }

    apart : (p q : ℕ) → p < q → (a : Was p) (b : Was q) → a.at ≡ b.at → ⊥
    apart p q less a b same = by (cases_eq p i) (cases_eq p j) (cases_eq q i) (cases_eq q j)
      where
        by : (p ≡ i) ⊎ (p ≡ i → ⊥) → (p ≡ j) ⊎ (p ≡ j → ⊥) → (q ≡ i) ⊎ (q ≡ i → ⊥) → (q ≡ j) ⊎ (q ≡ j → ⊥) → ⊥
        by (inl e) _ (inl f) _ = let z : ⊥ = omega (arith, less, e, f) in z
        by (inl e) _ (inr isnt) (inl f) = let z : ⊥ = omega (arith, less, e, f, same, a.first e, b.second f) in z
        by (inl e) _ (inr isnt) (inr non) = non (sym (b.others isnt non) ∙ sym same ∙ a.first e)
        by (inr at) (inl e) (inl f) _ = at (e ∙ sym (b.first f) ∙ sym same ∙ a.second e)
        by (inr at) (inl e) (inr isnt) (inl f) = let z : ⊥ = omega (arith, less, e, f) in z
        by (inr at) (inl e) (inr isnt) (inr non) = isnt (sym (b.others isnt non) ∙ sym same ∙ a.second e)
        by (inr at) (inr to) (inl f) _ = to (sym (a.others at to) ∙ same ∙ b.first f)
        by (inr at) (inr to) (inr isnt) (inl f) = at (sym (a.others at to) ∙ same ∙ b.second f)
        by (inr at) (inr to) (inr isnt) (inr non) = let z : ⊥ = omega (arith, less, same, a.others at to, b.others isnt non) in z

  swapped : (xs : List X) (i j : ℕ) → i < length xs → j < length xs → AllPairs R xs → AllPairs R (swap xs i j)
  swapped xs i j below under all p q d less within =
      let long = length_permutation xs (swap xs i j) (IsPermutation-swap xs (swap xs i j) i j below under refl) in
      let a = was xs i j below under d p (omega (arith, less, within, long)) in
      let b = was xs i j below under d q (omega (arith, within, long)) in
      subst (λ x. R x (get_or (swap xs i j) q d)) (sym a.is) (subst (R (get_or xs a.at d)) (sym b.is) (either_way xs all a.at b.at d (apart xs i j below under d p q less a b) a.within b.within))

  -- of a list in another order
  pub AllPairs-permutation : (xs ys : List X) → IsPermutation xs ys → AllPairs R xs → AllPairs R ys
  AllPairs-permutation xs ys same all = IsPermutation-keeps xs (AllPairs R) all (λ l i j below under held. swapped l i j below under held) ys same
