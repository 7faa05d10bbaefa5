-- Lists of files that are the same, place by place.
use Rattle.std.proofs.Common.{◌≡◌, ℕ, ◌+◌, ◌<◌, List, [], ◌∷◌, ◌++◌, length, map, get_or, take, sym, ap, subst, ◌∙◌}
use Rattle.std.proofs.lemmas.List.{get_or-map, length-map, take_more}

module _ {X Y : Type 0} (f : X → Y) (one other : List X) (i : ℕ) (a b : X) (in_one : i < length one) (in_other : i < length other) (first : a ≡ get_or one i a) (second : b ≡ get_or other i b) where
  of_one : (e : Y) → get_or (map f one) i e ≡ f a
  of_one e = get_or-map f one i a e in_one ∙ ap f (sym first)

  of_other : (e : Y) → get_or (map f other) i e ≡ f b
  of_other e = get_or-map f other i b e in_other ∙ ap f (sym second)

  -- lists that are the same are at this place
  pub at_place : map f one ≡ map f other → f a ≡ f b
  at_place same = sym (of_one (f a)) ∙ ap (λ list. get_or list i (f a)) same ∙ of_other (f a)

  -- and so many that are, with one more
  pub one_more : take i (map f one) ≡ take i (map f other) → f a ≡ f b → take (i + 1) (map f one) ≡ take (i + 1) (map f other)
  one_more before same =
      let long_one : i < length (map f one) = subst (λ n. i < n) (sym (length-map one f)) in_one in
      let long_other : i < length (map f other) = subst (λ n. i < n) (sym (length-map other f)) in_other in
      take_more (map f one) i (f a) long_one
      ∙ ap (λ list. list ++ get_or (map f one) i (f a) ∷ []) before
      ∙ ap (λ x. take i (map f other) ++ x ∷ []) (of_one (f a) ∙ same ∙ sym (of_other (f a)))
      ∙ sym (take_more (map f other) i (f a) long_other)
