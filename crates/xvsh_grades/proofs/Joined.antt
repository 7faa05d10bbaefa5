-- What two lists say of a third, place by place, and a list that grows.
use Rattle.std.proofs.Common.{◌≡◌, ℕ, ◌+◌, ◌<◌, List, [], ◌∷◌, ◌++◌, length, get_or, take, sym, ap, subst, ◌∙◌}
use Rattle.std.proofs.lemmas.List.{take_more}
use Rattle.std.proofs.lemmas.Slice.Zip.{all_zipped_more}
use Rattle.std.specs.List.{AllZip}

-- where R and S join to Q, each item of the first list is in Q to that of the third
pub joined : {A B C : Type 0} (R : A → B → Type 0) (S : B → C → Type 0) (Q : A → C → Type 0)
    → ((a : A) (b : B) (c : C) → R a b → S b c → Q a c) → (xs : List A) (ys : List B) (zs : List C) → AllZip R xs ys → AllZip S ys zs → AllZip Q xs zs
joined R S Q join [] [] [] h k = tt
joined R S Q join [] [] (z ∷ zs) h k = absurd k
joined R S Q join [] (y ∷ ys) zs h k = absurd h
joined R S Q join (x ∷ xs) [] zs h k = absurd h
joined R S Q join (x ∷ xs) (y ∷ ys) [] h k = absurd k
joined R S Q join (x ∷ xs) (y ∷ ys) (z ∷ zs) h k = (join x y z h.0 k.0, joined R S Q join xs ys zs h.1 k.1)

-- one item more on both sides
pub one_more : {A B : Type 0} (R : A → B → Type 0) (xs : List A) (ys more : List B) (n : ℕ) (x : A) (y : B)
    → n < length xs → x ≡ get_or xs n x → AllZip R (take n xs) ys → R x y → more ≡ ys ++ y ∷ [] → AllZip R (take (n + 1) xs) more
one_more R xs ys more n x y within is before now added =
    let front : take (n + 1) xs ≡ take n xs ++ x ∷ [] = take_more xs n x within ∙ ap (λ z. take n xs ++ z ∷ []) (sym is) in
    subst (λ zs. AllZip R zs more) (sym front) (subst (AllZip R (take n xs ++ x ∷ [])) (sym added) (all_zipped_more R (take n xs) ys x y before now))
