-- Lists that grow place by place.
use Rattle.std.proofs.Common.{◌≡◌, ℕ, suc, ◌+◌, ◌-◌, ◌<◌, ◌≤◌, List, [], ◌∷◌, ◌++◌, Option, drop, fold, get_or, length, map, sum_by, take, arith, refl, sym, ap, subst, ◌∙◌, append_assoc}
use Rattle.std.specs.List.{AllZip}
use Rattle.std.proofs.Math.Seq.{drop-cons, take-add}
use Rattle.std.proofs.lemmas.List.{map-append, take_more}
use Rattle.std.proofs.lemmas.Slice.Zip.{all_zipped_more}
use Rattle.grade_verdicts.specs.declared.verdict.Verdict.{Verdict}
use Rattle.xvsh_grades.specs.Jobs.{IsFoundOf}
use Rattle.xvsh_grades.specs.declared.marks.Piece.{Piece}
use Rattle.xvsh_grades.proofs.Joined.{one_more}

-- the found ones are one more
pub grown : {A B : Type 0} (R : A → B → Type 0) (xs : List A) (i : ℕ) (x : A) (y : B) (begun old new : List B) → i < length xs → x ≡ get_or xs i x
    → (found : List B) × (old ≡ begun ++ found) × AllZip R (take i xs) found → R x y → new ≡ old ++ y ∷ [] → (found : List B) × (new ≡ begun ++ found) × AllZip R (take (i + 1) xs) found
grown R xs i x y begun old new inside is h r added =
    (h.0 ++ y ∷ [], added ∙ ap (λ t. t ++ y ∷ []) h.1 ∙ append_assoc begun h.0 (y ∷ []), one_more R xs h.0 (h.0 ++ y ∷ []) i x y inside is h.2 r refl)

-- so they are of what each place stands for
pub grown_mapped : {A B C : Type 0} (f : A → C) (R : C → B → Type 0) (xs : List A) (i : ℕ) (x : A) (y : B) (begun old new : List B) → i < length xs → x ≡ get_or xs i x
    → (found : List B) × (old ≡ begun ++ found) × AllZip R (map f (take i xs)) found → R (f x) y → new ≡ old ++ y ∷ [] → (found : List B) × (new ≡ begun ++ found) × AllZip R (map f (take (i + 1) xs)) found
grown_mapped f R xs i x y begun old new inside is h r added =
    let front : map f (take (i + 1) xs) ≡ map f (take i xs) ++ f x ∷ [] = ap (map f) (take_more xs i x inside ∙ ap (λ z. take i xs ++ z ∷ []) (sym is)) ∙ map-append f (take i xs) (x ∷ []) in (
      h.0 ++ y ∷ [],
      added ∙ ap (λ t. t ++ y ∷ []) h.1 ∙ append_assoc begun h.0 (y ∷ []),
      subst (λ zs. AllZip R zs (h.0 ++ y ∷ [])) (sym front) (all_zipped_more R (map f (take i xs)) h.0 (f x) y h.2 r),
    )

-- one more at a default
pub one_more_at : {A B : Type 0} (R : A → B → Type 0) (xs : List A) (ys : List B) (n : ℕ) (d : A) (y : B) → n < length xs → AllZip R (take n xs) ys → R (get_or xs n d) y → AllZip R (take (n + 1) xs) (ys ++ y ∷ [])
one_more_at R xs ys n d y inside before now = subst (λ zs. AllZip R zs (ys ++ y ∷ [])) (sym (take_more xs n d inside)) (all_zipped_more R (take n xs) ys (get_or xs n d) y before now)

-- both lists go on
pub behind : {A B : Type 0} (R : A → B → Type 0) (xs us : List A) (ys vs : List B) → AllZip R xs ys → AllZip R us vs → AllZip R (xs ++ us) (ys ++ vs)
behind R [] us [] vs h k = k
behind R [] us (y ∷ ys) vs h k = absurd h
behind R (x ∷ xs) us [] vs h k = absurd h
behind R (x ∷ xs) us (y ∷ ys) vs h k = (h.0, behind R xs us ys vs h.1 k)

-- the verdict that comes next is the piece's
pub next_found : (pieces : List Piece) (i : ℕ) (p : Piece) (old new : List (Option Verdict)) (v : Option Verdict) → i < length pieces → p ≡ get_or pieces i p → AllZip IsFoundOf (drop i pieces) old → old ≡ v ∷ new
    → IsFoundOf p v × AllZip IsFoundOf (drop (i + 1) pieces) new
next_found pieces i p old new v inside is pairs split =
    let next : suc i ≡ i + 1 = omega arith in
    let front : drop i pieces ≡ p ∷ drop (i + 1) pieces = drop-cons pieces i p inside ∙ ap (λ x. x ∷ drop (suc i) pieces) (sym is) ∙ ap (λ n. p ∷ drop n pieces) next in
    let both : AllZip IsFoundOf (p ∷ drop (i + 1) pieces) (v ∷ new) = subst (λ xs. AllZip IsFoundOf xs (v ∷ new)) front (subst (AllZip IsFoundOf (drop i pieces)) split pairs) in
    (both.0, both.1)

-- the same sum
same_fold : {A B : Type 0} (R : A → B → Type 0) (f : A → ℕ) (g : B → ℕ) → ((a : A) (b : B) → R a b → g b ≡ f a) → (n : ℕ) (xs : List A) (ys : List B) → AllZip R xs ys
    → fold (λ a y. a + g y) n ys ≡ fold (λ a x. a + f x) n xs
same_fold R f g same n [] [] h = refl
same_fold R f g same n [] (y ∷ ys) h = absurd h
same_fold R f g same n (x ∷ xs) [] h = absurd h
same_fold R f g same n (x ∷ xs) (y ∷ ys) h =
    ap (λ k. fold (λ a y. a + g y) (n + k) ys) (same x y h.0) ∙ same_fold R f g same (n + f x) xs ys h.1

pub same_sum : {A B : Type 0} (R : A → B → Type 0) (f : A → ℕ) (g : B → ℕ) → ((a : A) (b : B) → R a b → g b ≡ f a) → (xs : List A) (ys : List B) → AllZip R xs ys → sum_by g ys ≡ sum_by f xs
same_sum R f g same xs ys h = same_fold R f g same 0 xs ys h

-- so many more at once
pub grown_by : {A B : Type 0} (R : A → B → Type 0) (xs : List A) (i j : ℕ) (begun old new : List B) → i ≤ j → ((found : List B) × (old ≡ begun ++ found) × AllZip R (take i xs) found)
    → ((more : List B) × (new ≡ old ++ more) × AllZip R (take (j - i) (drop i xs)) more) → (found : List B) × (new ≡ begun ++ found) × AllZip R (take j xs) found
grown_by R xs i j begun old new far h k =
    let all : i + (j - i) ≡ j = omega arith in (
      h.0 ++ k.0,
      k.1 ∙ ap (λ t. t ++ k.0) h.1 ∙ append_assoc begun h.0 k.0,
      subst (λ n. AllZip R (take n xs) (h.0 ++ k.0)) all (subst (λ zs. AllZip R zs (h.0 ++ k.0)) (sym (take-add i (j - i) xs)) (behind R (take i xs) (take (j - i) (drop i xs)) h.0 k.0 h.2 k.2)),
    )
