-- Facts on lists.
use Rattle.std.proofs.Common.{◌≡◌, ℕ, zero, suc, ◌<◌, List, [], ◌∷◌, Bool, true, false, Option, Some, None, length, get_or, refl, sym, ap, ◌∙◌, arith}
use Rattle.std.proofs.lemmas.List.Sums.{passes_at_first}
use Rattle.std.proofs.lemmas.Bool.{ltb-true}
use Rattle.std.specs.Prelude.{replicate, position, nat_lt, cond, IsSome}
use Rattle.std.specs.List.{position_or_len}

-- a list of n equal elements
pub is_replicate : {X : Type 0} (xs : List X) (n : ℕ) (x : X) → length xs ≡ n → ((i : ℕ) → i < n → get_or xs i x ≡ x) → xs ≡ replicate n x
is_replicate [] zero x long each = refl
is_replicate [] (suc n) x long each = absurd (omega arith)
is_replicate (y ∷ xs) zero x long each = absurd (omega arith)
is_replicate (y ∷ xs) (suc n) x long each = λ j. each 0 (omega arith) j ∷ is_replicate xs n x (omega arith) (λ i lt. each (suc i) (omega arith)) j

-- lists with the same elements
pub same_items : {X : Type 0} (xs ys : List X) (d : X) → length xs ≡ length ys → ((i : ℕ) → get_or xs i d ≡ get_or ys i d) → xs ≡ ys
same_items [] [] d long each = refl
same_items [] (y ∷ ys) d long each = absurd (omega arith)
same_items (x ∷ xs) [] d long each = absurd (omega arith)
same_items (x ∷ xs) (y ∷ ys) d long each = λ j. each 0 j ∷ same_items xs ys d (omega arith) (λ i. each (suc i)) j

found_by : {X : Type 0} (p : X → Bool) (xs : List X) (d : X) (i n : ℕ) (b : Bool) → nat_lt n (length xs) ≡ b → (n < length xs → p (get_or xs n d) ≡ true) → cond b (Some n) None ≡ Some i → (i < length xs) × (p (get_or xs i d) ≡ true)
found_by p xs d i n true test passes is =
    let within : n < length xs = ltb-true n (length xs) test in
    let same : n ≡ i = cc in
    (rw (sym same) within, ap (λ (k : ℕ). p (get_or xs k d)) (sym same) ∙ passes within)
found_by p xs d i n false test passes is = absurd (let no : ⊥ = cc in no)

-- what position finds passes
pub position_found : {X : Type 0} (p : X → Bool) (xs : List X) (d : X) (i : ℕ) → position p xs ≡ Some i → (i < length xs) × (p (get_or xs i d) ≡ true)
position_found p xs d i is = found_by p xs d i (position_or_len p xs) (nat_lt (position_or_len p xs) (length xs)) refl (passes_at_first p xs d) is

-- an element that isn't the default stands within the list
pub within_list : {X : Type 0} (xs : List (Option X)) (i : ℕ) (x : X) → get_or xs i None ≡ Some x → i < length xs
within_list [] i x is = absurd (let no : ⊥ = cc in no)
within_list (y ∷ xs) zero x is = omega arith
within_list (y ∷ xs) (suc i) x is = omega (arith, within_list xs i x is)

-- what is there
pub some_is : {X : Type 0} (o : Option X) → IsSome o → (x : X) × (o ≡ Some x)
some_is None some = absurd (let z : ⊥ = cc in z)
some_is (Some x) some = (x, refl)
