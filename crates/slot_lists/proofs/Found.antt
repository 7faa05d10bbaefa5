-- A test of what a function gives, and the test of what it is given: they find and count the same.
use Rattle.std.proofs.Common.{◌≡◌, ℕ, ◌+◌, List, [], ◌∷◌, Bool, Some, None, length, refl, ap, ◌∙◌, arith}
use Rattle.std.proofs.lemmas.List.{length-map}
use Rattle.std.proofs.lemmas.List.Sums.{sum_by-cons}
use Rattle.std.specs.Prelude.{cond, map, count_by, position, nat_lt, not}
use Rattle.std.specs.List.{position_or_len}

first_by : {X Y : Type 0} (f : X → Y) (p : Y → Bool) (q : X → Bool) → ((x : X) → p (f x) ≡ q x) → (xs : List X) → position_or_len p (map f xs) ≡ position_or_len q xs
first_by f p q same [] = refl
first_by f p q same (x ∷ xs) =
    ap (λ (b : Bool). cond (not b) (1 + position_or_len p (map f xs)) 0) (same x) ∙ ap (λ (n : ℕ). cond (not (q x)) (1 + n) 0) (first_by f p q same xs)

pub found_by : {X Y : Type 0} (f : X → Y) (p : Y → Bool) (q : X → Bool) → ((x : X) → p (f x) ≡ q x) → (xs : List X) → position p (map f xs) ≡ position q xs
found_by f p q same xs =
    ap (λ (n : ℕ). cond (nat_lt n (length (map f xs))) (Some n) None) (first_by f p q same xs)
    ∙ ap (λ (l : ℕ). cond (nat_lt (position_or_len q xs) l) (Some (position_or_len q xs)) None) (length-map xs f)

pub counted_by : {X Y : Type 0} (f : X → Y) (p : Y → Bool) (q : X → Bool) → ((x : X) → p (f x) ≡ q x) → (xs : List X) → count_by p (map f xs) ≡ count_by q xs
counted_by f p q same [] = refl
counted_by f p q same (x ∷ xs) =
    omega (arith, sum_by-cons (λ y. cond {A = ℕ} (p y) 1 0) (f x) (map f xs), sum_by-cons (λ y. cond {A = ℕ} (q y) 1 0) x xs, counted_by f p q same xs, ap (λ (b : Bool). cond {A = ℕ} b 1 0) (same x))
