-- A free place is found exactly where one is counted, and taking it leaves one less.
use Rattle.std.proofs.Common.{◌≡◌, ℕ, zero, suc, ◌+◌, ◌-◌, ◌<◌, List, [], ◌∷◌, Bool, true, false, Option, Some, None, length, get_or, refl, ap, arith}
use Rattle.std.proofs.Math.ListN.{set}
use Rattle.std.proofs.lemmas.List.Sums.{sum_by-set, sum_by-cons}
use Rattle.std.proofs.lemmas.Bool.{ltb-true, ltb-false}
use Rattle.std.specs.Prelude.{IsSome, cond, nat_lt, not, position, count_by, ◌↔◌}
use Rattle.std.specs.List.{position_or_len}
use Rattle.fd_table.specs.declared.names.Object.{Object}
use Rattle.fd_table.specs.Entries.{Entries, is_free, free_count, lowest_free_entry, added, added_at, opened}
use Rattle.fd_table.specs.Descriptors.{Descriptors, lowest_free, installed, installed_at}
use Rattle.fd_table.proofs.Lists.{position_found}

-- the first place is within the list exactly where some place is counted
module _ {X : Type 0} (p : X → Bool) where
  counted : (xs : List X) → (position_or_len p xs < length xs) ↔ (0 < count_by p xs)
  counted [] = (λ some. absurd (omega arith), λ some. absurd (omega arith))
  counted (x ∷ xs) = by (p x) refl (counted xs) where
    more : count_by p (x ∷ xs) ≡ cond {A = ℕ} (p x) 1 0 + count_by p xs
    more = sum_by-cons (λ y. cond {A = ℕ} (p y) 1 0) x xs

    by : (b : Bool) → p x ≡ b → (position_or_len p xs < length xs) ↔ (0 < count_by p xs) → (cond {A = ℕ} (not (p x)) (1 + position_or_len p xs) 0 < length (x ∷ xs)) ↔ (0 < count_by p (x ∷ xs))
    by true is rest =
        let first : ◌≡◌ {A = ℕ} (cond (not (p x)) (1 + position_or_len p xs) 0) 0 = ap (λ (b : Bool). cond {A = ℕ} (not b) (1 + position_or_len p xs) 0) is in
        let one : ◌≡◌ {A = ℕ} (cond (p x) 1 0) 1 = ap (λ (b : Bool). cond {A = ℕ} b 1 0) is in
        (λ _. omega (arith, more, one), λ _. omega (arith, first))
    by false is rest =
        let later : ◌≡◌ {A = ℕ} (cond (not (p x)) (1 + position_or_len p xs) 0) (1 + position_or_len p xs) = ap (λ (b : Bool). cond {A = ℕ} (not b) (1 + position_or_len p xs) 0) is in
        let none : ◌≡◌ {A = ℕ} (cond (p x) 1 0) 0 = ap (λ (b : Bool). cond {A = ℕ} b 1 0) is in
        (λ some. omega (arith, more, none, rest.0 (omega (arith, later, some))), λ some. omega (arith, later, rest.1 (omega (arith, more, none, some))))

  by_test : (xs : List X) (n : ℕ) (b : Bool) → nat_lt n (length xs) ≡ b → (n < length xs) ↔ (0 < count_by p xs) → IsSome (cond b (Some n) None) ↔ (0 < count_by p xs)
  by_test xs n true test same = (λ _. same.0 (ltb-true n (length xs) test), λ _. refl)
  by_test xs n false test same = (λ some. absurd (let no : ⊥ = cc in no), λ some. absurd (omega (arith, ltb-false n (length xs) test, same.1 some)))

  -- a place is found exactly where one is counted
  pub found : (xs : List X) → IsSome (position p xs) ↔ (0 < count_by p xs)
  found xs = by_test xs (position_or_len p xs) (nat_lt (position_or_len p xs) (length xs)) refl (counted xs)

-- the free place i is taken by x
one_less : {X : Type 0} (xs : List (Option X)) (i : ℕ) (x : X) → position is_free xs ≡ Some i → free_count (set xs i (Some x)) ≡ free_count xs - 1
one_less xs i x is =
    let place : (i < length xs) × (is_free (get_or xs i None) ≡ true) = position_found is_free xs None i is in
    let one : ◌≡◌ {A = ℕ} (cond (is_free (get_or xs i None)) 1 0) 1 = ap (λ (b : Bool). cond {A = ℕ} b 1 0) place.1 in
    omega (arith, sum_by-set (λ y. cond {A = ℕ} (is_free y) 1 0) xs i (Some x) None place.0, one)

-- no place is found
none_counted : {X : Type 0} (xs : List (Option X)) → position is_free xs ≡ None → free_count xs ≡ 0
none_counted xs is = by (free_count xs) refl where
  by : (n : ℕ) → free_count xs ≡ n → free_count xs ≡ 0
  by zero n = n
  by (suc k) n = absurd (let some : IsSome (position is_free xs) = (found is_free xs).1 (omega (arith, n)) in let no : ⊥ = cc in no)

pub install_taken : (fds : Descriptors) (e : ℕ) → free_count (installed fds e) ≡ free_count fds - 1
install_taken fds e = by (lowest_free fds) refl where
  by : (place : Option ℕ) → lowest_free fds ≡ place → free_count (installed_at fds place e) ≡ free_count fds - 1
  by None is = omega (arith, none_counted fds is)
  by (Some place) is = one_less fds place e is

pub add_taken : (t : Entries) (object : Object) → free_count (added t object) ≡ free_count t - 1
add_taken t object = by (lowest_free_entry t) refl where
  by : (place : Option ℕ) → lowest_free_entry t ≡ place → free_count (added_at t place object) ≡ free_count t - 1
  by None is = omega (arith, none_counted t is)
  by (Some place) is = one_less t place (opened object) is
