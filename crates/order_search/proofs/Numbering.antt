-- Entries that are opened one after the other get the numbers from 0 on.
use Rattle.std.proofs.Common.{◌≡◌, ◌⊎◌, ◌≢◌, ℕ, zero, suc, ◌+◌, ◌<◌, ◌≤◌, List, [], ◌∷◌, ◌++◌, Bool, true, false, Option, Some, None, length, get_or, set, inl, inr, refl, sym, ap, ◌∙◌, arith, length-set, length-append, get_or-set_same, get_or-set_other}
use Rattle.std.specs.Prelude.{replicate}
use Rattle.std.proofs.lemmas.List.Quantifiers.{position-Some}
use Rattle.std.proofs.lemmas.Bool.{cases_eq}
use Rattle.fd_table.specs.declared.names.Object.TheVariants.{Input}
use Rattle.fd_table.specs.Entries.{Entries, is_free, entry_at, added_at, opened}
use Rattle.order_search.specs.Places.{AreNumbers, IsNextNumber}

-- the first n entries were opened, and these are their numbers
pub record Numbering (t : Entries) (numbers : List ℕ) (n : ℕ) : Type 0 where
  pub used : (k : ℕ) → k < n → is_free (entry_at t k) ≡ false
  pub free : (k : ℕ) → n ≤ k → is_free (entry_at t k) ≡ true
  pub all : length t ≡ 100
  pub many : length numbers ≡ n
  pub each : (i : ℕ) → i < n → get_or numbers i 0 ≡ i

last_is : (xs : List ℕ) (n x : ℕ) → length xs ≡ n → get_or (xs ++ x ∷ []) n 0 ≡ x
last_is [] zero x is = refl
last_is [] (suc n) x is = absurd (let z : ⊥ = omega (arith, is) in z)
last_is (y ∷ xs) zero x is = absurd (let z : ⊥ = omega (arith, is) in z)
last_is (y ∷ xs) (suc n) x is = last_is xs n x (omega (arith, is))

front_is : (xs : List ℕ) (i x : ℕ) → i < length xs → get_or (xs ++ x ∷ []) i 0 ≡ get_or xs i 0
front_is [] i x less = absurd (let z : ⊥ = omega (arith, less) in z)
front_is (y ∷ xs) zero x less = refl
front_is (y ∷ xs) (suc i) x less = front_is xs i x (omega (arith, less))

none_at : (n k : ℕ) → entry_at (replicate n None) k ≡ None
none_at zero k = refl
none_at (suc n) zero = refl
none_at (suc n) (suc k) = none_at n k

pub numbering_first : Numbering (replicate 100 None) [] 0
numbering_first = record { used = λ k less. absurd (let z : ⊥ = omega (arith, less) in z); free = λ k past. ap is_free (none_at 100 k); all = refl; many = refl; each = λ i less. absurd (let z : ⊥ = omega (arith, less) in z) }

pub numbering_last : (t : Entries) (numbers : List ℕ) → Numbering t numbers 100 → AreNumbers numbers
numbering_last t numbers n = record { all = n.many; each = n.each }

by_order : (a b : ℕ) → (a < b → ⊥) → (b < a → ⊥) → a ≡ b
by_order a b less more = omega (arith, less, more)

never : (b : Bool) → b ≡ true → b ≡ false → ⊥
never b t f = let z : ⊥ = cc in z

module _ (t u : Entries) (before after : List ℕ) (n : ℕ) (room : n < 100) (was : Numbering t before n) (next : IsNextNumber t u before after) where
  first : (next.entry < length t) × (is_free (get_or t next.entry None) ≡ true) × ((k : ℕ) → k < next.entry → is_free (get_or t k None) ≡ false)
  first = position-Some is_free t next.entry None next.lowest

  abbrev e : ℕ
  e = next.entry

  here : e ≡ n
  here = by_order e n (λ less. never (is_free (entry_at t e)) first.1 (was.used e less)) (λ more. never (is_free (entry_at t n)) (was.free n (omega arith)) (first.2 n more))

  now : u ≡ set t e (Some (opened Input))
  now = next.opens ∙ ap (λ (o : Option ℕ). added_at t o Input) next.lowest

  at_e : entry_at u e ≡ Some (opened Input)
  at_e = ap (λ (v : Entries). entry_at v e) now ∙ get_or-set_same t e (Some (opened Input)) None first.0

  others : (k : ℕ) → k ≢ e → entry_at u k ≡ entry_at t k
  others k ne = ap (λ (v : Entries). entry_at v k) now ∙ get_or-set_other t e k (Some (opened Input)) None ne

  used_by : (k : ℕ) → k < n + 1 → (k ≡ e) ⊎ (k ≢ e) → is_free (entry_at u k) ≡ false
  used_by k less (inl is) = ap is_free (ap (λ (j : ℕ). entry_at u j) is ∙ at_e)
  used_by k less (inr ne) = ap is_free (others k ne) ∙ was.used k (omega (arith, here, ne))

  each_by : (i : ℕ) → i < n + 1 → (i ≡ n) ⊎ (i ≢ n) → get_or after i 0 ≡ i
  each_by i less (inl is) = ap (λ (l : List ℕ). get_or l i 0) next.adds ∙ ap (λ (j : ℕ). get_or (before ++ e ∷ []) j 0) is ∙ last_is before n e was.many ∙ here ∙ sym is
  each_by i less (inr ne) = ap (λ (l : List ℕ). get_or l i 0) next.adds ∙ front_is before i e (omega (arith, was.many, ne, less)) ∙ was.each i (omega (arith, ne, less))

  pub numbering_next : Numbering u after (n + 1)
  numbering_next =
      record {
        used = λ k less. used_by k less (cases_eq k e);
        free = λ k past. ap is_free (others k (λ is. let z : ⊥ = omega (arith, is, here, past) in z)) ∙ was.free k (omega (arith, past));
        all = ap length now ∙ length-set t e (Some (opened Input)) ∙ was.all;
        many = omega (arith, ap length next.adds, length-append before (e ∷ []), was.many);
        each = λ i less. each_by i less (cases_eq i n);
      }

pub same_at : (xs : List ℕ) (i d e : ℕ) → i < length xs → get_or xs i d ≡ get_or xs i e
same_at [] i d e less = absurd (let z : ⊥ = omega (arith, less) in z)
same_at (x ∷ xs) zero d e less = refl
same_at (x ∷ xs) (suc i) d e less = same_at xs i d e (omega (arith, less))
