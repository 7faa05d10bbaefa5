-- As many places as are in use are no more than a list in which each has a place of its own.
use Rattle.std.proofs.Common.{◌≡◌, inl, inr, ℕ, zero, suc, ◌+◌, ◌<◌, ◌≤◌, List, [], ◌∷◌, Option, Some, None, length, get_or, refl, sym, ap, ◌∙◌, arith}
use Rattle.std.proofs.lemmas.List.Sums.{sum_by-cons}
use Rattle.std.specs.Prelude.{cond}
use Rattle.tree_model.specs.Tame.{Among}
use Rattle.fd_table.specs.Entries.{Entries, OpenFile, entry_at, is_free, free_count}
use Rattle.process_model.specs.Shape.{same}
use Rattle.process_model.proofs.Counts.{same_other, same_cases}
use Rattle.law_runs.proofs.room.Counting.{total, total_sum, total_none}

-- 1 where a number is below n
abbrev pub below : ℕ → ℕ → ℕ
below zero q = 0
below (suc n) q = same q n + below n q

pub is_below : (n q : ℕ) → q < n → 1 ≤ below n q
is_below zero q few = absurd (omega (arith, few))
is_below (suc n) q few = elim (same_cases q n) [ inl is ↦ omega (arith, is.1) | inr ne ↦ omega (arith, is_below n q (by ne.0)) ]
  where
    by : (q ≡ n → ⊥) → q < n
    by ne = omega (arith, few, ne)

module _ (code : ℕ → ℕ) where
  -- no two have the code j, among those that have one below n
  module _ (j : ℕ) (one : (e d : ℕ) → code e ≡ j → code d ≡ j → e ≡ d) where
    later : (e a m : ℕ) → code e ≡ j → e < a → total (λ d. same (code d) j) a m ≡ 0
    later e a zero is past = refl
    later e a (suc m) is past =
        omega (arith, same_other (code a) j (λ also. let same : e ≡ a = one e a is also in absurd (omega (arith, same, past))), later e (suc a) m is (omega (arith, past)))

    coded_once : (a m : ℕ) → total (λ e. same (code e) j) a m ≤ 1
    coded_once a zero = omega arith
    coded_once a (suc m) =
        elim (same_cases (code a) j) [
          | inl is ↦ omega (arith, is.1, later a (suc a) m is.0 (omega arith))
          | inr ne ↦ omega (arith, ne.1, coded_once (suc a) m)
        ]

  pub coded_few : (n : ℕ) → ((e d : ℕ) → code e < n → code e ≡ code d → e ≡ d) → (a m : ℕ) → total (λ e. below n (code e)) a m ≤ n
  coded_few zero one a m = omega (arith, total_none a m)
  coded_few (suc n) one a m =
      omega (
        arith,
        total_sum (λ e. same (code e) n) (λ e. below n (code e)) a m,
        coded_once n (λ e d is also. one e d (omega (arith, is)) (is ∙ sym also)) a m,
        coded_few n (λ e d less. one e d (omega (arith, less))) a m,
      )

-- ---- entries in use

abbrev pub in_use : Option OpenFile → ℕ
in_use None = 0
in_use (Some f) = 1

shifted : (f : ℕ → ℕ) (a m : ℕ) → total (λ e. f (suc e)) a m ≡ total f (suc a) m
shifted f a zero = refl
shifted f a (suc m) = omega (arith, shifted f (suc a) m)

-- an entry is free or in use
pub free_or_used : (E : Entries) → free_count E + total (λ e. in_use (entry_at E e)) 0 (length E) ≡ length E
free_or_used [] = refl
free_or_used (None ∷ E) = omega (arith, sum_by-cons (λ (y : Option OpenFile). cond {A = ℕ} (is_free y) 1 0) None E, free_or_used E, shifted (λ e. in_use (entry_at (None ∷ E) e)) 0 (length E))
free_or_used (Some f ∷ E) = omega (arith, sum_by-cons (λ (y : Option OpenFile). cond {A = ℕ} (is_free y) 1 0) (Some f) E, free_or_used E, shifted (λ e. in_use (entry_at (Some f ∷ E) e)) 0 (length E))

pub total_more : (f g : ℕ → ℕ) → ((q : ℕ) → f q ≤ g q) → (a n : ℕ) → total f a n ≤ total g a n
total_more f g more a zero = omega arith
total_more f g more a (suc n) = omega (arith, more a, total_more f g more (suc a) n)

-- ---- places in a list

module _ {X : Type 0} where
  pub place : (x : X) (xs : List X) → Among x xs → (i : ℕ) × (i < length xs) × (get_or xs i x ≡ x)
  place x [] here = absurd here
  place x (y ∷ ys) (inl is) = (0, omega arith, sym is)
  place x (y ∷ ys) (inr rest) = let p = place x ys rest in (suc p.0, omega (arith, p.1), p.2)

  pub get_any : (xs : List X) (i : ℕ) (d c : X) → i < length xs → get_or xs i d ≡ get_or xs i c
  get_any [] i d c few = absurd (omega (arith, few))
  get_any (x ∷ xs) zero d c few = refl
  get_any (x ∷ xs) (suc i) d c few = get_any xs i d c (omega (arith, few))

  module _ (E : Entries) (name : ℕ → X) (xs : List X) (among : (e : ℕ) (f : OpenFile) → entry_at E e ≡ Some f → Among (name e) xs) (apart : (e d : ℕ) (f h : OpenFile) → entry_at E e ≡ Some f → entry_at E d ≡ Some h → name e ≡ name d → e ≡ d) where
    -- the place of an entry's name; past the list where the entry is free
    abbrev code_by : (e : ℕ) (o : Option OpenFile) → entry_at E e ≡ o → ℕ
    code_by e None is = length xs
    code_by e (Some f) is = (place (name e) xs (among e f is)).0

    abbrev code : ℕ → ℕ
    code e = code_by e (entry_at E e) refl

    coded : (e d : ℕ) (o u : Option OpenFile) (is : entry_at E e ≡ o) (it : entry_at E d ≡ u) → code_by e o is < length xs → code_by e o is ≡ code_by d u it → e ≡ d
    coded e d None u is it few also = absurd (omega (arith, few))
    coded e d (Some f) None is it few also = absurd (omega (arith, few, also))
    coded e d (Some f) (Some h) is it few also =
        let p = place (name e) xs (among e f is) in
        let q = place (name d) xs (among d h it) in
        let z : name e ≡ name d = sym p.2 ∙ (get_any xs p.0 (name e) (name d) p.1 ∙ (ap (λ i. get_or xs i (name d)) also ∙ q.2)) in
        apart e d f h is it z

    used_by : (e : ℕ) (o : Option OpenFile) (is : entry_at E e ≡ o) → in_use o ≤ below (length xs) (code_by e o is)
    used_by e None is = omega arith
    used_by e (Some f) is = is_below (length xs) (place (name e) xs (among e f is)).0 (place (name e) xs (among e f is)).1

    pub used_few : length E ≤ free_count E + length xs
    used_few =
        omega (
          arith,
          free_or_used E,
          total_more (λ e. in_use (entry_at E e)) (λ e. below (length xs) (code e)) (λ e. used_by e (entry_at E e) refl) 0 (length E),
          coded_few code (length xs) (λ e d. coded e d (entry_at E e) (entry_at E d) refl refl) 0 (length E),
        )
