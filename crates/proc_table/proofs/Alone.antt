-- Every slot but init's is free where so many slots are.
use Rattle.std.proofs.Common.{◌≡◌, ◌≢◌, ℕ, zero, suc, ◌+◌, [], ◌∷◌, Bool, true, false, cond, Some, None, length, refl, arith}
use Rattle.std.proofs.lemmas.List.Sums.{count_by-le-length, sum_by-cons}
use Rattle.std.specs.Prelude.{count_by}
use Rattle.proc_table.specs.Slots.{IsAlone, Slot, Table, at, is_free, tally}

counted : {S : Type 0} (x : Slot S) (t : Table S) → count_by is_free (x ∷ t) ≡ tally (is_free x) + count_by is_free t
counted x t = by (is_free x) (sum_by-cons (λ y. cond {A = ℕ} (is_free y) 1 0) x t) where
  by : (b : Bool) → count_by is_free (x ∷ t) ≡ cond b 1 0 + count_by is_free t → count_by is_free (x ∷ t) ≡ tally b + count_by is_free t
  by true is = is
  by false is = is

each_free : {S : Type 0} (t : Table S) → count_by is_free t ≡ length t → (k : ℕ) → at t k ≡ None
each_free [] all k = refl
each_free (None ∷ t) all zero = refl
each_free (None ∷ t) all (suc k) = each_free t (omega (arith, counted None t, all)) k
each_free (Some p ∷ t) all k = absurd (omega (arith, counted (Some p) t, all, count_by-le-length is_free t))

all_free : {S : Type 0} (t : Table S) → ((k : ℕ) → at t k ≡ None) → count_by is_free t ≡ length t
all_free [] each = refl
all_free (None ∷ t) each = omega (arith, counted None t, all_free t (λ k. each (suc k)))
all_free (Some p ∷ t) each = absurd (let no : Some p ≡ None = each 0 in let not : ⊥ = cc in not)

others : {S : Type 0} (x : Slot S) (t : Table S) → ((k : ℕ) → at t k ≡ None) → (pid : ℕ) → pid ≢ 0 → at (x ∷ t) pid ≡ None
others x t each zero ne = absurd (ne refl)
others x t each (suc k) ne = each k

-- where init is there, all others are free
pub alone_with_init : {S : Type 0} (t : Table S) → length t ≡ 64 → is_free (at t 0) ≡ false → (count_by is_free t ≡ 63 → IsAlone t) × (IsAlone t → count_by is_free t ≡ 63)
alone_with_init [] long used = absurd (omega arith)
alone_with_init (None ∷ t) long used = absurd (let no : ⊥ = cc in no)
alone_with_init (Some p ∷ t) long used = (
  (λ count. others (Some p) t (each_free t (omega (arith, counted (Some p) t, count, long)))),
  λ alone. omega (arith, counted (Some p) t, all_free t (λ k. alone (suc k) (omega arith)), long),
)

-- where it isn't, all are
pub alone_without_init : {S : Type 0} (t : Table S) → length t ≡ 64 → is_free (at t 0) ≡ true → (count_by is_free t ≡ 64 → IsAlone t) × (IsAlone t → count_by is_free t ≡ 64)
alone_without_init [] long free = absurd (omega arith)
alone_without_init (Some p ∷ t) long free = absurd (let no : ⊥ = cc in no)
alone_without_init (None ∷ t) long free = (
  (λ count. others None t (each_free t (omega (arith, counted None t, count, long)))),
  λ alone. omega (arith, counted None t, all_free t (λ k. alone (suc k) (omega arith)), long),
)
