-- Sums over slots, and how many entries are free, where one is written.
use Rattle.std.proofs.Common.{◌≡◌, ℕ, zero, suc, ◌+◌, ◌≤◌, [], ◌∷◌, Option, Some, None, refl, ap, arith}
use Rattle.std.proofs.Math.ListN.{set}
use Rattle.std.proofs.lemmas.List.Sums.{sum_by-cons}
use Rattle.std.specs.Prelude.{sum_by, map, cond}
use Rattle.fd_table.specs.Entries.{Entries, OpenFile, entry_at, is_free, free_count, more_held}
use Rattle.fd_table.specs.Descriptors.{Descriptors, holders_in, all_held_from}
use Rattle.proc_table.specs.Slots.{Slot, Table, at}

-- ---- sums

module _ {S : Type 0} (f : Slot S → ℕ) (none : f None ≡ 0) where
  pub sum_set : (t : Table S) (pid : ℕ) (x : Slot S) → sum_by f (set t pid x) + f (at t pid) ≤ sum_by f t + f x
  sum_set [] pid x = omega (arith, none)
  sum_set (y ∷ t) zero x = omega (arith, sum_by-cons f y t, sum_by-cons f x t)
  sum_set (y ∷ t) (suc pid) x = omega (arith, sum_by-cons f y t, sum_by-cons f y (set t pid x), sum_set t pid x)

  pub one_of : (t : Table S) (pid : ℕ) → f (at t pid) ≤ sum_by f t
  one_of [] pid = omega (arith, none)
  one_of (y ∷ t) zero = omega (arith, sum_by-cons f y t)
  one_of (y ∷ t) (suc pid) = omega (arith, sum_by-cons f y t, one_of t pid)

  pub sum_map : (g : Slot S → Slot S) → ((x : Slot S) → f (g x) ≡ f x) → (t : Table S) → sum_by f (map g t) ≡ sum_by f t
  sum_map g same [] = refl
  sum_map g same (y ∷ t) = omega (arith, sum_by-cons f y t, sum_by-cons f (g y) (map g t), same y, sum_map g same t)

-- ---- entries

abbrev one_if_free : Option OpenFile → ℕ
one_if_free x = cond {A = ℕ} (is_free x) 1 0

free_one : (g : Option OpenFile → Option OpenFile) → (g None ≡ None) → (x : Option OpenFile) → one_if_free x ≤ one_if_free (g x)
free_one g none None = omega (arith, ap one_if_free none)
free_one g none (Some x) = omega arith

-- an entry that was free stays so
pub free_set : (g : Option OpenFile → Option OpenFile) → g None ≡ None → (t : Entries) (e : ℕ) → free_count t ≤ free_count (set t e (g (entry_at t e)))
free_set g none [] e = omega arith
free_set g none (x ∷ t) zero = omega (arith, sum_by-cons one_if_free x t, sum_by-cons one_if_free (g x) t, free_one g none x)
free_set g none (x ∷ t) (suc e) = omega (arith, sum_by-cons one_if_free x t, sum_by-cons one_if_free x (set t e (g (entry_at t e))), free_set g none t e)

-- as many entries are free where more descriptors hold those in use
held_one : (n : ℕ) (x : Option OpenFile) → one_if_free (more_held n x) ≡ one_if_free x
held_one n None = refl
held_one n (Some f) = refl

pub held_free : (e : ℕ) (t : Entries) (fds : Descriptors) → free_count (all_held_from e t fds) ≡ free_count t
held_free e [] fds = refl
held_free e (x ∷ t) fds =
    omega (arith, sum_by-cons one_if_free (more_held (holders_in fds e) x) (all_held_from (e + 1) t fds), sum_by-cons one_if_free x t, held_one (holders_in fds e) x, held_free (e + 1) t fds)
