-- How many entries have an object open: an open makes them one more, the last close one less, and nothing else counts.
use Rattle.std.proofs.Common.{◌≡◌, ℕ, ◌+◌, ◌<◌, ◌≤◌, ◌⊎◌, [], ◌∷◌, Bool, true, false, Option, Some, None, length, refl, ap, arith, inl, inr}
use Rattle.std.proofs.Math.ListN.{set}
use Rattle.std.proofs.lemmas.Bool.{cases_lt}
use Rattle.std.proofs.lemmas.List.Sums.{sum_by-set, sum_by-cons}
use Rattle.std.specs.Prelude.{count_by, cond}
use Rattle.std.proofs.lemmas.List.{set_past}
use Rattle.fd_table.specs.declared.names.Object.{Object}
use Rattle.fd_table.specs.Entries.{Entries, OpenFile, entry_at, is_free, opened, more_held, moved_on, going_on_at, added_at, advanced, moved_to, lowest_free_entry}
use Rattle.fd_table.specs.Descriptors.{Descriptors, holders_in, all_held, all_held_from, held_by_dup}
use Rattle.fd_table.proofs.Lists.{position_found, within_list}
use Rattle.proc_table.specs.Slots.{tally}
use Rattle.law_kernel.specs.Ends.{has_object}
use Rattle.fd_table.proofs.Counting.{free_is_none}

tally_is : (b : Bool) → cond {A = ℕ} b 1 0 ≡ tally b
tally_is true = refl
tally_is false = refl

module _ (test : Object → Bool) where
  abbrev p : Option OpenFile → Bool
  p = has_object test

  -- an entry is written
  changed : (E : Entries) (e : ℕ) (y : Option OpenFile) → e < length E → count_by p (set E e y) + tally (p (entry_at E e)) ≡ count_by p E + tally (p y)
  changed E e y within =
      omega (arith, sum_by-set (λ (x : Option OpenFile). cond {A = ℕ} (p x) 1 0) E e y None within, tally_is (p (entry_at E e)), tally_is (p y))

  -- an entry is written that counts as before
  pub unchanged : (E : Entries) (e : ℕ) (y : Option OpenFile) → p y ≡ p (entry_at E e) → count_by p (set E e y) ≡ count_by p E
  unchanged E e y same = by (cases_lt e (length E)) where
    by : (e < length E) ⊎ (length E ≤ e) → count_by p (set E e y) ≡ count_by p E
    by (inl lt) = omega (arith, changed E e y lt, ap tally same)
    by (inr ge) = ap (count_by p) (set_past E e y ge)

  -- the last close of an entry
  pub freed : (E : Entries) (e : ℕ) (f : OpenFile) → entry_at E e ≡ Some f → count_by p (set E e None) + tally (test f.object) ≡ count_by p E
  freed E e f is = omega (arith, changed E e None (within_list E e f is), ap (λ (x : Option OpenFile). tally (p x)) is)

  -- an open
  pub opened_count : (E : Entries) (e : ℕ) (object : Object) → lowest_free_entry E ≡ Some e → count_by p (added_at E (Some e) object) ≡ count_by p E + tally (test object)
  opened_count E e object found =
      let at = position_found is_free E None e found in
      omega (arith, changed E e (Some (opened object)) at.0, ap (λ (x : Option OpenFile). tally (p x)) (free_is_none (entry_at E e) at.1))

  more_same : (n : ℕ) (x : Option OpenFile) → p (more_held n x) ≡ p x
  more_same n None = refl
  more_same n (Some f) = refl

  moved_same : (n : ℕ) (x : Option OpenFile) → p (moved_on n x) ≡ p x
  moved_same n None = refl
  moved_same n (Some f) = refl

  going_same : (n : ℕ) (x : Option OpenFile) → p (going_on_at n x) ≡ p x
  going_same n None = refl
  going_same n (Some f) = refl

  pub advanced_count : (E : Entries) (e n : ℕ) → count_by p (advanced E e n) ≡ count_by p E
  advanced_count E e n = unchanged E e (moved_on n (entry_at E e)) (moved_same n (entry_at E e))

  pub moved_count : (E : Entries) (e n : ℕ) → count_by p (moved_to E e n) ≡ count_by p E
  moved_count E e n = unchanged E e (going_on_at n (entry_at E e)) (going_same n (entry_at E e))

  pub dup_count : (E : Entries) (entry place : Option ℕ) → count_by p (held_by_dup E entry place) ≡ count_by p E
  dup_count E None place = refl
  dup_count E (Some e) None = refl
  dup_count E (Some e) (Some place) = unchanged E e (more_held 1 (entry_at E e)) (more_same 1 (entry_at E e))

  held_count : (e : ℕ) (E : Entries) (fds : Descriptors) → count_by p (all_held_from e E fds) ≡ count_by p E
  held_count e [] fds = refl
  held_count e (x ∷ E) fds =
      let c : Option OpenFile → ℕ = λ y. cond {A = ℕ} (p y) 1 0 in
      omega (arith, sum_by-cons c (more_held (holders_in fds e) x) (all_held_from (e + 1) E fds), sum_by-cons c x E, held_count (e + 1) E fds, ap (λ (b : Bool). cond {A = ℕ} b 1 0) (more_same (holders_in fds e) x))

  pub fork_count : (E : Entries) (fds : Descriptors) → count_by p (all_held E fds) ≡ count_by p E
  fork_count E fds = held_count 0 E fds
