-- No call brings an offset past the largest file.
use Rattle.std.proofs.Common.{◌≡◌, ◌⊎◌, ℕ, zero, suc, ◌+◌, ◌-◌, ◌≤◌, List, [], ◌∷◌, Bool, true, false, Option, Some, None, get_or, refl, ap, arith, inl, inr}
use Rattle.std.proofs.Math.ListN.{set}
use Rattle.std.specs.Prelude.{nat_le, if◌then◌else◌}
use Rattle.fd_table.specs.declared.names.Object.{Object}
use Rattle.fd_table.specs.Entries.{Entries, OpenFile, entry_at, offset_of, less_held, more_held, moved_on, going_on_at, moved_to, opened, added_at, advanced}
use Rattle.fd_table.specs.Descriptors.{Descriptors, entry_of, lowest_free, installed, installed_at, after_close, released_by_close, close_answer, after_dup, held_by_dup, without, all_held}
use Rattle.fd_table.proofs.Counting.{advance_kept, move_kept}
use Rattle.fd_table.proofs.Holding.{entry_at-all_held}
use Rattle.mem_files.specs.Listing.{max_size}
use Rattle.proc_table.specs.Slots.{Table, Slot, at}
use Rattle.kernel_model.specs.Sound.{tables, IsSound}

-- ---- one item of a list

pub item_cases : {X : Type 0} (l : List (Option X)) (i j : ℕ) (x : Option X) → (get_or (set l i x) j None ≡ x) ⊎ (get_or (set l i x) j None ≡ get_or l j None)
item_cases [] i j x = inr refl
item_cases (y ∷ l) zero zero x = inl refl
item_cases (y ∷ l) zero (suc j) x = inr refl
item_cases (y ∷ l) (suc i) zero x = inr refl
item_cases (y ∷ l) (suc i) (suc j) x = item_cases l i j x

-- the same of a slot that is there
pub slot_cases : {S : Type 0} (t : Table S) (pid q : ℕ) (x : Slot S) → (at (set t pid x) q ≡ x) ⊎ (at (set t pid x) q ≡ at t q)
slot_cases t pid q x = item_cases t pid q x

-- ---- offsets

abbrev pub AreSmall : Entries → Type 0
AreSmall E = (e : ℕ) → offset_of (entry_at E e) ≤ max_size

small_set : (E : Entries) (e : ℕ) (x : Option OpenFile) → offset_of x ≤ max_size → AreSmall E → AreSmall (set E e x)
small_set E e x small all i = by (item_cases E e i x) where
  by : (entry_at (set E e x) i ≡ x) ⊎ (entry_at (set E e x) i ≡ entry_at E i) → offset_of (entry_at (set E e x) i) ≤ max_size
  by (inl is) = omega (arith, ap offset_of is)
  by (inr is) = omega (arith, ap offset_of is, all i)

less_offset : (x : Option OpenFile) → offset_of x ≤ max_size → offset_of (less_held x) ≤ max_size
less_offset None small = small
less_offset (Some f) small = by (nat_le f.count 1) where
  by : (b : Bool) → offset_of (if b then None else Some (record { object = f.object; count = f.count - 1; offset = f.offset })) ≤ max_size
  by true = omega arith
  by false = small

more_offset : (n : ℕ) (x : Option OpenFile) → offset_of x ≤ max_size → offset_of (more_held n x) ≤ max_size
more_offset n None small = small
more_offset n (Some f) small = small

pub released_small : (E : Entries) (entry : Option ℕ) → AreSmall E → AreSmall (released_by_close E entry)
released_small E None all = all
released_small E (Some e) all = small_set E e (less_held (entry_at E e)) (less_offset (entry_at E e) (all e)) all

pub held_small : (E : Entries) (entry place : Option ℕ) → AreSmall E → AreSmall (held_by_dup E entry place)
held_small E None place all = all
held_small E (Some e) None all = all
held_small E (Some e) (Some place) all = small_set E e (more_held 1 (entry_at E e)) (more_offset 1 (entry_at E e) (all e)) all

pub added_small : (E : Entries) (place : Option ℕ) (object : Object) → AreSmall E → AreSmall (added_at E place object)
added_small E None object all = all
added_small E (Some e) object all = small_set E e (Some (opened object)) (omega arith) all

pub all_held_small : (E : Entries) (fds : Descriptors) → AreSmall E → AreSmall (all_held E fds)
all_held_small E fds all e = omega (arith, ap offset_of (entry_at-all_held E fds e), more_offset (Rattle.fd_table.specs.Descriptors.holders_in fds e) (entry_at E e) (all e))

moved_offset : (n : ℕ) (x : Option OpenFile) → offset_of x + n ≤ max_size → offset_of (moved_on n x) ≤ max_size
moved_offset n None small = omega arith
moved_offset n (Some f) small = small

pub advanced_sound : {S : Type 0} (t : Table S) (E : Entries) (e n : ℕ) → offset_of (entry_at E e) + n ≤ max_size → IsSound t E → IsSound t (advanced E e n)
advanced_sound t E e n small sound =
    record {
      counts = advance_kept E e n (tables t) sound.counts;
      slots = sound.slots;
      places = sound.places;
      zombies = sound.zombies;
      offsets = small_set E e (moved_on n (entry_at E e)) (moved_offset n (entry_at E e) small) sound.offsets;
    }

at_offset : (n : ℕ) (x : Option OpenFile) → n ≤ max_size → offset_of (going_on_at n x) ≤ max_size
at_offset n None small = omega arith
at_offset n (Some f) small = small

pub moved_sound : {S : Type 0} (t : Table S) (E : Entries) (e n : ℕ) → n ≤ max_size → IsSound t E → IsSound t (moved_to E e n)
moved_sound t E e n small sound =
    record {
      counts = move_kept E e n (tables t) sound.counts;
      slots = sound.slots;
      places = sound.places;
      zombies = sound.zombies;
      offsets = small_set E e (going_on_at n (entry_at E e)) (at_offset n (entry_at E e) small) sound.offsets;
    }
