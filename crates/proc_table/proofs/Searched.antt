-- What is searched in a table says what is in its slots.
use Rattle.std.proofs.Common.{◌≡◌, ℕ, zero, suc, [], ◌∷◌, Bool, false, Some, None, length, get_or, refl, sym, ap, ◌∙◌, arith}
use Rattle.std.proofs.lemmas.List.{length-map, get_or_default}
use Rattle.std.specs.Prelude.{All, ◌↔◌, map, count_by, position}
use Rattle.slot_lists.proofs.Found.{counted_by, found_by}
use Rattle.proc_table.specs.declared.states.Status.{Status}
use Rattle.proc_table.specs.Slots.{Slot, Table, at, has_status, is_child_of, is_free, is_zombie_child_of}
use Rattle.proc_table.specs.Heads.{head_at, head_has, head_is_child_of, head_is_free, head_is_zombie_child_of, head_of}

has : {S : Type 0} (test : Status → Bool) (x : Slot S) → head_has test (head_of x) ≡ has_status test x
has test None = refl
has test (Some p) = refl

free : {S : Type 0} (x : Slot S) → head_is_free (head_of x) ≡ is_free x
free None = refl
free (Some p) = refl

child : {S : Type 0} (pid : ℕ) (x : Slot S) → head_is_child_of pid (head_of x) ≡ is_child_of pid x
child pid None = refl
child pid (Some p) = refl

zombie_child : {S : Type 0} (pid : ℕ) (x : Slot S) → head_is_zombie_child_of pid (head_of x) ≡ is_zombie_child_of pid x
zombie_child pid None = refl
zombie_child pid (Some p) = refl

-- the head in a slot
pub head_there : {S : Type 0} (t : Table S) (pid : ℕ) → head_at (map head_of t) pid ≡ head_of (at t pid)
head_there [] pid = refl
head_there (x ∷ t) zero = refl
head_there (x ∷ t) (suc pid) = head_there t pid

pub status_there : {S : Type 0} (test : Status → Bool) (t : Table S) (pid : ℕ) → head_has test (head_at (map head_of t) pid) ≡ has_status test (at t pid)
status_there test t pid = ap (head_has test) (head_there t pid) ∙ has test (at t pid)

-- a test of heads that is a test of slots

pub first_free : {S : Type 0} (t : Table S) → position head_is_free (map head_of t) ≡ position is_free t
first_free t = found_by head_of head_is_free is_free free t

pub first_child : {S : Type 0} (pid : ℕ) (t : Table S) → position (head_is_child_of pid) (map head_of t) ≡ position (is_child_of pid) t
first_child pid t = found_by head_of (head_is_child_of pid) (is_child_of pid) (child pid) t

pub first_zombie_child : {S : Type 0} (pid : ℕ) (t : Table S) → position (head_is_zombie_child_of pid) (map head_of t) ≡ position (is_zombie_child_of pid) t
first_zombie_child pid t = found_by head_of (head_is_zombie_child_of pid) (is_zombie_child_of pid) (zombie_child pid) t

pub first_with : {S : Type 0} (test : Status → Bool) (t : Table S) → position (head_has test) (map head_of t) ≡ position (has_status test) t
first_with test t = found_by head_of (head_has test) (has_status test) (has test) t

pub count_free : {S : Type 0} (t : Table S) → count_by head_is_free (map head_of t) ≡ count_by is_free t
count_free t = counted_by head_of head_is_free is_free free t

pub count_with : {S : Type 0} (test : Status → Bool) (t : Table S) → count_by (head_has test) (map head_of t) ≡ count_by (has_status test) t
count_with test t = counted_by head_of (head_has test) (has_status test) (has test) t

-- a hart that nothing runs on

got : {S : Type 0} (t : Table S) (k : ℕ) (d : Slot S) → get_or (map head_of t) k (head_of d) ≡ head_of (get_or t k d)
got [] k d = refl
got (x ∷ t) zero d = refl
got (x ∷ t) (suc k) d = got t k d

pub none_with : {S : Type 0} (test : Status → Bool) (t : Table S) → All (λ head. head_has test head ≡ false) (map head_of t) ↔ All (λ slot. has_status test slot ≡ false) t
none_with test t = (forth, back) where
  forth : All (λ head. head_has test head ≡ false) (map head_of t) → All (λ slot. has_status test slot ≡ false) t
  forth all k d lt = sym (ap (head_has test) (got t k d) ∙ has test (get_or t k d)) ∙ all k (head_of d) (rw (length-map t head_of) lt)

  back : All (λ slot. has_status test slot ≡ false) t → All (λ head. head_has test head ≡ false) (map head_of t)
  back all k d lt =
      let long : length (map head_of t) ≡ length t = length-map t head_of in
      ap (head_has test) (get_or_default (map head_of t) k d None lt ∙ got t k None) ∙ has test (get_or t k None) ∙ all k None (omega arith)
