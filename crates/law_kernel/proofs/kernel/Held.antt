-- An entry is in use exactly while some descriptor holds it; so an end of a pipe is open exactly while some descriptor holds it.
use Rattle.std.proofs.Common.{◌≡◌, ◌⊎◌, ℕ, zero, suc, ◌+◌, ◌<◌, ◌≤◌, List, [], ◌∷◌, Bool, true, false, Option, Some, None, length, get_or, refl, sym, ap, subst, ◌∙◌, arith, inl, inr}
use Rattle.std.proofs.lemmas.Bool.{cases_lt, eqb-true, eq-eqb}
use Rattle.std.proofs.lemmas.List.Sums.{sum_by-cons, get_or-le-sum_by}
use Rattle.std.specs.Prelude.{◌↔◌, IsSome, count_by, sum_by, cond, replicate}
use Rattle.fd_table.specs.declared.names.Object.{Object}
use Rattle.fd_table.specs.declared.descriptors.TheConstants.{DESCRIPTORS}
use Rattle.fd_table.specs.Entries.{OpenFile, IsInUse, entry_at, count_of}
use Rattle.fd_table.specs.Descriptors.{Descriptors, entry_of, is_entry, holders_in}
use Rattle.fd_table.specs.Holders.{holders, HasHolders}
use Rattle.fd_table.proofs.Lists.{within_list}
use Rattle.proc_table.specs.Slots.{Table, Slot, at, tally}
use Rattle.proc_table.proofs.Counts.{used_within}
use Rattle.kernel_model.specs.KernelState.{KernelState, fds_of, fds_at}
use Rattle.kernel_model.specs.Sound.{IsSound, tables}
use Rattle.kernel_model.proofs.Sound.{length-map}
use Rattle.law_kernel.specs.Ends.{has_object}
use Rattle.law_kernel.specs.Held.{IsHeld, HasHolder}

-- ---- what is counted is there

tally_by : {X : Type 0} (p : X → Bool) (x : X) (xs : List X) (b : Bool) → p x ≡ b → count_by p (x ∷ xs) ≡ tally b + count_by p xs
tally_by p x xs true is = omega (arith, sum_by-cons (λ y. cond {A = ℕ} (p y) 1 0) x xs, ap (λ (b : Bool). cond {A = ℕ} b 1 0) is)
tally_by p x xs false is = omega (arith, sum_by-cons (λ y. cond {A = ℕ} (p y) 1 0) x xs, ap (λ (b : Bool). cond {A = ℕ} b 1 0) is)

pub counted_is_there : {X : Type 0} (p : X → Bool) (xs : List X) (d : X) → 1 ≤ count_by p xs → (i : ℕ) × (i < length xs) × (p (get_or xs i d) ≡ true)
counted_is_there p [] d some = absurd (omega arith)
counted_is_there p (x ∷ xs) d some = by (p x) refl (counted_is_there p xs d) where
  by : (b : Bool) → p x ≡ b → (1 ≤ count_by p xs → (i : ℕ) × (i < length xs) × (p (get_or xs i d) ≡ true)) → (i : ℕ) × (i < length (x ∷ xs)) × (p (get_or (x ∷ xs) i d) ≡ true)
  by true is later = (0, omega arith, is)
  by false is later = let found = later (omega (arith, tally_by p x xs false is)) in (suc found.0, omega (arith, found.1), found.2)

pub there_is_counted : {X : Type 0} (p : X → Bool) (xs : List X) (i : ℕ) (d : X) → i < length xs → p (get_or xs i d) ≡ true → 1 ≤ count_by p xs
there_is_counted p [] i d within is = absurd (omega arith)
there_is_counted p (x ∷ xs) zero d within is = omega (arith, tally_by p x xs true is)
there_is_counted p (x ∷ xs) (suc i) d within is = by (p x) refl (there_is_counted p xs i d (omega arith) is) where
  by : (b : Bool) → p x ≡ b → 1 ≤ count_by p xs → 1 ≤ count_by p (x ∷ xs)
  by b same later = omega (arith, tally_by p x xs b same)

-- a sum that isn't nothing has a part that isn't
summed_is_there : {X : Type 0} (f : X → ℕ) (xs : List X) (d : X) → 1 ≤ sum_by f xs → (i : ℕ) × (i < length xs) × (1 ≤ f (get_or xs i d))
summed_is_there f [] d some = absurd (omega arith)
summed_is_there f (x ∷ xs) d some = by (cases_lt (f x) 1) (summed_is_there f xs d) where
  by : (f x < 1) ⊎ (1 ≤ f x) → (1 ≤ sum_by f xs → (i : ℕ) × (i < length xs) × (1 ≤ f (get_or xs i d))) → (i : ℕ) × (i < length (x ∷ xs)) × (1 ≤ f (get_or (x ∷ xs) i d))
  by (inl none) later = let found = later (omega (arith, sum_by-cons f x xs, none, some)) in (suc found.0, omega (arith, found.1), found.2)
  by (inr here) later = (0, omega arith, here)

-- ---- who holds an entry

pub table_of : {S : Type 0} (t : Table S) (pid : ℕ) (d : Descriptors) → pid < length (tables t) → get_or (tables t) pid d ≡ fds_of (at t pid)
table_of [] pid d within = absurd (omega arith)
table_of (x ∷ t) zero d within = refl
table_of (x ∷ t) (suc pid) d within = table_of t pid d (omega arith)

entry_by : (e : ℕ) (o : Option ℕ) → is_entry e o ≡ true → o ≡ Some e
entry_by e None is = absurd (let z : ⊥ = cc in z)
entry_by e (Some other) is = ap Some (sym (eqb-true e other is))

-- no descriptor of a free slot is open
pub none_open : (n fd e : ℕ) → entry_of (replicate n None) fd ≡ Some e → ⊥
none_open zero fd e held = cc
none_open (suc n) zero e held = cc
none_open (suc n) (suc fd) e held = none_open n fd e held

counted_as : (o : Option OpenFile) (n : ℕ) → HasHolders o n → count_of o ≡ n
counted_as None n counts = sym counts
counted_as (Some f) n counts = counts.0

counts_some : (o : Option OpenFile) (n : ℕ) → HasHolders o n → IsSome o → 1 ≤ n
counts_some None n counts some = absurd (let z : ⊥ = cc in z)
counts_some (Some f) n counts some = omega (arith, counts.1)

some_counted : (o : Option OpenFile) (n : ℕ) → HasHolders o n → 1 ≤ n → IsSome o
some_counted None n counts some = absurd (omega (arith, counts, some))
some_counted (Some f) n counts some = refl

-- an entry counts the descriptors that hold it, and is in use exactly while there is one
module _ {S : Type 0} (k : KernelState S) (sound : IsSound k.table k.entries) (e : ℕ) where
  pub counts_holders : count_of (entry_at k.entries e) ≡ holders (tables k.table) e
  counts_holders = counted_as (entry_at k.entries e) (holders (tables k.table) e) (sound.counts e)

  holder_is : 1 ≤ holders (tables k.table) e → HasHolder k e
  holder_is some =
      let p = summed_is_there (λ fds. holders_in fds e) (tables k.table) [] some in
      let fds : 1 ≤ holders_in (fds_at k p.0) e = subst (λ (l : Descriptors). 1 ≤ holders_in l e) (table_of k.table p.0 [] p.1) p.2 in
      let d = counted_is_there (is_entry e) (fds_at k p.0) None fds in
      record { pid = p.0; fd = d.0; holds = entry_by e (entry_of (fds_at k p.0) d.0) d.2 }

  held_counts : (h : HasHolder k e) (x : Slot S) → at k.table h.pid ≡ x → 1 ≤ holders (tables k.table) e
  held_counts h None is = absurd (none_open DESCRIPTORS h.fd e (ap (λ (y : Slot S). entry_of (fds_of y) h.fd) (sym is) ∙ h.holds))
  held_counts h (Some p) is =
      let f : Descriptors → ℕ = λ fds. holders_in fds e in
      let within : h.pid < length (tables k.table) = omega (arith, length-map fds_of k.table, used_within k.table h.pid p is) in
      omega (
        arith,
        get_or-le-sum_by f (tables k.table) h.pid [] within,
        ap f (table_of k.table h.pid [] within),
        there_is_counted (is_entry e) (fds_at k h.pid) h.fd None (within_list (fds_at k h.pid) h.fd e h.holds) (ap (is_entry e) h.holds ∙ eq-eqb e e refl),
      )

  pub used_while_held : IsInUse k.entries e ↔ HasHolder k e
  used_while_held = (
    λ used. holder_is (counts_some (entry_at k.entries e) (holders (tables k.table) e) (sound.counts e) used),
    λ h. some_counted (entry_at k.entries e) (holders (tables k.table) e) (sound.counts e) (held_counts h (at k.table h.pid) refl),
  )

module _ {S : Type 0} (k : KernelState S) (sound : IsSound k.table k.entries) (test : Object → Bool) where
  used_has_holders : (e : ℕ) (o : Option OpenFile) → entry_at k.entries e ≡ o → has_object test o ≡ true → HasHolders o (holders (tables k.table) e) → 1 ≤ holders (tables k.table) e
  used_has_holders e None is has counts = absurd (let z : ⊥ = cc in z)
  used_has_holders e (Some f) is has counts = omega (arith, counts.1)

  -- an object that an entry has open is held
  pub is_held : 1 ≤ count_by (has_object test) k.entries → IsHeld k test
  is_held some =
      let e = counted_is_there (has_object test) k.entries None some in
      let h = holder_is k sound e.0 (used_has_holders e.0 (entry_at k.entries e.0) refl e.2 (sound.counts e.0)) in
      record { pid = h.pid; fd = h.fd; entry = e.0; holds = h.holds; has = e.2 }

  in_use : (e : ℕ) (o : Option OpenFile) → entry_at k.entries e ≡ o → has_object test o ≡ true → e < length k.entries
  in_use e None is has = absurd (let z : ⊥ = cc in z)
  in_use e (Some f) is has = within_list k.entries e f is

  -- and what is held, an entry has open
  pub has_one : IsHeld k test → 1 ≤ count_by (has_object test) k.entries
  has_one h = there_is_counted (has_object test) k.entries h.entry None (in_use h.entry (entry_at k.entries h.entry) refl h.has) h.has

  -- so where entries and ends are in step, an end is open exactly while it is held
  pub open_while_held : (end : Bool) → count_by (has_object test) k.entries ≡ tally end → (end ≡ true) ↔ IsHeld k test
  open_while_held true count = (λ _. is_held (omega (arith, count)), λ _. refl)
  open_while_held false count = (λ no. absurd (let z : ⊥ = cc in z), λ h. absurd (omega (arith, count, has_one h)))
