-- Each call keeps that an entry counts the descriptors that hold it.
use Rattle.std.proofs.Common.{◌≡◌, ◌≢◌, ℕ, zero, suc, ◌+◌, ◌-◌, ◌*◌, ◌<◌, ◌≤◌, List, [], ◌∷◌, ◌++◌, Bool, true, false, Option, Some, None, length, get_or, refl, sym, ap, arith, rules, subst, get_or-set_other, get_or-set_same}
use Rattle.std.proofs.Math.ListN.{set, length-set}
use Rattle.std.proofs.lemmas.List.Sums.{sum_by-append, sum_by-cons, sum_by-set, count_by-le-length}
use Rattle.std.proofs.lemmas.List.{get_or_default}
use Rattle.std.proofs.lemmas.List.Folds.{sum_by-replicate}
use Rattle.std.proofs.lemmas.List.Sorted.{sum_by-IsPermutation}
use Rattle.std.proofs.lemmas.Bool.{eqb-true, eqb-false, eq-eqb, leb-true, leb-false}
use Rattle.std.specs.Prelude.{IsSome, IsPermutation, All, ◌==◌, nat_le, cond, replicate, ◌↔◌, if◌then◌else◌}
use Rattle.fd_table.specs.declared.names.Object.{Object}
use Rattle.fd_table.specs.Entries.{Entries, OpenFile, entry_at, IsInUse, is_free, count_of, opened, lowest_free_entry, added, added_at, more_held, held, less_held, last_object, released, moved_on, advanced, going_on_at, moved_to}
use Rattle.fd_table.specs.Descriptors.{Descriptors, entry_of, lowest_free, installed, installed_at, without, is_entry, holders_in, after_dup, held_by_dup, after_close, released_by_close, all_held, HoldsInUse}
use Rattle.fd_table.specs.Holders.{holders, HasHolders, CountHolders}
use Rattle.fd_table.proofs.Lists.{position_found, within_list}
use Rattle.fd_table.proofs.Holding.{entry_at-all_held}

-- ---- one entry

has_holders_along : (x y : Option OpenFile) (n m : ℕ) → x ≡ y → n ≡ m → HasHolders x n → HasHolders y m
has_holders_along x y n m same equal has =
    let P : Option OpenFile → Type 0 = λ z. HasHolders z m in
    let Q : ℕ → Type 0 = λ k. HasHolders x k in
    subst P same (subst Q equal has)

more_have : (k : ℕ) (x : Option OpenFile) (n : ℕ) → (0 < k → IsSome x) → HasHolders x n → HasHolders (more_held k x) (n + k)
more_have zero None n some has = omega arith
more_have (suc k) None n some has = absurd (let no : ⊥ = search (rules, some (omega arith)) in no)
more_have k (Some f) n some has = (omega arith, omega arith)

less_have_by : (f : OpenFile) (n : ℕ) (last : Bool) → nat_le f.count 1 ≡ last → f.count ≡ n + 1 → HasHolders (if last then None else Some (record { object = f.object; count = f.count - 1; offset = f.offset })) n
less_have_by f n true is has = omega (arith, leb-true f.count 1 is)
less_have_by f n false is has = (omega arith, omega (arith, leb-false f.count 1 is))

less_have : (x : Option OpenFile) (n : ℕ) → HasHolders x (n + 1) → HasHolders (less_held x) n
less_have None n has = absurd (omega arith)
less_have (Some f) n has = less_have_by f n (nat_le f.count 1) refl has.0

last_by : (f : OpenFile) (n : ℕ) (last : Bool) → nat_le f.count 1 ≡ last → f.count ≡ n + 1 → IsSome (if last then Some f.object else None) ↔ (n ≡ 0)
last_by f n true is has = (λ _. omega (arith, leb-true f.count 1 is), λ _. refl)
last_by f n false is has = (λ some. absurd (let no : ⊥ = cc in no), λ none. absurd (omega (arith, leb-false f.count 1 is)))

-- of n + 1 holders the last gives the object back
last_has : (x : Option OpenFile) (n : ℕ) → HasHolders x (n + 1) → IsSome (last_object x) ↔ (n ≡ 0)
last_has None n has = absurd (omega arith)
last_has (Some f) n has = last_by f n (nat_le f.count 1) refl has.0

used_if_held : (x : Option OpenFile) (n : ℕ) → 0 < n → HasHolders x n → IsSome x
used_if_held None n some has = absurd (omega arith)
used_if_held (Some f) n some has = refl

-- ---- one table among others

-- the holders in the table and in the others
holders-among : (before after : List Descriptors) (fds : Descriptors) (e : ℕ) → holders (before ++ fds ∷ after) e ≡ holders_in fds e + holders (before ++ after) e
holders-among before after fds e =
    let f : Descriptors → ℕ = λ table. holders_in table e in
    omega (arith, sum_by-append f before (fds ∷ after), sum_by-cons f fds after, sum_by-append f before after)

-- a table after a write to one of its places
holders_in-set : (fds : Descriptors) (fd : ℕ) (place : Option ℕ) (e : ℕ) → fd < length fds → holders_in (set fds fd place) e + cond (is_entry e (get_or fds fd None)) 1 0 ≡ holders_in fds e + cond (is_entry e place) 1 0
holders_in-set fds fd place e within = sum_by-set (λ x. cond {A = ℕ} (is_entry e x) 1 0) fds fd place None within

pub free_is_none : {X : Type 0} (x : Option X) → is_free x ≡ true → x ≡ None
free_is_none None free = refl
free_is_none (Some x) free = absurd (let no : ⊥ = cc in no)

-- one more descriptor, at the lowest free place, holds e
holders_in-installed : (fds : Descriptors) (fd e i : ℕ) → lowest_free fds ≡ Some fd → holders_in (set fds fd (Some e)) i ≡ holders_in fds i + cond (i == e) 1 0
holders_in-installed fds fd e i found =
    let place : (fd < length fds) × (is_free (get_or fds fd None) ≡ true) = position_found is_free fds None fd found in
    let none : ◌≡◌ {A = ℕ} (cond (is_entry i (get_or fds fd None)) 1 0) 0 =
    ap (λ (x : Option ℕ). cond {A = ℕ} (is_entry i x) 1 0) (free_is_none (get_or fds fd None) place.1) in
    omega (arith, holders_in-set fds fd (Some e) i place.0, none)

-- one descriptor less holds e
holders_in-without : (fds : Descriptors) (fd e i : ℕ) → entry_of fds fd ≡ Some e → holders_in (set fds fd None) i + cond (i == e) 1 0 ≡ holders_in fds i
holders_in-without fds fd e i is =
    let one : ◌≡◌ {A = ℕ} (cond (is_entry i (get_or fds fd None)) 1 0) (cond (i == e) 1 0) =
    ap (λ (x : Option ℕ). cond {A = ℕ} (is_entry i x) 1 0) is in
    omega (arith, holders_in-set fds fd None i (within_list fds fd e is), one)

entry_at-set_mine : (f : Option OpenFile → Option OpenFile) (t : Entries) (e : ℕ) → f None ≡ None → entry_at (set t e (f (entry_at t e))) e ≡ f (entry_at t e)
entry_at-set_mine f [] e none = sym none
entry_at-set_mine f (x ∷ t) zero none = refl
entry_at-set_mine f (x ∷ t) (suc e) none = entry_at-set_mine f t e none

-- to show that counts are right after a write to the entry e: there, and at each other entry
by_entry : (t : Entries) (e : ℕ) (x : Option OpenFile) (old new : List Descriptors) → HasHolders (entry_at (set t e x) e) (holders new e) → ((i : ℕ) → i ≢ e → holders old i ≡ holders new i) → CountHolders t old → CountHolders (set t e x) new
by_entry t e x old new mine others counts i = go (i == e) refl where
  go : (b : Bool) → (i == e) ≡ b → HasHolders (entry_at (set t e x) i) (holders new i)
  go true b =
      let P : ℕ → Type 0 = λ j. HasHolders (entry_at (set t e x) j) (holders new j) in
      subst P (sym (eqb-true i e b)) mine
  go false b =
      let ne : i ≢ e = eqb-false i e b in
      has_holders_along (entry_at t i) (entry_at (set t e x) i) (holders old i) (holders new i) (sym (get_or-set_other t e i x None ne)) (others i ne) (counts i)

not_equal : (i e : ℕ) (b : Bool) → (i == e) ≡ b → i ≢ e → ◌≡◌ {A = ℕ} (cond (i == e) 1 0) 0
not_equal i e true is ne = absurd (ne (eqb-true i e is))
not_equal i e false is ne = ap (λ (b : Bool). cond {A = ℕ} b 1 0) is

equal : (e : ℕ) → ◌≡◌ {A = ℕ} (cond (e == e) 1 0) 1
equal e = ap (λ (b : Bool). cond {A = ℕ} b 1 0) (eq-eqb e e refl)

module _ (t : Entries) (before after : List Descriptors) (fds : Descriptors) where
  -- one descriptor more
  more_holders : (fd e i : ℕ) → lowest_free fds ≡ Some fd → holders (before ++ set fds fd (Some e) ∷ after) i ≡ holders (before ++ fds ∷ after) i + cond (i == e) 1 0
  more_holders fd e i found =
      omega (arith, holders-among before after fds i, holders-among before after (set fds fd (Some e)) i, holders_in-installed fds fd e i found)

  -- one descriptor less
  fewer_holders : (fd e i : ℕ) → entry_of fds fd ≡ Some e → holders (before ++ set fds fd None ∷ after) i + cond (i == e) 1 0 ≡ holders (before ++ fds ∷ after) i
  fewer_holders fd e i is =
      omega (arith, holders-among before after fds i, holders-among before after (set fds fd None) i, holders_in-without fds fd e i is)

  add_at : (e fd : ℕ) (object : Object) → lowest_free_entry t ≡ Some e → lowest_free fds ≡ Some fd → CountHolders t (before ++ fds ∷ after) → CountHolders (set t e (Some (opened object))) (before ++ set fds fd (Some e) ∷ after)
  add_at e fd object free found counts =
      let place : (e < length t) × (is_free (entry_at t e) ≡ true) = position_found is_free t None e free in
      let nobody : holders (before ++ fds ∷ after) e ≡ 0 =
      has_holders_along (entry_at t e) None (holders (before ++ fds ∷ after) e) (holders (before ++ fds ∷ after) e) (free_is_none (entry_at t e) place.1) refl (counts e) in
      by_entry t e (Some (opened object)) (before ++ fds ∷ after) (before ++ set fds fd (Some e) ∷ after)
      (has_holders_along (Some (opened object)) (entry_at (set t e (Some (opened object))) e) 1 (holders (before ++ set fds fd (Some e) ∷ after) e)
      (sym (get_or-set_same t e (Some (opened object)) None place.0))
      (omega (arith, more_holders fd e e found, equal e, nobody))
      (refl, omega arith))
      (λ i ne. omega (arith, more_holders fd e i found, not_equal i e (i == e) refl ne))
      counts

  hold_at : (e fd : ℕ) → IsInUse t e → lowest_free fds ≡ Some fd → CountHolders t (before ++ fds ∷ after) → CountHolders (held t e) (before ++ set fds fd (Some e) ∷ after)
  hold_at e fd used found counts =
      by_entry t e (more_held 1 (entry_at t e)) (before ++ fds ∷ after) (before ++ set fds fd (Some e) ∷ after)
      (has_holders_along (more_held 1 (entry_at t e)) (entry_at (held t e) e) (holders (before ++ fds ∷ after) e + 1) (holders (before ++ set fds fd (Some e) ∷ after) e)
      (sym (entry_at-set_mine (more_held 1) t e refl))
      (omega (arith, more_holders fd e e found, equal e))
      (more_have 1 (entry_at t e) (holders (before ++ fds ∷ after) e) (λ _. used) (counts e)))
      (λ i ne. omega (arith, more_holders fd e i found, not_equal i e (i == e) refl ne))
      counts

  release_at : (fd e : ℕ) → entry_of fds fd ≡ Some e → CountHolders t (before ++ fds ∷ after) → CountHolders (released t e) (before ++ set fds fd None ∷ after)
  release_at fd e is counts =
      by_entry t e (less_held (entry_at t e)) (before ++ fds ∷ after) (before ++ set fds fd None ∷ after)
      (has_holders_along (less_held (entry_at t e)) (entry_at (released t e) e) (holders (before ++ set fds fd None ∷ after) e) (holders (before ++ set fds fd None ∷ after) e)
      (sym (entry_at-set_mine less_held t e refl)) refl
      (less_have (entry_at t e) (holders (before ++ set fds fd None ∷ after) e)
      (has_holders_along (entry_at t e) (entry_at t e) (holders (before ++ fds ∷ after) e) (holders (before ++ set fds fd None ∷ after) e + 1) refl (omega (arith, fewer_holders fd e e is, equal e)) (counts e))))
      (λ i ne. omega (arith, fewer_holders fd e i is, not_equal i e (i == e) refl ne))
      counts

  -- a release gives the object back where no other descriptor holds it
  pub last_gives : (fd e : ℕ) → entry_of fds fd ≡ Some e → CountHolders t (before ++ fds ∷ after) → IsSome (last_object (entry_at t e)) ↔ (holders (before ++ without fds fd ∷ after) e ≡ 0)
  last_gives fd e is counts =
      last_has (entry_at t e) (holders (before ++ set fds fd None ∷ after) e)
      (has_holders_along (entry_at t e) (entry_at t e) (holders (before ++ fds ∷ after) e) (holders (before ++ set fds fd None ∷ after) e + 1) refl (omega (arith, fewer_holders fd e e is, equal e)) (counts e))

  -- an entry that a descriptor of the table holds is in use
  used_by : (fd e : ℕ) → entry_of fds fd ≡ Some e → CountHolders t (before ++ fds ∷ after) → IsInUse t e
  used_by fd e is counts =
      used_if_held (entry_at t e) (holders (before ++ fds ∷ after) e) (omega (arith, fewer_holders fd e e is, equal e)) (counts e)

  add_by : (e : ℕ) (object : Object) (place : Option ℕ) → lowest_free fds ≡ place → IsSome place → lowest_free_entry t ≡ Some e → CountHolders t (before ++ fds ∷ after) → CountHolders (added_at t (Some e) object) (before ++ installed_at fds place e ∷ after)
  add_by e object None is some free counts = absurd (let no : ⊥ = cc in no)
  add_by e object (Some fd) is some free counts = add_at e fd object free is counts

  pub add_kept : (e : ℕ) (object : Object) → lowest_free_entry t ≡ Some e → IsSome (lowest_free fds) → CountHolders t (before ++ fds ∷ after) → CountHolders (added t object) (before ++ installed fds e ∷ after)
  add_kept e object free some counts =
      let P : Option ℕ → Type 0 = λ entry. CountHolders (added_at t entry object) (before ++ installed fds e ∷ after) in
      subst P (sym free) (add_by e object (lowest_free fds) refl some free counts)

  hold_by : (e : ℕ) (place : Option ℕ) → lowest_free fds ≡ place → IsSome place → IsInUse t e → CountHolders t (before ++ fds ∷ after) → CountHolders (held t e) (before ++ installed_at fds place e ∷ after)
  hold_by e None is some used counts = absurd (let no : ⊥ = cc in no)
  hold_by e (Some fd) is some used counts = hold_at e fd used is counts

  pub hold_kept : (e : ℕ) → IsInUse t e → IsSome (lowest_free fds) → CountHolders t (before ++ fds ∷ after) → CountHolders (held t e) (before ++ installed fds e ∷ after)
  hold_kept e used some counts = hold_by e (lowest_free fds) refl some used counts

  pub release_kept : (fd e : ℕ) → entry_of fds fd ≡ Some e → CountHolders t (before ++ fds ∷ after) → CountHolders (released t e) (before ++ without fds fd ∷ after)
  release_kept = release_at

  dup_by : (entry place : Option ℕ) (fd : ℕ) → entry_of fds fd ≡ entry → lowest_free fds ≡ place → CountHolders t (before ++ fds ∷ after) → CountHolders (held_by_dup t entry place) (before ++ after_dup fds entry place ∷ after)
  dup_by None place fd is found counts = counts
  dup_by (Some e) None fd is found counts = counts
  dup_by (Some e) (Some place) fd is found counts = hold_at e place (used_by fd e is counts) found counts

  pub dup_kept : (fd : ℕ) → CountHolders t (before ++ fds ∷ after) → CountHolders (held_by_dup t (entry_of fds fd) (lowest_free fds)) (before ++ after_dup fds (entry_of fds fd) (lowest_free fds) ∷ after)
  dup_kept fd = dup_by (entry_of fds fd) (lowest_free fds) fd refl refl

  close_by : (entry : Option ℕ) (fd : ℕ) → entry_of fds fd ≡ entry → CountHolders t (before ++ fds ∷ after) → CountHolders (released_by_close t entry) (before ++ after_close fds fd entry ∷ after)
  close_by None fd is counts = counts
  close_by (Some e) fd is counts = release_at fd e is counts

  pub close_kept : (fd : ℕ) → CountHolders t (before ++ fds ∷ after) → CountHolders (released_by_close t (entry_of fds fd)) (before ++ after_close fds fd (entry_of fds fd) ∷ after)
  close_kept fd = close_by (entry_of fds fd) fd refl

  holds_in_use : CountHolders t (before ++ fds ∷ after) → (k : ℕ) (x : Option ℕ) → entry_of fds k ≡ x → HoldsInUse t x
  holds_in_use counts k None is = tt
  holds_in_use counts k (Some e) is = used_by k e is counts

  -- the entries that a counted table holds are in use
  pub in_use_if_counted : CountHolders t (before ++ fds ∷ after) → All (HoldsInUse t) fds
  in_use_if_counted counts = λ k d within. holds_in_use counts k (get_or fds k d) (get_or_default fds k None d within)

-- ---- a copy of a table

in_use_if_held : (t : Entries) (fds : Descriptors) (e : ℕ) → All (HoldsInUse t) fds → 0 < holders_in fds e → IsInUse t e
in_use_if_held t [] e all some = absurd (omega arith)
in_use_if_held t (None ∷ fds) e all some =
    in_use_if_held t fds e (λ k d within. all (suc k) d (omega arith)) (omega (arith, sum_by-cons (λ x. cond {A = ℕ} (is_entry e x) 1 0) None fds))
in_use_if_held t (Some other ∷ fds) e all some =
    by (e == other) refl (in_use_if_held t fds e (λ k d within. all (suc k) d (omega arith))) where
      by : (b : Bool) → (e == other) ≡ b → (0 < holders_in fds e → IsInUse t e) → IsInUse t e
      by true is later =
          let P : ℕ → Type 0 = λ k. IsInUse t k in
          subst P (sym (eqb-true e other is)) (all 0 None (omega arith))
      by false is later =
          let none : ◌≡◌ {A = ℕ} (cond (e == other) 1 0) 0 = ap (λ (b : Bool). cond {A = ℕ} b 1 0) is in
          later (omega (arith, none, sum_by-cons (λ x. cond {A = ℕ} (is_entry e x) 1 0) (Some other) fds))

pub fork_kept : (t : Entries) (fds : Descriptors) (before after : List Descriptors) → All (HoldsInUse t) fds → CountHolders t (before ++ after) → CountHolders (all_held t fds) (before ++ fds ∷ after)
fork_kept t fds before after all counts = λ e.
    has_holders_along (more_held (holders_in fds e) (entry_at t e)) (entry_at (all_held t fds) e) (holders (before ++ after) e + holders_in fds e) (holders (before ++ fds ∷ after) e)
    (sym (entry_at-all_held t fds e))
    (omega (arith, holders-among before after fds e))
    (more_have (holders_in fds e) (entry_at t e) (holders (before ++ after) e) (in_use_if_held t fds e all) (counts e))

-- ---- what changes no count

moved_has : (k n : ℕ) (x : Option OpenFile) → HasHolders x n → HasHolders (moved_on k x) n
moved_has k n None has = has
moved_has k n (Some f) has = has

pub advance_kept : (t : Entries) (e n : ℕ) (tables : List Descriptors) → CountHolders t tables → CountHolders (advanced t e n) tables
advance_kept t e n tables counts =
    by_entry t e (moved_on n (entry_at t e)) tables tables
    (has_holders_along (moved_on n (entry_at t e)) (entry_at (advanced t e n) e) (holders tables e) (holders tables e) (sym (entry_at-set_mine (moved_on n) t e refl)) refl (moved_has n (holders tables e) (entry_at t e) (counts e)))
    (λ i ne. refl) counts

at_has : (n m : ℕ) (x : Option OpenFile) → HasHolders x m → HasHolders (going_on_at n x) m
at_has n m None has = has
at_has n m (Some f) has = has

pub move_kept : (t : Entries) (e n : ℕ) (tables : List Descriptors) → CountHolders t tables → CountHolders (moved_to t e n) tables
move_kept t e n tables counts =
    by_entry t e (going_on_at n (entry_at t e)) tables tables
    (has_holders_along (going_on_at n (entry_at t e)) (entry_at (moved_to t e n) e) (holders tables e) (holders tables e) (sym (entry_at-set_mine (going_on_at n) t e refl)) refl (at_has n (holders tables e) (entry_at t e) (counts e)))
    (λ i ne. refl) counts

all_free : (n e : ℕ) → entry_at (replicate n None) e ≡ None
all_free zero e = refl
all_free (suc n) zero = refl
all_free (suc n) (suc e) = all_free n e

pub new_counted : (n : ℕ) → CountHolders (replicate n None) []
new_counted n = λ e. has_holders_along None (entry_at (replicate n None) e) 0 (holders [] e) (sym (all_free n e)) refl refl

pub order_kept : (t : Entries) (tables others : List Descriptors) → IsPermutation tables others → CountHolders t tables → CountHolders t others
order_kept t tables others moved counts = λ e.
    has_holders_along (entry_at t e) (entry_at t e) (holders tables e) (holders others e) refl (sym (sum_by-IsPermutation (λ fds. holders_in fds e) tables others moved)) (counts e)

-- a table with no open descriptor
holders_in-closed : (n e : ℕ) → holders_in (replicate n None) e ≡ 0
holders_in-closed n e = omega (arith, sum_by-replicate (λ x. cond {A = ℕ} (is_entry e x) 1 0) n None)

pub closed_table_counted : (t : Entries) (n : ℕ) (before after : List Descriptors) → CountHolders t (before ++ after) → CountHolders t (before ++ replicate n None ∷ after)
closed_table_counted t n before after counts = λ e.
    has_holders_along (entry_at t e) (entry_at t e) (holders (before ++ after) e) (holders (before ++ replicate n None ∷ after) e) refl (omega (arith, holders-among before after (replicate n None) e, holders_in-closed n e)) (counts e)

pub closed_table_not_counted : (t : Entries) (n : ℕ) (before after : List Descriptors) → CountHolders t (before ++ replicate n None ∷ after) → CountHolders t (before ++ after)
closed_table_not_counted t n before after counts = λ e.
    has_holders_along (entry_at t e) (entry_at t e) (holders (before ++ replicate n None ∷ after) e) (holders (before ++ after) e) refl (omega (arith, holders-among before after (replicate n None) e, holders_in-closed n e)) (counts e)

-- ---- what right counts give

-- no more descriptors hold an entry than n for each table
holders_few : (n : ℕ) (tables : List Descriptors) (e : ℕ) → All (λ fds. length fds ≡ n) tables → holders tables e ≤ n * length tables
holders_few n [] e long = omega arith
holders_few n (fds ∷ tables) e long =
    omega (arith, long 0 [] (omega arith), count_by-le-length (is_entry e) fds, sum_by-cons (λ table. holders_in table e) fds tables, holders_few n tables e (λ k d within. long (suc k) d (omega arith)))

count_few : (x : Option OpenFile) (n : ℕ) → HasHolders x n → count_of x ≤ n
count_few None n has = omega arith
count_few (Some f) n has = omega arith

pub counts_few : (t : Entries) (n : ℕ) (tables : List Descriptors) → All (λ fds. length fds ≡ n) tables → CountHolders t tables → (e : ℕ) → count_of (entry_at t e) ≤ n * length tables
counts_few t n tables long counts e = omega (arith, count_few (entry_at t e) (holders tables e) (counts e), holders_few n tables e long)

-- a new entry counts one
pub added_few : (t : Entries) (place : Option ℕ) (object : Object) (most : ℕ) → 1 ≤ most → ((i : ℕ) → count_of (entry_at t i) ≤ most) → (i : ℕ) → count_of (entry_at (added_at t place object) i) ≤ most
added_few t None object most one few i = few i
added_few [] (Some e) object most one few i = few i
added_few (x ∷ t) (Some zero) object most one few zero = one
added_few (x ∷ t) (Some zero) object most one few (suc i) = few (suc i)
added_few (x ∷ t) (Some (suc e)) object most one few zero = few 0
added_few (x ∷ t) (Some (suc e)) object most one few (suc i) = added_few t (Some e) object most one (λ k. few (suc k)) i

pub new_few : (n e : ℕ) → count_of (entry_at (replicate n None) e) ≡ 0
new_few n e = ap count_of (all_free n e)

pub length-installed_at : (fds : Descriptors) (place : Option ℕ) (e : ℕ) → length (installed_at fds place e) ≡ length fds
length-installed_at fds None e = refl
length-installed_at fds (Some place) e = length-set fds place (Some e)
