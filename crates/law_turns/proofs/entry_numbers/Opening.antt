-- An open takes the lowest free entry, which may have another number in each of two kernels: they are the same but for numbers again.
use Rattle.std.proofs.Common.{◌≡◌, ◌≢◌, ◌⊎◌, ℕ, ◌+◌, ◌<◌, Bool, Option, Some, None, length, subst, inl, inr, refl, sym, ap, ◌∙◌, arith, get_or-set_other, get_or-set_same}
use Rattle.std.proofs.Math.ListN.{set}
use Rattle.std.proofs.lemmas.Bool.{cases_eq, eq-eqb, ne_eqb}
use Rattle.std.proofs.lemmas.List.Sums.{sum_by-set}
use Rattle.std.specs.Prelude.{cond, IsSome, ◌==◌, if◌then◌else◌}
use Rattle.fd_table.specs.declared.names.Object.{Object}
use Rattle.fd_table.specs.Entries.{OpenFile, Entries, entry_at, is_free, free_count, lowest_free_entry, added_at, opened}
use Rattle.fd_table.specs.Descriptors.{installed}
use Rattle.fd_table.specs.Holders.{CountHolders, HasHolders, holders}
use Rattle.fd_table.proofs.Counting.{free_is_none}
use Rattle.fd_table.proofs.Free.{found}
use Rattle.fd_table.proofs.Lists.{position_found}
use Rattle.proc_table.specs.Slots.{at}
use Rattle.proc_table.specs.Calls.{fds_set}
use Rattle.kernel_model.specs.KernelState.{KernelState, fds_of, fds_at}
use Rattle.kernel_model.specs.Sound.{tables}
use Rattle.kernel_model.specs.Descriptors.{opened_at, with_open}
use Rattle.kernel_model.specs.Numbers.{Numbering, AreRenumbered, SameButNumbers, renumbered, renumbered_table}
use Rattle.law_turns.proofs.entry_numbers.Numberings.{followed_by}
use Rattle.law_turns.proofs.entry_numbers.Tables.{fds_installed, fds_table, table_fds, table_agree}

-- ---- two numbers change places

abbrev swapped : ℕ → ℕ → ℕ → ℕ
swapped b c e = if e == b then c else (if e == c then b else e)

module _ (b c : ℕ) where
  the_first : swapped b c b ≡ c
  the_first = ap (λ (r : Bool). if r then c else (if b == c then b else b)) (eq-eqb b b refl)

  another : (e : ℕ) → e ≢ b → e ≢ c → swapped b c e ≡ e
  another e one two = ap (λ (r : Bool). if r then c else (if e == c then b else e)) (ne_eqb e b one) ∙ ap (λ (r : Bool). if r then b else e) (ne_eqb e c two)

  the_second : swapped b c c ≡ b
  the_second = by (cases_eq c b) where
    by : (c ≡ b) ⊎ (c ≢ b) → swapped b c c ≡ b
    by (inl is) = ap (swapped b c) is ∙ the_first ∙ is
    by (inr ne) = ap (λ (r : Bool). if r then c else (if c == c then b else c)) (ne_eqb c b ne) ∙ ap (λ (r : Bool). if r then b else c) (eq-eqb c c refl)

  twice : (e : ℕ) → swapped b c (swapped b c e) ≡ e
  twice e = by (cases_eq e b) (cases_eq e c) where
    by : (e ≡ b) ⊎ (e ≢ b) → (e ≡ c) ⊎ (e ≢ c) → swapped b c (swapped b c e) ≡ e
    by (inl is) other = (λ i. swapped b c (swapped b c (is i))) ∙ ap (swapped b c) the_first ∙ the_second ∙ sym is
    by (inr ne) (inl is) = (λ i. swapped b c (swapped b c (is i))) ∙ ap (swapped b c) the_second ∙ the_first ∙ sym is
    by (inr ne) (inr apart) = ap (swapped b c) (another e ne apart) ∙ another e ne apart

  abbrev swap : Numbering
  swap = record { to = swapped b c; back = swapped b c; there = twice; here = twice }

-- ---- the entries

-- a free entry has no holder
no_holder : (x : Option OpenFile) (m : ℕ) → HasHolders x m → x ≡ None → 0 < m → ⊥
no_holder None m has is some = omega (arith, has, some)
no_holder (Some f) m has is some = let z : ⊥ = cc in z

-- there is an entry of this number, and it is free
pub record IsFreeAt (t : Entries) (e : ℕ) : Type 0 where
  pub within : e < length t
  pub free : entry_at t e ≡ None

pub lowest_is_free : (t : Entries) (e : ℕ) → lowest_free_entry t ≡ Some e → IsFreeAt t e
lowest_is_free t e is = let f = position_found is_free t None e is in record { within = f.0; free = free_is_none (entry_at t e) f.1 }

-- where an entry is free in one there is one in the other
found_in_both : (t u : Entries) (e : ℕ) → free_count t ≡ free_count u → lowest_free_entry t ≡ Some e → lowest_free_entry u ≡ None → ⊥
found_in_both t u e same is none =
    let here : IsSome (lowest_free_entry t) = cc in
    let counted : 0 < free_count t = (found is_free t).0 here in
    let there : IsSome (lowest_free_entry u) = (found is_free u).1 (omega (arith, counted, same)) in
    let z : ⊥ = cc in z

-- one less is free
pub taken : (t : Entries) (e : ℕ) (f : OpenFile) → IsFreeAt t e → free_count (set t e (Some f)) + 1 ≡ free_count t
taken t e f at_e =
    omega (arith, sum_by-set (λ (x : Option OpenFile). cond {A = ℕ} (is_free x) 1 0) t e (Some f) None at_e.within, ap (λ (x : Option OpenFile). cond {A = ℕ} (is_free x) 1 0) at_e.free)

module _ (n : Numbering) (t u : Entries) (are : AreRenumbered n t u) (a b : ℕ) (free_a : IsFreeAt t a) (free_b : IsFreeAt u b) where
  -- the number of the new entry becomes that of the other new entry, whose own becomes what the first one's was
  abbrev exchanged : Numbering
  exchanged = followed_by n (swap (n.to a) b)

  as_before : (e : ℕ) → e ≢ a → n.to e ≢ b → exchanged.to e ≡ n.to e
  as_before e ne apart = another (n.to a) b (n.to e) (λ is. ne (sym (n.there e) ∙ ap n.back is ∙ n.there a)) apart

  -- an entry in use keeps its number
  keeps_number : (e : ℕ) → (entry_at t e ≡ None → ⊥) → exchanged.to e ≡ n.to e
  keeps_number e used = as_before e (λ is. used (ap (entry_at t) is ∙ free_a.free)) (λ is. used (sym (are.same e) ∙ ap (entry_at u) is ∙ free_b.free))

  set_so : (f : OpenFile) → AreRenumbered exchanged (set t a (Some f)) (set u b (Some f))
  set_so f = record { same = λ e. same e (cases_eq e a) (cases_eq (n.to e) b); free = omega (arith, taken t a f free_a, taken u b f free_b, are.free) } where
    same : (e : ℕ) → (e ≡ a) ⊎ (e ≢ a) → (n.to e ≡ b) ⊎ (n.to e ≢ b) → entry_at (set u b (Some f)) (exchanged.to e) ≡ entry_at (set t a (Some f)) e
    same e (inl is) other =
        ap (entry_at (set u b (Some f))) (ap exchanged.to is ∙ the_first (n.to a) b) ∙ get_or-set_same u b (Some f) None free_b.within ∙ sym (get_or-set_same t a (Some f) None free_a.within) ∙
        ap (entry_at (set t a (Some f))) (sym is)
    same e (inr ne) (inl is) =
        let elsewhere : n.to a ≢ b = λ q. ne (sym (n.there e) ∙ ap n.back (is ∙ sym q) ∙ n.there a) in
        ap (entry_at (set u b (Some f))) (ap (swapped (n.to a) b) is ∙ the_second (n.to a) b) ∙ get_or-set_other u b (n.to a) (Some f) None elsewhere ∙ are.same a ∙ free_a.free ∙
        sym free_b.free ∙ ap (entry_at u) (sym is) ∙ are.same e ∙ sym (get_or-set_other t a e (Some f) None ne)
    same e (inr ne) (inr apart) =
        ap (entry_at (set u b (Some f))) (as_before e ne apart) ∙ get_or-set_other u b (n.to e) (Some f) None apart ∙ are.same e ∙ sym (get_or-set_other t a e (Some f) None ne)

-- ---- the kernel

-- the kernel after pid opened the object at this entry, and its lowest free descriptor
abbrev pub opened_there : {S : Type 0} → KernelState S → ℕ → Object → ℕ → KernelState S
opened_there k pid object e = record k { table = fds_set k.table pid (installed (fds_at k pid) e); entries = set k.entries e (Some (opened object)) }

pub opens_there : {S : Type 0} (k : KernelState S) (pid : ℕ) (object : Object) (e : ℕ) → lowest_free_entry k.entries ≡ Some e → with_open k pid object ≡ opened_there k pid object e
opens_there k pid object e is = (λ i. opened_at k pid object (is i)) ∙ (λ i. record (opened_there k pid object e) { entries = added_at k.entries (is i) object })

module _ {S : Type 0} (n : Numbering) (k : KernelState S) (E : Entries) (are : AreRenumbered n k.entries E) (counts : CountHolders k.entries (tables k.table)) (pid : ℕ) (object : Object) where
  abbrev l : KernelState S
  l = renumbered n.to E k

  -- any free entry of each is taken
  pub opened_so : (a b : ℕ) → IsFreeAt k.entries a → IsFreeAt E b → SameButNumbers (opened_there k pid object a) (opened_there l pid object b)
  opened_so a b free_a free_b =
      let m = exchanged n k.entries E are a b free_a free_b in
      let fds = fds_at k pid in
      let agree : renumbered_table m.to k.table ≡ renumbered_table n.to k.table =
      table_agree m.to n.to k.table (λ e some. keeps_number n k.entries E are a b free_a free_b e (λ none. no_holder (entry_at k.entries e) (holders (tables k.table) e) (counts e) none some)) in
      let new : m.to a ≡ b = the_first (n.to a) b in
      let table : renumbered_table m.to (fds_set k.table pid (installed fds a)) ≡ fds_set l.table pid (installed (fds_at l pid) b) =
      sym (fds_table m.to k.table pid (installed fds a)) ∙
      ap (fds_set (renumbered_table m.to k.table) pid) (sym (fds_installed m.to fds a) ∙ (λ i. installed (sym (table_fds m.to k.table pid) i) (new i))) ∙
      (λ i. fds_set (agree i) pid (installed (fds_of (at (agree i) pid)) b)) in
      record {
        numbering = m;
        is = record {
          entries = set_so n k.entries E are a b free_a free_b (opened object);
          rest = λ i. record k { table = table i; entries = set E b (Some (opened object)) };
        };
      }

  opened_by : (o p : Option ℕ) → lowest_free_entry k.entries ≡ o → lowest_free_entry E ≡ p → SameButNumbers (with_open k pid object) (with_open l pid object)
  opened_by None None is_o is_p =
      subst (λ (j : KernelState S). SameButNumbers (with_open k pid object) j) (sym (ap (opened_at l pid object) is_p))
      (subst (λ (j : KernelState S). SameButNumbers j l) (sym (ap (opened_at k pid object) is_o)) (record { numbering = n; is = record { entries = are; rest = refl } }))
  opened_by None (Some b) is_o is_p = absurd (found_in_both E k.entries b are.free is_p is_o)
  opened_by (Some a) None is_o is_p = absurd (found_in_both k.entries E a (sym are.free) is_o is_p)
  opened_by (Some a) (Some b) is_o is_p =
      subst (λ (j : KernelState S). SameButNumbers (with_open k pid object) j) (sym (opens_there l pid object b is_p))
      (subst (λ (j : KernelState S). SameButNumbers j (opened_there l pid object b)) (sym (opens_there k pid object a is_o)) (opened_so a b (lowest_is_free k.entries a is_o) (lowest_is_free E b is_p)))

  pub with_open_so : SameButNumbers (with_open k pid object) (with_open l pid object)
  with_open_so = opened_by (lowest_free_entry k.entries) (lowest_free_entry E) refl refl

pub open_same : {S : Type 0} (k l : KernelState S) (pid : ℕ) (object : Object) → CountHolders k.entries (tables k.table) → SameButNumbers k l → SameButNumbers (with_open k pid object) (with_open l pid object)
open_same k l pid object counts a =
    subst (λ (j : KernelState _). SameButNumbers (with_open k pid object) (with_open j pid object)) a.is.rest (with_open_so a.numbering k l.entries a.is.entries counts pid object)
