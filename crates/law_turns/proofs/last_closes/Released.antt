-- An entry that one descriptor less holds, or none: what other calls do to entries comes to the same before and after that.
use Rattle.std.proofs.Common.{◌≡◌, ◌≢◌, ◌⊎◌, ℕ, zero, suc, ◌+◌, ◌-◌, ◌<◌, ◌≤◌, Bool, true, false, Option, Some, None, inl, inr, refl, sym, ap, subst, ◌∙◌, arith, get_or-set_other}
use Rattle.std.proofs.Math.ListN.{set, length-set}
use Rattle.std.proofs.lemmas.Bool.{cases_eq, leb-true, leb-false, le-leb, lt-leb}
use Rattle.std.proofs.lemmas.List.{set_comm}
use Rattle.std.specs.Prelude.{nat_le, if◌then◌else◌}
use Rattle.fd_table.specs.Entries.{OpenFile, Entries, entry_at, count_of, more_held, less_held, last_object, moved_on, advanced, going_on_at, moved_to, released}
use Rattle.fd_table.specs.Descriptors.{Descriptors, holders_in, held_by_dup, all_held}
use Rattle.fd_table.proofs.Holding.{entry_at-all_held, length-all_held}
use Rattle.fd_table.proofs.Lists.{same_items}
use Rattle.law_turns.proofs.entry_numbers.Entries.{changed_entry}
use Rattle.law_turns.proofs.private_turns.Turned.{set_twice}

-- ---- two entries are changed

module _ (f g : Option OpenFile → Option OpenFile) (f_free : f None ≡ None) (g_free : g None ≡ None) where
  pub change_both : (t : Entries) (e d : ℕ) → (d ≡ e → g (f (entry_at t e)) ≡ f (g (entry_at t e)))
      → set (set t e (f (entry_at t e))) d (g (entry_at (set t e (f (entry_at t e))) d)) ≡ set (set t d (g (entry_at t d))) e (f (entry_at (set t d (g (entry_at t d))) e))
  change_both t e d same = by (cases_eq d e) where
    here : g (f (entry_at t e)) ≡ f (g (entry_at t e)) → set (set t e (f (entry_at t e))) e (g (entry_at (set t e (f (entry_at t e))) e)) ≡ set (set t e (g (entry_at t e))) e (f (entry_at (set t e (g (entry_at t e))) e))
    here both =
        ap (λ (x : Option OpenFile). set (set t e (f (entry_at t e))) e (g x)) (changed_entry f f_free t e) ∙ set_twice t e (f (entry_at t e)) (g (f (entry_at t e))) ∙
        ap (set t e) both ∙
        sym (ap (λ (x : Option OpenFile). set (set t e (g (entry_at t e))) e (f x)) (changed_entry g g_free t e) ∙ set_twice t e (g (entry_at t e)) (f (g (entry_at t e))))

    by : (d ≡ e) ⊎ (d ≢ e) → set (set t e (f (entry_at t e))) d (g (entry_at (set t e (f (entry_at t e))) d)) ≡ set (set t d (g (entry_at t d))) e (f (entry_at (set t d (g (entry_at t d))) e))
    by (inl is) =
        let P : ℕ → Type 0 = λ i. set (set t e (f (entry_at t e))) i (g (entry_at (set t e (f (entry_at t e))) i)) ≡ set (set t i (g (entry_at t i))) e (f (entry_at (set t i (g (entry_at t i))) e)) in
        subst P (sym is) (here (same is))
    by (inr ne) =
        ap (λ (x : Option OpenFile). set (set t e (f (entry_at t e))) d (g x)) (get_or-set_other t e d (f (entry_at t e)) None ne) ∙
        set_comm t e d (f (entry_at t e)) (g (entry_at t d)) (λ q. ne (sym q)) ∙
        ap (λ (x : Option OpenFile). set (set t d (g (entry_at t d))) e (f x)) (sym (get_or-set_other t d e (g (entry_at t d)) None (λ q. ne (sym q))))

-- ---- one entry

some_if : (b : Bool) (f g : OpenFile) (h : Option OpenFile → Option OpenFile) → h None ≡ None → h (Some f) ≡ Some g → h (if b then None else Some f) ≡ (if b then None else Some g)
some_if true f g h free is = free
some_if false f g h free is = is

pub moved_less : (n : ℕ) (x : Option OpenFile) → moved_on n (less_held x) ≡ less_held (moved_on n x)
moved_less n None = refl
moved_less n (Some f) = some_if (nat_le f.count 1) _ _ (moved_on n) refl refl

pub going_less : (n : ℕ) (x : Option OpenFile) → going_on_at n (less_held x) ≡ less_held (going_on_at n x)
going_less n None = refl
going_less n (Some f) = some_if (nat_le f.count 1) _ _ (going_on_at n) refl refl

-- n descriptors more hold the entry, of which there are none if nobody else held it
pub more_less : (n : ℕ) (x : Option OpenFile) → (0 < n → 1 < count_of x) → more_held n (less_held x) ≡ less_held (more_held n x)
more_less n None others = refl
more_less n (Some f) others = by (nat_le f.count 1) refl where
  nobody_else : f.count ≤ 1 → (m : ℕ) → n ≡ m → f.count + n ≤ 1
  nobody_else few zero is = omega (arith, few, is)
  nobody_else few (suc m) is = let many = others (omega (arith, is)) in absurd (omega (arith, many, few))

  by : (b : Bool) → nat_le f.count 1 ≡ b → more_held n (if b then None else Some (record { object = f.object; count = f.count - 1; offset = f.offset })) ≡ less_held (more_held n (Some f))
  by true last = sym (ap (λ (b : Bool). if b then None else Some (record { object = f.object; count = f.count + n - 1; offset = f.offset })) (le-leb (f.count + n) 1 (nobody_else (leb-true f.count 1 last) n refl)))
  by false last =
      let many : 1 < f.count = leb-false f.count 1 last in
      let same : f.count - 1 + n ≡ f.count + n - 1 = omega (arith, many) in
      (λ i. Some (record { object = f.object; count = same i; offset = f.offset })) ∙
      sym (ap (λ (b : Bool). if b then None else Some (record { object = f.object; count = f.count + n - 1; offset = f.offset })) (lt-leb (f.count + n) 1 (omega (arith, many))))

-- whether the entry is let go with the next close
pub last_more : (n : ℕ) (x : Option OpenFile) → (0 < n → 1 < count_of x) → last_object (more_held n x) ≡ last_object x
last_more n None others = refl
last_more n (Some f) others = ap (λ (b : Bool). if b then Some f.object else None) (by (nat_le f.count 1) refl) where
  nobody_else : f.count ≤ 1 → (m : ℕ) → n ≡ m → f.count + n ≤ 1
  nobody_else few zero is = omega (arith, few, is)
  nobody_else few (suc m) is = let many = others (omega (arith, is)) in absurd (omega (arith, many, few))

  by : (b : Bool) → nat_le f.count 1 ≡ b → nat_le (f.count + n) 1 ≡ nat_le f.count 1
  by true last = le-leb (f.count + n) 1 (nobody_else (leb-true f.count 1 last) n refl) ∙ sym last
  by false last = let many : 1 < f.count = leb-false f.count 1 last in lt-leb (f.count + n) 1 (omega (arith, many)) ∙ sym last

pub last_moved : (n : ℕ) (x : Option OpenFile) → last_object (moved_on n x) ≡ last_object x
last_moved n None = refl
last_moved n (Some f) = refl

pub last_going : (n : ℕ) (x : Option OpenFile) → last_object (going_on_at n x) ≡ last_object x
last_going n None = refl
last_going n (Some f) = refl

-- ---- the entries

module _ (e : ℕ) where
  pub advanced_less : (t : Entries) (d n : ℕ) → advanced (released t e) d n ≡ released (advanced t d n) e
  advanced_less t d n = change_both less_held (moved_on n) refl refl t e d (λ _. moved_less n (entry_at t e))

  pub moved_to_less : (t : Entries) (d n : ℕ) → moved_to (released t e) d n ≡ released (moved_to t d n) e
  moved_to_less t d n = change_both less_held (going_on_at n) refl refl t e d (λ _. going_less n (entry_at t e))

  pub dup_less : (t : Entries) (o place : Option ℕ) → (o ≡ Some e → 1 < count_of (entry_at t e)) → held_by_dup (released t e) o place ≡ released (held_by_dup t o place) e
  dup_less t None place others = refl
  dup_less t (Some d) None others = refl
  dup_less t (Some d) (Some place) others = change_both less_held (more_held 1) refl refl t e d (λ is. more_less 1 (entry_at t e) (λ _. others (ap Some is)))

  pub all_held_less : (t : Entries) (fds : Descriptors) → (0 < holders_in fds e → 1 < count_of (entry_at t e)) → all_held (released t e) fds ≡ released (all_held t fds) e
  all_held_less t fds others =
      same_items (all_held (released t e) fds) (released (all_held t fds) e) None
      (length-all_held (released t e) fds ∙ length-set t e (less_held (entry_at t e)) ∙ sym (length-all_held t fds) ∙ sym (length-set (all_held t fds) e (less_held (entry_at (all_held t fds) e))))
      (λ d. by d (cases_eq d e)) where
        by : (d : ℕ) → (d ≡ e) ⊎ (d ≢ e) → entry_at (all_held (released t e) fds) d ≡ entry_at (released (all_held t fds) e) d
        by d (inl is) =
            let P : ℕ → Type 0 = λ i. entry_at (all_held (released t e) fds) i ≡ entry_at (released (all_held t fds) e) i in
            subst P (sym is)
            (entry_at-all_held (released t e) fds e ∙ ap (more_held (holders_in fds e)) (changed_entry less_held refl t e) ∙ more_less (holders_in fds e) (entry_at t e) others ∙
            ap less_held (sym (entry_at-all_held t fds e)) ∙ sym (changed_entry less_held refl (all_held t fds) e))
        by d (inr ne) =
            entry_at-all_held (released t e) fds d ∙ ap (more_held (holders_in fds d)) (get_or-set_other t e d (less_held (entry_at t e)) None ne) ∙ sym (entry_at-all_held t fds d) ∙
            sym (get_or-set_other (all_held t fds) e d (less_held (entry_at (all_held t fds) e)) None ne)
