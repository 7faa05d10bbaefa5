-- Holding the entries of a table of descriptors one after another gives all of them held.
use Rattle.std.proofs.Common.{◌≡◌, ◌≢◌, ℕ, zero, suc, ◌+◌, ◌<◌, ◌≤◌, ◌^◌, [], ◌∷◌, Bool, true, false, Option, Some, None, length, get_or, take, refl, sym, ap, ◌∙◌, arith, rules, get_or-set_other, subst}
use Rattle.std.proofs.Math.ListN.{set, length-set}
use Rattle.std.proofs.lemmas.List.Sums.{count_by_more_no, count_by_more_yes, sum_by-take-drop, count_by-le-length}
use Rattle.std.proofs.lemmas.Bool.{eqb-true, eqb-false, eq-eqb}
use Rattle.std.specs.Prelude.{IsSome, ◌==◌, cond}
use Rattle.fd_table.specs.Entries.{Entries, OpenFile, entry_at, IsInUse, count_of, more_held, held}
use Rattle.fd_table.specs.Descriptors.{Descriptors, is_entry, holders_in, all_held_from, all_held, HoldsInUse, CountsFit}
use Rattle.fd_table.proofs.Lists.{same_items}

pub more_held-none : (x : Option OpenFile) → more_held 0 x ≡ x
more_held-none None = refl
more_held-none (Some f) = λ i. Some (record { object = f.object; count = (let e : f.count + 0 ≡ f.count = omega arith in e) i; offset = f.offset })

pub more_held-more : (n : ℕ) (x : Option OpenFile) → more_held 1 (more_held n x) ≡ more_held (n + 1) x
more_held-more n None = refl
more_held-more n (Some f) = λ i. Some (record { object = f.object; count = (let e : (f.count + n) + 1 ≡ f.count + (n + 1) = omega arith in e) i; offset = f.offset })

pub count_of-more_held : (n : ℕ) (x : Option OpenFile) → IsSome x → count_of (more_held n x) ≡ count_of x + n
count_of-more_held n None h = absurd (let x : ⊥ = search (rules, h) in x)
count_of-more_held n (Some f) h = refl

more_held_stays : (n : ℕ) (x : Option OpenFile) → IsSome x → IsSome (more_held n x)
more_held_stays n None h = h
more_held_stays n (Some f) h = h

entry_at-all_held_from : (k : ℕ) (t : Entries) (fds : Descriptors) (i : ℕ) → entry_at (all_held_from k t fds) i ≡ more_held (holders_in fds (k + i)) (entry_at t i)
entry_at-all_held_from k [] fds i = refl
entry_at-all_held_from k (x ∷ t) fds zero = ap (λ (e : ℕ). more_held (holders_in fds e) x) (omega arith)
entry_at-all_held_from k (x ∷ t) fds (suc i) =
    entry_at-all_held_from (k + 1) t fds i ∙ ap (λ (e : ℕ). more_held (holders_in fds e) (entry_at t i)) (omega arith)

length-all_held_from : (k : ℕ) (t : Entries) (fds : Descriptors) → length (all_held_from k t fds) ≡ length t
length-all_held_from k [] fds = refl
length-all_held_from k (x ∷ t) fds = ap suc (length-all_held_from (k + 1) t fds)

-- each entry is held by the descriptors of the table too
pub entry_at-all_held : (t : Entries) (fds : Descriptors) (e : ℕ) → entry_at (all_held t fds) e ≡ more_held (holders_in fds e) (entry_at t e)
entry_at-all_held t fds e = entry_at-all_held_from 0 t fds e ∙ ap (λ (n : ℕ). more_held (holders_in fds n) (entry_at t e)) (omega arith)

pub length-all_held : (t : Entries) (fds : Descriptors) → length (all_held t fds) ≡ length t
length-all_held t fds = length-all_held_from 0 t fds

-- only the holders count
all_held-same : (t : Entries) (fds more : Descriptors) → ((e : ℕ) → holders_in fds e ≡ holders_in more e) → all_held t fds ≡ all_held t more
all_held-same t fds more same =
    same_items (all_held t fds) (all_held t more) None (length-all_held t fds ∙ sym (length-all_held t more))
    (λ e. entry_at-all_held t fds e ∙ ap (λ (n : ℕ). more_held n (entry_at t e)) (same e) ∙ sym (entry_at-all_held t more e))

pub all_held-none : (t : Entries) → all_held t [] ≡ t
all_held-none t =
    same_items (all_held t []) t None (length-all_held t []) (λ e. entry_at-all_held t [] e ∙ more_held-none (entry_at t e))

entry_at-held_mine : (t : Entries) (e : ℕ) → entry_at (set t e (more_held 1 (entry_at t e))) e ≡ more_held 1 (entry_at t e)
entry_at-held_mine [] e = refl
entry_at-held_mine (x ∷ t) zero = refl
entry_at-held_mine (x ∷ t) (suc e) = entry_at-held_mine t e

-- the next descriptor holds e
module _ (t : Entries) (fds : Descriptors) (i e : ℕ) (within : i < length fds) (is : get_or fds i None ≡ Some e) where
  other : (j : ℕ) (b : Bool) → (j == e) ≡ b → entry_at (held (all_held t (take i fds)) e) j ≡ entry_at (all_held t (take (i + 1) fds)) j
  other j true b =
      let same : j ≡ e = eqb-true j e b in
      let more : holders_in (take (i + 1) fds) e ≡ holders_in (take i fds) e + 1 =
      count_by_more_yes (is_entry e) fds i None within (ap (is_entry e) is ∙ eq-eqb e e refl) in
      ap (λ (n : ℕ). entry_at (held (all_held t (take i fds)) e) n) same
      ∙ entry_at-held_mine (all_held t (take i fds)) e
      ∙ ap (more_held 1) (entry_at-all_held t (take i fds) e)
      ∙ more_held-more (holders_in (take i fds) e) (entry_at t e)
      ∙ ap (λ (n : ℕ). more_held n (entry_at t e)) (sym more)
      ∙ sym (entry_at-all_held t (take (i + 1) fds) e)
      ∙ ap (λ (n : ℕ). entry_at (all_held t (take (i + 1) fds)) n) (sym same)
  other j false b =
      let ne : j ≢ e = eqb-false j e b in
      let none : holders_in (take (i + 1) fds) j ≡ holders_in (take i fds) j =
      count_by_more_no (is_entry j) fds i None within (ap (is_entry j) is ∙ b) in
      get_or-set_other (all_held t (take i fds)) e j (more_held 1 (entry_at (all_held t (take i fds)) e)) None ne
      ∙ entry_at-all_held t (take i fds) j
      ∙ ap (λ (n : ℕ). more_held n (entry_at t j)) (sym none)
      ∙ sym (entry_at-all_held t (take (i + 1) fds) j)

  pub held_next : held (all_held t (take i fds)) e ≡ all_held t (take (i + 1) fds)
  held_next =
      same_items (held (all_held t (take i fds)) e) (all_held t (take (i + 1) fds)) None
      (length-set (all_held t (take i fds)) e (more_held 1 (entry_at (all_held t (take i fds)) e))
      ∙ length-all_held t (take i fds) ∙ sym (length-all_held t (take (i + 1) fds)))
      (λ j. other j (j == e) refl)

  pub in_use_next : HoldsInUse t (get_or fds i None) → IsInUse (all_held t (take i fds)) e
  in_use_next h =
      let here : IsInUse t e = let P : Option ℕ → Type 0 = HoldsInUse t in subst P is h in
      let P : Option OpenFile → Type 0 = λ x. IsSome x in
      subst P (sym (entry_at-all_held t (take i fds) e)) (more_held_stays (holders_in (take i fds) e) (entry_at t e) here)

  pub fits_next : HoldsInUse t (get_or fds i None) → CountsFit (all_held t fds) → count_of (entry_at (all_held t (take i fds)) e) + 1 < 2 ^ 32
  fits_next h fit =
      let here : IsInUse t e = let P : Option ℕ → Type 0 = HoldsInUse t in subst P is h in
      let more : holders_in (take (i + 1) fds) e ≡ holders_in (take i fds) e + 1 =
      count_by_more_yes (is_entry e) fds i None within (ap (is_entry e) is ∙ eq-eqb e e refl) in
      let all : count_of (entry_at (all_held t fds) e) ≡ count_of (entry_at t e) + holders_in fds e =
      ap count_of (entry_at-all_held t fds e) ∙ count_of-more_held (holders_in fds e) (entry_at t e) here in
      let some : count_of (entry_at (all_held t (take i fds)) e) ≡ count_of (entry_at t e) + holders_in (take i fds) e =
      ap count_of (entry_at-all_held t (take i fds) e) ∙ count_of-more_held (holders_in (take i fds) e) (entry_at t e) here in
      omega (arith, fit e, sum_by-take-drop (λ x. cond {A = ℕ} (is_entry e x) 1 0) fds (i + 1))

count_of-more_held-le : (n : ℕ) (x : Option OpenFile) → count_of (more_held n x) ≤ count_of x + n
count_of-more_held-le n None = omega arith
count_of-more_held-le n (Some f) = omega arith

-- small counts fit after all were held
pub fit_if_few : (t : Entries) (fds : Descriptors) (most : ℕ) → ((e : ℕ) → count_of (entry_at t e) ≤ most) → most + length fds < 2 ^ 32 → CountsFit (all_held t fds)
fit_if_few t fds most few small = λ e.
    let count : count_of (entry_at (all_held t fds) e) ≡ count_of (more_held (holders_in fds e) (entry_at t e)) = ap count_of (entry_at-all_held t fds e) in
    omega (arith, count, count_of-more_held-le (holders_in fds e) (entry_at t e), few e, count_by-le-length (is_entry e) fds)

-- the next descriptor isn't open
pub held_next_none : (t : Entries) (fds : Descriptors) (i : ℕ) → i < length fds → get_or fds i None ≡ None → all_held t (take i fds) ≡ all_held t (take (i + 1) fds)
held_next_none t fds i within is =
    all_held-same t (take i fds) (take (i + 1) fds) (λ e. sym (count_by_more_no (is_entry e) fds i None within (ap (is_entry e) is)))
