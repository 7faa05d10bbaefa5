-- Entries of which some descriptors are held once more, as after a fork: what another process does to an entry comes to the same.
use Rattle.std.proofs.Common.{◌≡◌, ◌≢◌, ◌⊎◌, ℕ, zero, suc, ◌+◌, ◌-◌, ◌<◌, ◌≤◌, [], ◌∷◌, Bool, true, false, Option, Some, None, length, inl, inr, refl, sym, ap, subst, ◌∙◌, arith, get_or-set_other, get_or-set_same}
use Rattle.std.proofs.Math.ListN.{set}
use Rattle.std.proofs.lemmas.Bool.{cases_eq, eq-eqb, ne_eqb, lt-leb}
use Rattle.std.proofs.lemmas.List.{set-get_or}
use Rattle.std.proofs.lemmas.List.Sums.{sum_by-set}
use Rattle.std.specs.Prelude.{map, cond, count_by, position, nat_le, if◌then◌else◌, Ok}
use Rattle.fd_table.specs.declared.names.Object.{Object}
use Rattle.fd_table.specs.Entries.{OpenFile, Entries, entry_at, count_of, is_free, lowest_free_entry, free_count, added, added_at, opened, more_held, less_held, last_object, moved_on, advanced, going_on_at, moved_to}
use Rattle.fd_table.specs.Descriptors.{Descriptors, entry_of, is_entry, holders_in, lowest_free, installed, installed_at, close_answer, after_close, released_by_close, after_dup, held_by_dup, all_held_from, all_held}
use Rattle.fd_table.proofs.Holding.{entry_at-all_held, length-all_held}
use Rattle.fd_table.proofs.Lists.{position_found, same_items, within_list}
use Rattle.kernel_model.specs.Idle.{renamed_entry}
use Rattle.law_turns.proofs.orders.Tables.{position_map, count_map}
use Rattle.law_turns.proofs.slot_numbers.Calls.{seen}

-- ---- one entry

seen_more : (n : ℕ) (x : Option OpenFile) → seen (more_held n x) ≡ seen x
seen_more n None = refl
seen_more n (Some f) = refl

free_more : (n : ℕ) (x : Option OpenFile) → is_free (more_held n x) ≡ is_free x
free_more n None = refl
free_more n (Some f) = refl

moved_more : (m n : ℕ) (x : Option OpenFile) → moved_on m (more_held n x) ≡ more_held n (moved_on m x)
moved_more m n None = refl
moved_more m n (Some f) = refl

going_more : (m n : ℕ) (x : Option OpenFile) → going_on_at m (more_held n x) ≡ more_held n (going_on_at m x)
going_more m n None = refl
going_more m n (Some f) = refl

more_more : (m n : ℕ) (x : Option OpenFile) → more_held m (more_held n x) ≡ more_held n (more_held m x)
more_more m n None = refl
more_more m n (Some f) = λ i. Some (record f { count = (let same : f.count + n + m ≡ f.count + m + n = omega arith in same) i })

none_more : (x : Option OpenFile) → more_held 0 x ≡ x
none_more None = refl
none_more (Some f) = λ i. Some (record f { count = (let same : f.count + 0 ≡ f.count = omega arith in same) i })

not_le : (c : ℕ) → 1 < c → nat_le c 1 ≡ false
not_le c more = lt-leb c 1 more

-- an entry that has a holder besides those that are held once more, or that nobody of these holds
less_more : (n : ℕ) (x : Option OpenFile) → (0 < n → 1 < count_of x) → less_held (more_held n x) ≡ more_held n (less_held x)
less_more n None many = refl
less_more zero (Some f) many = ap less_held (none_more (Some f)) ∙ sym (none_more (less_held (Some f)))
less_more (suc n) (Some f) many =
    let more : 1 < f.count = many (omega arith) in
    let both : f.count + suc n - 1 ≡ f.count - 1 + suc n = omega (arith, more) in
    (λ i. if not_le (f.count + suc n) (omega (arith, more)) i then None else Some (record f { count = both i })) ∙ sym (λ i. more_held (suc n) (if not_le f.count more i then None else Some (record f { count = f.count - 1 })))

last_more : (n : ℕ) (x : Option OpenFile) → (0 < n → 1 < count_of x) → last_object (more_held n x) ≡ last_object x
last_more n None many = refl
last_more zero (Some f) many = ap last_object (none_more (Some f))
last_more (suc n) (Some f) many =
    let more : 1 < f.count = many (omega arith) in
    (λ i. if not_le (f.count + suc n) (omega (arith, more)) i then Some f.object else None) ∙ sym (λ i. if not_le f.count more i then Some f.object else None)

-- ---- all entries

held_from_set : (m : ℕ) (t : Entries) (i : ℕ) (y : Option OpenFile) (fds : Descriptors) → all_held_from m (set t i y) fds ≡ set (all_held_from m t fds) i (more_held (holders_in fds (m + i)) y)
held_from_set m [] i y fds = refl
held_from_set m (x ∷ t) zero y fds = let same : m ≡ m + 0 = omega arith in ap (λ (k : ℕ). more_held (holders_in fds k) y ∷ all_held_from (m + 1) t fds) same
held_from_set m (x ∷ t) (suc i) y fds =
    let same : m + 1 + i ≡ m + suc i = omega arith in
    ap (λ (l : Entries). more_held (holders_in fds m) x ∷ l) (held_from_set (m + 1) t i y fds ∙ ap (λ (k : ℕ). set (all_held_from (m + 1) t fds) i (more_held (holders_in fds k) y)) same)

held_set : (t : Entries) (i : ℕ) (y : Option OpenFile) (fds : Descriptors) → all_held (set t i y) fds ≡ set (all_held t fds) i (more_held (holders_in fds i) y)
held_set t i y fds = held_from_set 0 t i y fds ∙ ap (λ (k : ℕ). set (all_held t fds) i (more_held (holders_in fds k) y)) (let same : 0 + i ≡ i = omega arith in same)

free_from : (m : ℕ) (t : Entries) (fds : Descriptors) → map is_free (all_held_from m t fds) ≡ map is_free t
free_from m [] fds = refl
free_from m (x ∷ t) fds = λ i. free_more (holders_in fds m) x i ∷ free_from (m + 1) t fds i

-- ---- names of pipes

renamed_more : (f : ℕ → ℕ) (n : ℕ) (x : Option OpenFile) → renamed_entry f (more_held n x) ≡ more_held n (renamed_entry f x)
renamed_more f n None = refl
renamed_more f n (Some g) = refl

renamed_from : (f : ℕ → ℕ) (m : ℕ) (t : Entries) (fds : Descriptors) → map (renamed_entry f) (all_held_from m t fds) ≡ all_held_from m (map (renamed_entry f) t) fds
renamed_from f m [] fds = refl
renamed_from f m (x ∷ t) fds = λ i. renamed_more f (holders_in fds m) x i ∷ renamed_from f (m + 1) t fds i

pub all_renamed : (f : ℕ → ℕ) (t : Entries) (fds : Descriptors) → map (renamed_entry f) (all_held t fds) ≡ all_held (map (renamed_entry f) t) fds
all_renamed f t fds = renamed_from f 0 t fds

-- ---- held once more

module _ (fds : Descriptors) where
  abbrev H : Entries → Entries
  H t = all_held t fds

  -- an entry becomes what h makes of it
  changed : (h : Option OpenFile → Option OpenFile) (t : Entries) (e : ℕ) → h (more_held (holders_in fds e) (entry_at t e)) ≡ more_held (holders_in fds e) (h (entry_at t e)) → set (H t) e (h (entry_at (H t) e)) ≡ H (set t e (h (entry_at t e)))
  changed h t e same = ap (λ (x : Option OpenFile). set (H t) e (h x)) (entry_at-all_held t fds e) ∙ ap (set (H t) e) same ∙ sym (held_set t e (h (entry_at t e)) fds)

  pub look_held : (t : Entries) (e : ℕ) → seen (entry_at (H t) e) ≡ seen (entry_at t e)
  look_held t e = ap seen (entry_at-all_held t fds e) ∙ seen_more (holders_in fds e) (entry_at t e)

  pub lowest_held : (t : Entries) → lowest_free_entry (H t) ≡ lowest_free_entry t
  lowest_held t =
      sym (position_map (λ (b : Bool). b) is_free is_free (λ x. refl) (H t)) ∙ ap (position (λ (b : Bool). b)) (free_from 0 t fds) ∙ position_map (λ (b : Bool). b) is_free is_free (λ x. refl) t

  pub free_held : (t : Entries) → free_count (H t) ≡ free_count t
  free_held t = sym (count_map (λ (b : Bool). b) is_free is_free (λ x. refl) (H t)) ∙ ap (count_by (λ (b : Bool). b)) (free_from 0 t fds) ∙ count_map (λ (b : Bool). b) is_free is_free (λ x. refl) t

  pub advance_held : (t : Entries) (e m : ℕ) → advanced (H t) e m ≡ H (advanced t e m)
  advance_held t e m = changed (moved_on m) t e (moved_more m (holders_in fds e) (entry_at t e))

  pub move_held : (t : Entries) (e m : ℕ) → moved_to (H t) e m ≡ H (moved_to t e m)
  move_held t e m = changed (going_on_at m) t e (going_more m (holders_in fds e) (entry_at t e))

  pub copy_held : (t : Entries) (o place : Option ℕ) → held_by_dup (H t) o place ≡ H (held_by_dup t o place)
  copy_held t None place = refl
  copy_held t (Some e) None = refl
  copy_held t (Some e) (Some place) = changed (more_held 1) t e (more_more 1 (holders_in fds e) (entry_at t e))

  -- others are held once more too
  pub twice_held : (t : Entries) (d : Descriptors) → all_held (H t) d ≡ H (all_held t d)
  twice_held t d =
      same_items (all_held (H t) d) (H (all_held t d)) None (length-all_held (H t) d ∙ length-all_held t fds ∙ sym (length-all_held t d) ∙ sym (length-all_held (all_held t d) fds)) (λ e.
      entry_at-all_held (H t) d e ∙ ap (more_held (holders_in d e)) (entry_at-all_held t fds e) ∙ more_more (holders_in d e) (holders_in fds e) (entry_at t e) ∙ sym (ap (more_held (holders_in fds e)) (entry_at-all_held t d e)) ∙
      sym (entry_at-all_held (all_held t d) fds e))

  -- d's descriptors and these are among the holders that each entry counts
  pub record AreCounted (t : Entries) (d : Descriptors) : Type 0 where
    pub enough : (e : ℕ) → 0 < holders_in fds e → holders_in d e + 1 ≤ count_of (entry_at t e)

  one_of : (d : Descriptors) (fd e : ℕ) → entry_of d fd ≡ Some e → 0 < holders_in d e
  one_of d fd e is =
      omega (arith, sum_by-set (λ (x : Option ℕ). cond {A = ℕ} (is_entry e x) 1 0) d fd None None (within_list d fd e is), ap (λ (x : Option ℕ). cond {A = ℕ} (is_entry e x) 1 0) is, ap (λ (b : Bool). cond {A = ℕ} b 1 0) (eq-eqb e e refl))

  many_of : (t : Entries) (d : Descriptors) (fd e : ℕ) → AreCounted t d → entry_of d fd ≡ Some e → 0 < holders_in fds e → 1 < count_of (entry_at t e)
  many_of t d fd e c is some = omega (arith, c.enough e some, one_of d fd e is)

  pub answer_held : (t : Entries) (d : Descriptors) (fd : ℕ) (o : Option ℕ) → AreCounted t d → entry_of d fd ≡ o → close_answer (H t) o ≡ close_answer t o
  answer_held t d fd None c is = refl
  answer_held t d fd (Some e) c is = ap (λ (x : Option OpenFile). Ok (last_object x)) (entry_at-all_held t fds e) ∙ ap Ok (last_more (holders_in fds e) (entry_at t e) (many_of t d fd e c is))

  pub close_held : (t : Entries) (d : Descriptors) (fd : ℕ) (o : Option ℕ) → AreCounted t d → entry_of d fd ≡ o → released_by_close (H t) o ≡ H (released_by_close t o)
  close_held t d fd None c is = refl
  close_held t d fd (Some e) c is = changed less_held t e (less_more (holders_in fds e) (entry_at t e) (many_of t d fd e c is))

  -- none of these holds an entry that is free
  free_nobody : (t : Entries) (d : Descriptors) (e : ℕ) → AreCounted t d → entry_at t e ≡ None → holders_in fds e ≡ 0
  free_nobody t d e c free = by (holders_in fds e) refl where
    by : (n : ℕ) → holders_in fds e ≡ n → holders_in fds e ≡ 0
    by zero is = is
    by (suc n) is = absurd (omega (arith, c.enough e (omega (arith, is)), ap count_of free))

  was_free : (x : Option OpenFile) → is_free x ≡ true → x ≡ None
  was_free None is = refl
  was_free (Some f) is = absurd (let z : ⊥ = cc in z)

  lowest_none : (t : Entries) (e : ℕ) → lowest_free_entry t ≡ Some e → entry_at t e ≡ None
  lowest_none t e is = was_free (entry_at t e) (position_found is_free t None e is).1

  pub open_held : (t : Entries) (d : Descriptors) (object : Object) (e : ℕ) → AreCounted t d → lowest_free_entry t ≡ Some e → added (H t) object ≡ H (added t object)
  open_held t d object e c is =
      let none : holders_in fds e ≡ 0 = free_nobody t d e c (lowest_none t e is) in
      ap (λ (o : Option ℕ). added_at (H t) o object) (lowest_held t ∙ is) ∙ ap (set (H t) e) (sym (none_more (Some (opened object))) ∙ ap (λ (n : ℕ). more_held n (Some (opened object))) (sym none)) ∙
      sym (held_set t e (Some (opened object)) fds) ∙ ap (λ (o : Option ℕ). H (added_at t o object)) (sym is)

  -- ---- what is counted stays so

  module _ (t : Entries) (d : Descriptors) (c : AreCounted t d) where
    pub fewer : (d2 : Descriptors) → ((e : ℕ) → holders_in d2 e ≤ holders_in d e) → AreCounted t d2
    fewer d2 less = record { enough = λ e some. omega (arith, c.enough e some, less e) }

    written : (h : Option OpenFile → Option OpenFile) (d2 : Descriptors) (e : ℕ) → (0 < holders_in fds e → holders_in d2 e + 1 ≤ count_of (h (entry_at t e))) → ((i : ℕ) → i ≢ e → holders_in d2 i ≤ holders_in d i) → e < length t → AreCounted (set t e (h (entry_at t e))) d2
    written h d2 e own others within = record { enough = λ i some. by i (cases_eq i e) some } where
      by : (i : ℕ) → (i ≡ e) ⊎ (i ≢ e) → 0 < holders_in fds i → holders_in d2 i + 1 ≤ count_of (entry_at (set t e (h (entry_at t e))) i)
      by i (inl is) some =
          let P : ℕ → Type 0 = λ j. holders_in d2 j + 1 ≤ count_of (entry_at (set t e (h (entry_at t e))) j) in
          subst P (sym is) (subst (λ (x : Option OpenFile). holders_in d2 e + 1 ≤ count_of x) (sym (get_or-set_same t e (h (entry_at t e)) None within)) (own (subst (λ (j : ℕ). 0 < holders_in fds j) is some)))
      by i (inr ne) some = subst (λ (x : Option OpenFile). holders_in d2 i + 1 ≤ count_of x) (sym (get_or-set_other t e i (h (entry_at t e)) None ne)) (omega (arith, c.enough i some, others i ne))

  -- so it is after each change that the calls of the other process make
  module _ (t : Entries) (d : Descriptors) (c : AreCounted t d) where
    stays_by : (h : Option OpenFile → Option OpenFile) → h None ≡ None → ((x : Option OpenFile) → count_of x ≤ count_of (h x)) → (d2 : Descriptors) (e : ℕ) → ((i : ℕ) → holders_in d2 i ≤ holders_in d i) → AreCounted (set t e (h (entry_at t e))) d2
    stays_by h none more d2 e less = by (entry_at t e) refl where
      by : (o : Option OpenFile) → entry_at t e ≡ o → AreCounted (set t e (h (entry_at t e))) d2
      by None is =
          let same : set t e (h (entry_at t e)) ≡ t = ap (set t e) (ap h is ∙ none ∙ sym is) ∙ set-get_or t e None in
          subst (λ (u : Entries). AreCounted u d2) (sym same) (fewer t d c d2 less)
      by (Some f) is = written t d c h d2 e (λ some. omega (arith, c.enough e some, less e, more (entry_at t e))) (λ i ne. less i) (within_list t e f is)

    pub counted_advance : (e m : ℕ) → AreCounted (advanced t e m) d
    counted_advance e m = stays_by (moved_on m) refl (λ x. by x) d e (λ i. omega arith) where
      by : (x : Option OpenFile) → count_of x ≤ count_of (moved_on m x)
      by None = omega arith
      by (Some f) = omega arith

    pub counted_move : (e m : ℕ) → AreCounted (moved_to t e m) d
    counted_move e m = stays_by (going_on_at m) refl (λ x. by x) d e (λ i. omega arith) where
      by : (x : Option OpenFile) → count_of x ≤ count_of (going_on_at m x)
      by None = omega arith
      by (Some f) = omega arith

    -- a descriptor of d less
    gone : (fd e : ℕ) → entry_of d fd ≡ Some e → (i : ℕ) → holders_in (set d fd None) i + cond (is_entry i (Some e)) 1 0 ≡ holders_in d i
    gone fd e is i =
        omega (arith, sum_by-set (λ (x : Option ℕ). cond {A = ℕ} (is_entry i x) 1 0) d fd None None (within_list d fd e is), ap (λ (x : Option ℕ). cond {A = ℕ} (is_entry i x) 1 0) is)

    less_count : (x : Option OpenFile) → 1 < count_of x → count_of (less_held x) + 1 ≡ count_of x
    less_count None many = absurd (omega (arith, many))
    less_count (Some f) many = ap (λ (y : Option OpenFile). count_of y + 1) (λ i. if not_le f.count many i then None else Some (record f { count = f.count - 1 })) ∙ omega (arith, many)

    pub counted_close : (fd : ℕ) (o : Option ℕ) → entry_of d fd ≡ o → AreCounted (released_by_close t o) (after_close d fd o)
    counted_close fd None is = c
    counted_close fd (Some e) is = by (entry_at t e) refl where
      own : holders_in (set d fd None) e + 1 ≡ holders_in d e
      own = omega (arith, gone fd e is e, ap (λ (b : Bool). cond {A = ℕ} b 1 0) (eq-eqb e e refl))

      less : (i : ℕ) → holders_in (set d fd None) i ≤ holders_in d i
      less i = omega (arith, gone fd e is i)

      by : (x : Option OpenFile) → entry_at t e ≡ x → AreCounted (set t e (less_held (entry_at t e))) (set d fd None)
      by None free =
          let same : set t e (less_held (entry_at t e)) ≡ t = ap (set t e) (ap less_held free ∙ sym free) ∙ set-get_or t e None in
          subst (λ (u : Entries). AreCounted u (set d fd None)) (sym same) (fewer t d c (set d fd None) less)
      by (Some f) used =
          written t d c less_held (set d fd None) e (λ some. omega (arith, c.enough e some, own, less_count (entry_at t e) (many_of t d fd e c is some))) (λ i ne. less i) (within_list t e f used)

    -- a descriptor of d more
    more_one : (place e : ℕ) → lowest_free d ≡ Some place → (i : ℕ) → holders_in (set d place (Some e)) i ≡ holders_in d i + cond (is_entry i (Some e)) 1 0
    more_one place e is i =
        let f = position_found is_free d None place is in
        omega (arith, sum_by-set (λ (x : Option ℕ). cond {A = ℕ} (is_entry i x) 1 0) d place (Some e) None f.0, ap (λ (x : Option ℕ). cond {A = ℕ} (is_entry i x) 1 0) (none_is (entry_of d place) f.1)) where
          none_is : (x : Option ℕ) → is_free x ≡ true → x ≡ None
          none_is None free = refl
          none_is (Some e) free = absurd (let z : ⊥ = cc in z)

    more_other : (place e i : ℕ) → lowest_free d ≡ Some place → i ≢ e → holders_in (set d place (Some e)) i ≤ holders_in d i
    more_other place e i is ne = omega (arith, more_one place e is i, ap (λ (b : Bool). cond {A = ℕ} b 1 0) (ne_eqb i e ne))

    more_same : (place e : ℕ) → lowest_free d ≡ Some place → holders_in (set d place (Some e)) e ≡ holders_in d e + 1
    more_same place e is = omega (arith, more_one place e is e, ap (λ (b : Bool). cond {A = ℕ} b 1 0) (eq-eqb e e refl))

    more_count : (x : Option OpenFile) (f : OpenFile) → x ≡ Some f → count_of (more_held 1 x) ≡ count_of x + 1
    more_count None f is = absurd (let z : ⊥ = cc in z)
    more_count (Some g) f is = refl

    pub counted_copy : (fd : ℕ) (o place : Option ℕ) → entry_of d fd ≡ o → lowest_free d ≡ place → AreCounted (held_by_dup t o place) (after_dup d o place)
    counted_copy fd None place is free = c
    counted_copy fd (Some e) None is free = c
    counted_copy fd (Some e) (Some place) is free = by (entry_at t e) refl where
      by : (x : Option OpenFile) → entry_at t e ≡ x → AreCounted (set t e (more_held 1 (entry_at t e))) (set d place (Some e))
      by None none =
          let same : set t e (more_held 1 (entry_at t e)) ≡ t = ap (set t e) (ap (more_held 1) none ∙ sym none) ∙ set-get_or t e None in
          subst (λ (u : Entries). AreCounted u (set d place (Some e))) (sym same) (record { enough = λ i some. one i (cases_eq i e) some }) where
            one : (i : ℕ) → (i ≡ e) ⊎ (i ≢ e) → 0 < holders_in fds i → holders_in (set d place (Some e)) i + 1 ≤ count_of (entry_at t i)
            one i (inl same) some = absurd (omega (arith, subst (λ (j : ℕ). 0 < holders_in fds j) same some, free_nobody t d e c none))
            one i (inr ne) some = omega (arith, c.enough i some, more_other place e i free ne)
      by (Some f) used = written t d c (more_held 1) (set d place (Some e)) e (λ some. omega (arith, c.enough e some, more_same place e free, more_count (entry_at t e) f used)) (λ i ne. more_other place e i free ne) (within_list t e f used)

    installed_less : (e i : ℕ) (o : Option ℕ) → lowest_free d ≡ o → i ≢ e → holders_in (installed_at d o e) i ≤ holders_in d i
    installed_less e i None is ne = omega arith
    installed_less e i (Some place) is ne = more_other place e i is ne

    pub counted_open : (object : Object) (e : ℕ) → lowest_free_entry t ≡ Some e → AreCounted (added t object) (installed d e)
    counted_open object e is =
        let same : added t object ≡ set t e (Some (opened object)) = ap (λ (o : Option ℕ). added_at t o object) is in
        subst (λ (u : Entries). AreCounted u (installed d e)) (sym same) (record { enough = λ i some. by i (cases_eq i e) some }) where
          by : (i : ℕ) → (i ≡ e) ⊎ (i ≢ e) → 0 < holders_in fds i → holders_in (installed d e) i + 1 ≤ count_of (entry_at (set t e (Some (opened object))) i)
          by i (inl same) some = absurd (omega (arith, subst (λ (j : ℕ). 0 < holders_in fds j) same some, free_nobody t d e c (lowest_none t e is)))
          by i (inr ne) some =
              subst (λ (x : Option OpenFile). holders_in (installed d e) i + 1 ≤ count_of x) (sym (get_or-set_other t e i (Some (opened object)) None ne)) (omega (arith, c.enough i some, installed_less e i (lowest_free d) refl ne))

    more_or_same : (n : ℕ) (x : Option OpenFile) → count_of x ≤ count_of (more_held n x)
    more_or_same n None = omega arith
    more_or_same n (Some f) = omega arith

    pub counted_held : (other : Descriptors) → AreCounted (all_held t other) d
    counted_held other = record { enough = λ e some. subst (λ (x : Option OpenFile). holders_in d e + 1 ≤ count_of x) (sym (entry_at-all_held t other e)) (omega (arith, c.enough e some, more_or_same (holders_in other e) (entry_at t e))) }
