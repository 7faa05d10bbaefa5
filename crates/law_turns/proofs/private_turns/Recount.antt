-- An entry whose count is another one, which it is not the last holder of: what no other process sees of it.
use Rattle.std.proofs.Common.{◌≡◌, ◌≢◌, ◌⊎◌, ℕ, zero, suc, ◌+◌, ◌-◌, ◌<◌, ◌≤◌, List, [], ◌∷◌, Bool, true, false, Option, Some, None, inl, inr, get_or, refl, sym, ap, subst, ◌∙◌, arith, get_or-set_other}
use Rattle.std.proofs.Math.ListN.{set}
use Rattle.std.proofs.Math.Seq.{map-set_same}
use Rattle.std.proofs.lemmas.List.{set_comm}
use Rattle.std.proofs.lemmas.Bool.{cases_eq}
use Rattle.std.specs.Prelude.{Ok, count_by, nat_le, if◌then◌else◌}
use Rattle.fd_table.specs.declared.names.Object.{Object}
use Rattle.fd_table.specs.Entries.{OpenFile, Entries, entry_at, count_of, is_free, lowest_free_entry, free_count, added, added_at, opened, more_held, less_held, last_object, moved_on, advanced, going_on_at, moved_to}
use Rattle.fd_table.specs.Descriptors.{Descriptors, holders_in, close_answer, released_by_close, held_by_dup, all_held_from, all_held}
use Rattle.fd_table.proofs.Lists.{position_found}
use Rattle.law_turns.proofs.orders.Tables.{count_map}
use Rattle.law_turns.proofs.private_turns.Unseen.{position_same}
use Rattle.law_turns.proofs.private_turns.Turned.{set_twice}

-- the count of a file becomes what φ makes of it
abbrev pub recount : (ℕ → ℕ) → Option OpenFile → Option OpenFile
recount φ None = None
recount φ (Some f) = Some (record f { count = φ f.count })

-- φ takes or gives a holder, where there are `need` at least that stay until then
pub record Suits (φ : ℕ → ℕ) (need : ℕ) : Type 0 where
  pub some : 0 < need
  pub more : (c n : ℕ) → need ≤ c → φ c + n ≡ φ (c + n)
  pub not_last : (c : ℕ) → need < c → nat_le c 1 ≡ false
  pub not_last_then : (c : ℕ) → need < c → nat_le (φ c) 1 ≡ false
  pub less : (c : ℕ) → need < c → φ c - 1 ≡ φ (c - 1)

written_entry : {X : Type 0} (h : Option X → Option X) → h None ≡ None → (t : List (Option X)) (e : ℕ) → get_or (set t e (h (get_or t e None))) e None ≡ h (get_or t e None)
written_entry h free [] e = sym free
written_entry h free (x ∷ t) zero = refl
written_entry h free (x ∷ t) (suc e) = written_entry h free t e

module _ (φ : ℕ → ℕ) (e : ℕ) where
  abbrev pub G : Entries → Entries
  G t = set t e (recount φ (entry_at t e))

  recount_free : (x : Option OpenFile) → is_free (recount φ x) ≡ is_free x
  recount_free None = refl
  recount_free (Some f) = refl

  pub at_e : (t : Entries) → entry_at (G t) e ≡ recount φ (entry_at t e)
  at_e t = written_entry (recount φ) refl t e

  pub at_other : (t : Entries) (i : ℕ) → i ≢ e → entry_at (G t) i ≡ entry_at t i
  at_other t i ne = get_or-set_other t e i (recount φ (entry_at t e)) None ne

  pub lowest_recount : (t : Entries) → lowest_free_entry (G t) ≡ lowest_free_entry t
  lowest_recount t = position_same is_free t e (recount φ (entry_at t e)) None (recount_free (entry_at t e))

  pub free_recount : (t : Entries) → free_count (G t) ≡ free_count t
  free_recount t =
      sym (count_map (λ (b : Bool). b) is_free is_free (λ x. refl) (G t)) ∙ ap (count_by (λ (b : Bool). b)) (map-set_same is_free t e (recount φ (entry_at t e)) None (recount_free (entry_at t e))) ∙ count_map (λ (b : Bool). b) is_free is_free (λ x. refl) t

  -- another entry is written
  pub set_recount : (t : Entries) (i : ℕ) (x : Option OpenFile) → i ≢ e → set (G t) i x ≡ G (set t i x)
  set_recount t i x ne =
      set_comm t e i (recount φ (entry_at t e)) x (λ q. ne (sym q)) ∙ ap (λ (y : Option OpenFile). set (set t i x) e (recount φ y)) (sym (get_or-set_other t i e x None (λ q. ne (sym q))))

  -- any entry is written by what it held
  pub change_recount : (h : Option OpenFile → Option OpenFile) → h None ≡ None → (t : Entries) (i : ℕ) → (i ≡ e → h (recount φ (entry_at t e)) ≡ recount φ (h (entry_at t e))) → set (G t) i (h (entry_at (G t) i)) ≡ G (set t i (h (entry_at t i)))
  change_recount h free t i same = by (cases_eq i e) where
    here : h (recount φ (entry_at t e)) ≡ recount φ (h (entry_at t e)) → set (G t) e (h (entry_at (G t) e)) ≡ G (set t e (h (entry_at t e)))
    here both =
        ap (λ (y : Option OpenFile). set (G t) e (h y)) (at_e t) ∙ set_twice t e (recount φ (entry_at t e)) (h (recount φ (entry_at t e))) ∙ ap (λ (y : Option OpenFile). set t e y) both ∙
        ap (λ (y : Option OpenFile). set t e (recount φ y)) (sym (written_entry h free t e)) ∙ sym (set_twice t e (h (entry_at t e)) (recount φ (entry_at (set t e (h (entry_at t e))) e)))

    by : (i ≡ e) ⊎ (i ≢ e) → set (G t) i (h (entry_at (G t) i)) ≡ G (set t i (h (entry_at t i)))
    by (inl is) = let P : ℕ → Type 0 = λ k. set (G t) k (h (entry_at (G t) k)) ≡ G (set t k (h (entry_at t k))) in subst P (sym is) (here (same is))
    by (inr ne) = ap (λ (y : Option OpenFile). set (G t) i (h y)) (at_other t i ne) ∙ set_recount t i (h (entry_at t i)) ne

  moved_recount : (n : ℕ) (x : Option OpenFile) → moved_on n (recount φ x) ≡ recount φ (moved_on n x)
  moved_recount n None = refl
  moved_recount n (Some f) = refl

  going_recount : (n : ℕ) (x : Option OpenFile) → going_on_at n (recount φ x) ≡ recount φ (going_on_at n x)
  going_recount n None = refl
  going_recount n (Some f) = refl

  pub advanced_recount : (t : Entries) (i n : ℕ) → advanced (G t) i n ≡ G (advanced t i n)
  advanced_recount t i n = change_recount (moved_on n) refl t i (λ _. moved_recount n (entry_at t e))

  pub moved_to_recount : (t : Entries) (i n : ℕ) → moved_to (G t) i n ≡ G (moved_to t i n)
  moved_to_recount t i n = change_recount (going_on_at n) refl t i (λ _. going_recount n (entry_at t e))

  module _ (need : ℕ) (suits : Suits φ need) where
    -- the entry is open, and held by so many
    abbrev pub IsOpen : Entries → Type 0
    IsOpen t = (f : OpenFile) × (entry_at t e ≡ Some f) × (need ≤ f.count)

    more_recount : (n : ℕ) (x : Option OpenFile) (f : OpenFile) → x ≡ Some f → need ≤ f.count → more_held n (recount φ x) ≡ recount φ (more_held n x)
    more_recount n None f is enough = refl
    more_recount n (Some g) f is enough =
        let it : g ≡ f = cc in
        λ i. Some (record g { count = suits.more g.count n (subst (λ (h : OpenFile). need ≤ h.count) (sym it) enough) i })

    less_recount : (x : Option OpenFile) → need < count_of x → less_held (recount φ x) ≡ recount φ (less_held x)
    less_recount None enough = refl
    less_recount (Some f) enough =
        (λ i. if suits.not_last_then f.count enough i then None else Some (record f { count = suits.less f.count enough i })) ∙ sym (λ i. recount φ (if suits.not_last f.count enough i then None else Some (record f { count = f.count - 1 })))

    last_recount : (x : Option OpenFile) → need < count_of x → last_object (recount φ x) ≡ last_object x
    last_recount None enough = refl
    last_recount (Some f) enough = (λ i. if suits.not_last_then f.count enough i then Some f.object else None) ∙ sym (λ i. if suits.not_last f.count enough i then Some f.object else None)

    pub held_recount : (t : Entries) (o place : Option ℕ) → IsOpen t → held_by_dup (G t) o place ≡ G (held_by_dup t o place)
    held_recount t None place h = refl
    held_recount t (Some i) None h = refl
    held_recount t (Some i) (Some place) h = change_recount (more_held 1) refl t i (λ _. more_recount 1 (entry_at t e) h.0 h.1 h.2)

    pub released_recount : (t : Entries) (o : Option ℕ) → (o ≡ Some e → need < count_of (entry_at t e)) → released_by_close (G t) o ≡ G (released_by_close t o)
    released_recount t None safe = refl
    released_recount t (Some i) safe = change_recount less_held refl t i (λ is. less_recount (entry_at t e) (safe (ap Some is)))

    pub answer_recount : (t : Entries) (o : Option ℕ) → (o ≡ Some e → need < count_of (entry_at t e)) → close_answer (G t) o ≡ close_answer t o
    answer_recount t None safe = refl
    answer_recount t (Some i) safe = by (cases_eq i e) where
      by : (i ≡ e) ⊎ (i ≢ e) → close_answer (G t) (Some i) ≡ close_answer t (Some i)
      by (inl is) = let P : ℕ → Type 0 = λ k. close_answer (G t) (Some k) ≡ close_answer t (Some k) in
          subst P (sym is) (ap (λ (y : Option OpenFile). Ok (last_object y)) (at_e t) ∙ ap Ok (last_recount (entry_at t e) (safe (ap Some is))))
      by (inr ne) = ap (λ (y : Option OpenFile). Ok (last_object y)) (at_other t i ne)

    -- an open entry isn't where one is opened
    pub not_lowest : (t : Entries) (i : ℕ) → IsOpen t → lowest_free_entry t ≡ Some i → i ≢ e
    not_lowest t i h found is =
        let free : is_free (entry_at t i) ≡ true = (position_found is_free t None i found).1 in
        let no : true ≡ false = sym free ∙ ap (λ (k : ℕ). is_free (entry_at t k)) is ∙ ap is_free h.1 in
        absurd (let z : ⊥ = cc in z)

    added_at_recount : (t : Entries) (object : Object) (o : Option ℕ) → IsOpen t → lowest_free_entry t ≡ o → added_at (G t) o object ≡ G (added_at t o object)
    added_at_recount t object None h found = refl
    added_at_recount t object (Some i) h found = set_recount t i (Some (opened object)) (not_lowest t i h found)

    pub added_recount : (t : Entries) (object : Object) → IsOpen t → added (G t) object ≡ G (added t object)
    added_recount t object h = ap (λ (o : Option ℕ). added_at (G t) o object) (lowest_recount t) ∙ added_at_recount t object (lowest_free_entry t) h refl

    still_open_at : (t : Entries) (object : Object) (o : Option ℕ) → IsOpen t → lowest_free_entry t ≡ o → IsOpen (added_at t o object)
    still_open_at t object None h found = h
    still_open_at t object (Some i) h found = (h.0, get_or-set_other t i e (Some (opened object)) None (λ q. not_lowest t i h found (sym q)) ∙ h.1, h.2)

    pub still_open : (t : Entries) (object : Object) → IsOpen t → IsOpen (added t object)
    still_open t object h = still_open_at t object (lowest_free_entry t) h refl

    -- a copy of descriptors
    held_from_set : (m : ℕ) (t : Entries) (i : ℕ) (y : Option OpenFile) (fds : Descriptors) → all_held_from m (set t i y) fds ≡ set (all_held_from m t fds) i (more_held (holders_in fds (m + i)) y)
    held_from_set m [] i y fds = refl
    held_from_set m (x ∷ t) zero y fds = let same : m ≡ m + 0 = omega arith in ap (λ (k : ℕ). more_held (holders_in fds k) y ∷ all_held_from (m + 1) t fds) same
    held_from_set m (x ∷ t) (suc i) y fds =
        let same : m + 1 + i ≡ m + suc i = omega arith in
        ap (λ (l : Entries). more_held (holders_in fds m) x ∷ l) (held_from_set (m + 1) t i y fds ∙ ap (λ (k : ℕ). set (all_held_from (m + 1) t fds) i (more_held (holders_in fds k) y)) same)

    held_from_at : (m : ℕ) (t : Entries) (i : ℕ) (fds : Descriptors) → entry_at (all_held_from m t fds) i ≡ more_held (holders_in fds (m + i)) (entry_at t i)
    held_from_at m [] i fds = refl
    held_from_at m (x ∷ t) zero fds = let same : m ≡ m + 0 = omega arith in ap (λ (k : ℕ). more_held (holders_in fds k) x) same
    held_from_at m (x ∷ t) (suc i) fds =
        let same : m + 1 + i ≡ m + suc i = omega arith in
        held_from_at (m + 1) t i fds ∙ ap (λ (k : ℕ). more_held (holders_in fds k) (entry_at t i)) same

    pub all_held_recount : (t : Entries) (fds : Descriptors) → IsOpen t → all_held (G t) fds ≡ G (all_held t fds)
    all_held_recount t fds h =
        held_from_set 0 t e (recount φ (entry_at t e)) fds ∙
        ap (λ (y : Option OpenFile). set (all_held t fds) e y) (more_recount (holders_in fds (0 + e)) (entry_at t e) h.0 h.1 h.2 ∙ ap (recount φ) (sym (held_from_at 0 t e fds)))
