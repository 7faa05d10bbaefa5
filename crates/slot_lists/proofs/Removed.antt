-- A removal keeps what holds of the links, and takes the slot out of its list.
use Rattle.std.proofs.Common.{◌≡◌, ◌≢◌, ◌⊎◌, inl, inr, ℕ, ◌+◌, ◌<◌, List, [], ◌∷◌, Bool, true, false, cond, get_or, refl, sym, ap, subst, ◌∙◌, arith, get_or-set_other, get_or-set_same}
use Rattle.std.proofs.Math.ListN.{set, length-set}
use Rattle.std.proofs.lemmas.Bool.{cases_eq, eq-eqb, ne_eqb, eqb-true, or_parts}
use Rattle.std.specs.Prelude.{◌==◌, ◌||◌}
use Rattle.slot_lists.specs.Links.{end_of, list_of, Path, has, without, Linked, AreLists}
use Rattle.slot_lists.proofs.Walks.{walked, walk_is, path_short, suffix, not_stuck}
use Rattle.slot_lists.proofs.Removing.{removed, after}

pub has_not : (xs : List ℕ) (slot : ℕ) → has (without slot xs) slot ≡ false
has_not [] slot = refl
has_not (x ∷ xs) slot = by (x == slot) refl (has_not xs slot) where
  by : (b : Bool) → (x == slot) ≡ b → has (without slot xs) slot ≡ false → has (cond b (without slot xs) (x ∷ without slot xs)) slot ≡ false
  by true is rest = rest
  by false is rest = ap (λ (b : Bool). b || has (without slot xs) slot) (ne_eqb slot x (λ same. let one : (x == slot) ≡ true = eq-eqb x slot (sym same) in let no : ⊥ = cc in no)) ∙ rest

pub has_still : (xs : List ℕ) (slot s : ℕ) → s ≢ slot → has (without slot xs) s ≡ has xs s
has_still [] slot s ne = refl
has_still (x ∷ xs) slot s ne = by (x == slot) refl (has_still xs slot s ne) where
  by : (b : Bool) → (x == slot) ≡ b → has (without slot xs) s ≡ has xs s → has (cond b (without slot xs) (x ∷ without slot xs)) s ≡ ((s == x) || has xs s)
  by true is rest = rest ∙ sym (ap (λ (b : Bool). b || has xs s) (ne_eqb s x (λ same. ne (same ∙ eqb-true x slot is))))
  by false is rest = ap (λ (b : Bool). (s == x) || b) rest

pub without_none : (xs : List ℕ) (slot : ℕ) → has xs slot ≡ false → without slot xs ≡ xs
without_none [] slot none = refl
without_none (x ∷ xs) slot none = by (x == slot) refl (or_parts (slot == x) (has xs slot) none) (without_none xs slot) where
  by : (b : Bool) → (x == slot) ≡ b → ((slot == x) ≡ false) × (has xs slot ≡ false) → (has xs slot ≡ false → without slot xs ≡ xs) → cond b (without slot xs) (x ∷ without slot xs) ≡ x ∷ xs
  by true is parts rest = absurd (let same : (slot == x) ≡ true = eq-eqb slot x (sym (eqb-true x slot is)) in let no : ⊥ = cc in no)
  by false is parts rest = ap (λ (t : List ℕ). x ∷ t) (rest parts.1)

module _ (next prev owner : List ℕ) (kept : AreLists next prev owner) (slot : ℕ) (small : slot < 64) (taken : get_or owner slot 0 < 72) (p n : ℕ) (p_is : get_or prev slot 0 ≡ p) (n_is : get_or next slot 0 ≡ n) where
  end_linked : (e : ℕ) → e < 72 → Linked owner (64 + e)
  end_linked e lt = (omega arith, λ low. absurd (omega arith))

  slot_linked : Linked owner slot
  slot_linked = (omega arith, λ _. taken)

  p_linked : Linked owner p
  p_linked = subst (λ (k : ℕ). Linked owner k) p_is (kept.prev_linked slot slot_linked)

  n_linked : Linked owner n
  n_linked = subst (λ (k : ℕ). Linked owner k) n_is (kept.next_linked slot slot_linked)

  before : get_or next p 0 ≡ slot
  before = ap (λ (k : ℕ). get_or next k 0) (sym p_is) ∙ kept.next_prev slot slot_linked

  behind : get_or prev n 0 ≡ slot
  behind = ap (λ (k : ℕ). get_or prev k 0) (sym n_is) ∙ kept.prev_next slot slot_linked

  path : (e : ℕ) → e < 72 → Path next (get_or next (64 + e) 0) (list_of next e) (64 + e)
  unfolding list_of
  path e lt = walked 64 next (get_or next (64 + e) 0) (64 + e) (omega arith) (kept.ends e lt)

  -- the slot isn't its own neighbour, since its list's walk comes past it to an end
  not_own : get_or next slot 0 ≡ slot → ⊥
  not_own own =
      let home : ℕ = get_or owner slot 0 in
      let stands : has (list_of next (get_or owner slot 0)) slot ≡ true = kept.owned (get_or owner slot 0) slot taken small ∙ eq-eqb (get_or owner slot 0) (get_or owner slot 0) refl in
      let rest = suffix next (get_or next (64 + get_or owner slot 0) 0) (list_of next (get_or owner slot 0)) (64 + get_or owner slot 0) slot (path (get_or owner slot 0) taken) stands in
      not_stuck next slot (slot ∷ rest.0) (64 + get_or owner slot 0) (omega arith) small own rest.1

  n_apart : n ≢ slot
  n_apart same = not_own (n_is ∙ same)

  p_apart : p ≢ slot
  p_apart same = not_own (ap (λ (k : ℕ). get_or next k 0) (sym same) ∙ before)

  less : (i : ℕ) → i ≢ slot → Linked owner i → Linked (set owner slot 72) i
  less i ne linked = (linked.0, λ low. subst (λ (k : ℕ). k < 72) (sym (get_or-set_other owner slot i 72 0 ne)) (linked.1 low))

  owner_slot : get_or (set owner slot 72) slot 0 ≡ 72
  owner_slot = get_or-set_same owner slot 72 0 (omega (arith, kept.owners))

  gone : (i : ℕ) → Linked (set owner slot 72) i → i ≢ slot
  gone i linked same =
      let low : get_or (set owner slot 72) slot 0 < 72 = subst (λ (k : ℕ). get_or (set owner slot 72) k 0 < 72) same (linked.1 (omega arith)) in
      omega (arith, low, owner_slot)

  was : (i : ℕ) → Linked (set owner slot 72) i → Linked owner i
  was i linked = (linked.0, λ low. subst (λ (k : ℕ). k < 72) (get_or-set_other owner slot i 72 0 (gone i linked)) (linked.1 low))

  next_p : get_or (set next p n) p 0 ≡ n
  next_p = get_or-set_same next p n 0 (omega (arith, kept.nexts, p_linked.0))

  prev_n : get_or (set prev n p) n 0 ≡ p
  prev_n = get_or-set_same prev n p 0 (omega (arith, kept.prevs, n_linked.0))

  by_node : (k i : ℕ) (P : ℕ → Type 0) → P k → (i ≢ k → P i) → P i
  by_node k i P one other = go (cases_eq i k) where
    go : (i ≡ k) ⊎ (i ≡ k → ⊥) → P i
    go (inl same) = subst P (sym same) one
    go (inr ne) = other ne

  next_linked_after : (i : ℕ) → Linked (set owner slot 72) i → Linked (set owner slot 72) (get_or (set next p n) i 0)
  next_linked_after i =
      by_node p i (λ i. Linked (set owner slot 72) i → Linked (set owner slot 72) (get_or (set next p n) i 0))
      (λ _. subst (λ (k : ℕ). Linked (set owner slot 72) k) (sym next_p) (less n n_apart n_linked))
      (λ off linked.
      let far : get_or next i 0 ≢ slot = λ same. off (sym (kept.prev_next i (was i linked)) ∙ ap (λ (k : ℕ). get_or prev k 0) same ∙ p_is) in
      subst (λ (k : ℕ). Linked (set owner slot 72) k) (sym (get_or-set_other next p i n 0 off)) (less (get_or next i 0) far (kept.next_linked i (was i linked))))

  prev_linked_after : (i : ℕ) → Linked (set owner slot 72) i → Linked (set owner slot 72) (get_or (set prev n p) i 0)
  prev_linked_after i =
      by_node n i (λ i. Linked (set owner slot 72) i → Linked (set owner slot 72) (get_or (set prev n p) i 0))
      (λ _. subst (λ (k : ℕ). Linked (set owner slot 72) k) (sym prev_n) (less p p_apart p_linked))
      (λ off linked.
      let far : get_or prev i 0 ≢ slot = λ same. off (sym (kept.next_prev i (was i linked)) ∙ ap (λ (k : ℕ). get_or next k 0) same ∙ n_is) in
      subst (λ (k : ℕ). Linked (set owner slot 72) k) (sym (get_or-set_other prev n i p 0 off)) (less (get_or prev i 0) far (kept.prev_linked i (was i linked))))

  prev_next_after : (i : ℕ) → Linked (set owner slot 72) i → get_or (set prev n p) (get_or (set next p n) i 0) 0 ≡ i
  prev_next_after i =
      by_node p i (λ i. Linked (set owner slot 72) i → get_or (set prev n p) (get_or (set next p n) i 0) 0 ≡ i)
      (λ _. ap (λ (k : ℕ). get_or (set prev n p) k 0) next_p ∙ prev_n)
      (λ off linked.
      let far : get_or next i 0 ≢ n = λ same. gone i linked (sym (kept.prev_next i (was i linked)) ∙ ap (λ (k : ℕ). get_or prev k 0) same ∙ behind) in
      ap (λ (k : ℕ). get_or (set prev n p) k 0) (get_or-set_other next p i n 0 off)
      ∙ get_or-set_other prev n (get_or next i 0) p 0 far ∙ kept.prev_next i (was i linked))

  next_prev_after : (i : ℕ) → Linked (set owner slot 72) i → get_or (set next p n) (get_or (set prev n p) i 0) 0 ≡ i
  next_prev_after i =
      by_node n i (λ i. Linked (set owner slot 72) i → get_or (set next p n) (get_or (set prev n p) i 0) 0 ≡ i)
      (λ _. ap (λ (k : ℕ). get_or (set next p n) k 0) prev_n ∙ next_p)
      (λ off linked.
      let far : get_or prev i 0 ≢ p = λ same. gone i linked (sym (kept.next_prev i (was i linked)) ∙ ap (λ (k : ℕ). get_or next k 0) same ∙ before) in
      ap (λ (k : ℕ). get_or (set next p n) k 0) (get_or-set_other prev n i p 0 off)
      ∙ get_or-set_other next p (get_or prev i 0) n 0 far ∙ kept.next_prev i (was i linked))

  -- ---- the lists

  path_after : (e : ℕ) → e < 72 → Path (set next p n) (get_or (set next p n) (64 + e) 0) (without slot (list_of next e)) (64 + e)
  path_after e lt =
      let far : (64 + e == slot) ≡ false = ne_eqb (64 + e) slot (λ same. omega (arith, same, small)) in
      subst (λ (k : ℕ). Path (set next p n) k (without slot (list_of next e)) (64 + e))
      (sym (after next p slot n (64 + e) (Linked owner) kept.next_linked (λ k. get_or prev k 0) kept.prev_next (omega arith) small (omega (arith, kept.nexts, p_linked.0)) p_linked before n_is (64 + e) (end_linked e lt) far))
      (removed next p slot n (64 + e) (Linked owner) kept.next_linked (λ k. get_or prev k 0) kept.prev_next (omega arith) small (omega (arith, kept.nexts, p_linked.0)) p_linked before n_is (get_or next (64 + e) 0) (list_of next e) (kept.next_linked (64 + e) (end_linked e lt)) (path e lt))

  found : (e : ℕ) → e < 72 → (list_of (set next p n) e ≡ without slot (list_of next e)) × (end_of 64 (set next p n) (get_or (set next p n) (64 + e) 0) ≡ 64 + e)
  unfolding list_of
  found e lt =
      let xs : List ℕ = without slot (list_of next e) in
      walk_is 64 (set next p n) (get_or (set next p n) (64 + e) 0) (without slot (list_of next e)) (64 + e) (omega arith) (path_short (set next p n) (get_or (set next p n) (64 + e) 0) (without slot (list_of next e)) (64 + e) (omega arith) (path_after e lt)) (path_after e lt)

  pub list_after : (e : ℕ) → e < 72 → list_of (set next p n) e ≡ without slot (list_of next e)
  list_after e lt = (found e lt).0

  owned_after : (e s : ℕ) → e < 72 → s < 64 → has (list_of (set next p n) e) s ≡ (get_or (set owner slot 72) s 0 == e)
  owned_after e s lt small_s = ap (λ (xs : List ℕ). has xs s) (list_after e lt) ∙ go (cases_eq s slot) where
    go : (s ≡ slot) ⊎ (s ≡ slot → ⊥) → has (without slot (list_of next e)) s ≡ (get_or (set owner slot 72) s 0 == e)
    go (inl same) =
        ap (has (without slot (list_of next e))) same ∙ has_not (list_of next e) slot
        ∙ sym (ne_eqb (get_or (set owner slot 72) s 0) e (λ is. let far : get_or (set owner slot 72) s 0 ≡ 72 = ap (λ (k : ℕ). get_or (set owner slot 72) k 0) same ∙ owner_slot in omega (arith, is, far, lt)))
    go (inr ne) =
        has_still (list_of next e) slot s ne ∙ kept.owned e s lt small_s ∙ ap (λ (k : ℕ). k == e) (sym (get_or-set_other owner slot s 72 0 ne))

  pub kept_after : AreLists (set next p n) (set prev n p) (set owner slot 72)
  kept_after = record {
    nexts = length-set next p n ∙ kept.nexts;
    prevs = length-set prev n p ∙ kept.prevs;
    owners = length-set owner slot 72 ∙ kept.owners;
    next_linked = next_linked_after;
    prev_linked = prev_linked_after;
    prev_next = prev_next_after;
    next_prev = next_prev_after;
    ends = λ e lt. (found e lt).1;
    owned = owned_after;
  }
