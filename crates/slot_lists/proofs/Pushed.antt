-- A push keeps what holds of the links, adds the slot at the end of its list, and leaves the other lists.
use Rattle.std.proofs.Common.{◌≡◌, ◌≢◌, ◌⊎◌, inl, inr, ℕ, ◌+◌, ◌<◌, ◌≤◌, List, [], ◌∷◌, ◌++◌, Bool, true, false, get_or, leb, refl, sym, ap, subst, ◌∙◌, arith, get_or-set_other, get_or-set_same}
use Rattle.std.proofs.Math.ListN.{set, length-set}
use Rattle.std.proofs.lemmas.Bool.{cases_eq, eq-eqb, ne_eqb, leb-true, leb-false}
use Rattle.std.specs.Prelude.{◌==◌, ◌||◌}
use Rattle.slot_lists.specs.Links.{end_of, list_of, Path, has, Linked, AreLists}
use Rattle.slot_lists.proofs.Walks.{walked, walk_is, path_short}
use Rattle.slot_lists.proofs.Links.{linked_in, length-linked_in, at_slot, at_entry, at_others}
use Rattle.slot_lists.proofs.Pushing.{pushed, stays}

pub has_pushed : (xs : List ℕ) (slot s : ℕ) → has (xs ++ slot ∷ []) s ≡ (has xs s || (s == slot))
has_pushed [] slot s = by (s == slot) where
  by : (b : Bool) → (b || false) ≡ b
  by true = refl
  by false = refl
has_pushed (x ∷ xs) slot s = by (s == x) (has_pushed xs slot s) where
  by : (b : Bool) → has (xs ++ slot ∷ []) s ≡ (has xs s || (s == slot)) → (b || has (xs ++ slot ∷ []) s) ≡ ((b || has xs s) || (s == slot))
  by true rest = refl
  by false rest = rest

or_true : (b c : Bool) → c ≡ true → (b || c) ≡ true
or_true true c is = refl
or_true false c is = is

or_false : (b c : Bool) → c ≡ false → (b || c) ≡ b
or_false true c is = refl
or_false false c is = is

-- a slot that no list has has no owner
pub not_owned : (next prev owner : List ℕ) → AreLists next prev owner → (slot : ℕ) → slot < 64 → ((h : ℕ) → h < 72 → has (list_of next h) slot ≡ false) → 72 ≤ get_or owner slot 0
not_owned next prev owner kept slot small none = by (leb 72 (get_or owner slot 0)) refl where
  by : (b : Bool) → leb 72 (get_or owner slot 0) ≡ b → 72 ≤ get_or owner slot 0
  by true test = leb-true 72 (get_or owner slot 0) test
  by false test =
      let lt : get_or owner slot 0 < 72 = leb-false 72 (get_or owner slot 0) test in
      let stands : has (list_of next (get_or owner slot 0)) slot ≡ true = kept.owned (get_or owner slot 0) slot lt small ∙ eq-eqb (get_or owner slot 0) (get_or owner slot 0) refl in
      absurd (let not : has (list_of next (get_or owner slot 0)) slot ≡ false = none (get_or owner slot 0) lt in let no : ⊥ = cc in no)

module _ (next prev owner : List ℕ) (kept : AreLists next prev owner) (h slot : ℕ) (h_in : h < 72) (small : slot < 64) (free : 72 ≤ get_or owner slot 0) (p : ℕ) (p_is : get_or prev (64 + h) 0 ≡ p) where
  end_linked : (e : ℕ) → e < 72 → Linked owner (64 + e)
  end_linked e lt = (omega arith, λ low. absurd (omega arith))

  p_linked : Linked owner p
  p_linked = subst (λ (k : ℕ). Linked owner k) p_is (kept.prev_linked (64 + h) (end_linked h h_in))

  last : get_or next p 0 ≡ 64 + h
  last = ap (λ (k : ℕ). get_or next k 0) (sym p_is) ∙ kept.next_prev (64 + h) (end_linked h h_in)

  not_linked : Linked owner slot → ⊥
  not_linked linked = omega (arith, linked.1 small, free)

  apart : (i : ℕ) → Linked owner i → i ≢ slot
  apart i linked same = not_linked (subst (λ (k : ℕ). Linked owner k) same linked)

  more : (i : ℕ) → Linked owner i → Linked (set owner slot h) i
  more i linked = (linked.0, λ low. subst (λ (k : ℕ). k < 72) (sym (get_or-set_other owner slot i h 0 (apart i linked))) (linked.1 low))

  slot_linked : Linked (set owner slot h) slot
  slot_linked = (omega arith, λ low. subst (λ (k : ℕ). k < 72) (sym (get_or-set_same owner slot h 0 (omega (arith, kept.owners)))) h_in)

  was : (i : ℕ) → i ≢ slot → Linked (set owner slot h) i → Linked owner i
  was i ne linked = (linked.0, λ low. subst (λ (k : ℕ). k < 72) (get_or-set_other owner slot i h 0 ne) (linked.1 low))

  next_slot : get_or (linked_in next p slot (64 + h)) slot 0 ≡ 64 + h
  next_slot = at_slot next p slot (64 + h) (omega (arith, kept.nexts))

  next_p : get_or (linked_in next p slot (64 + h)) p 0 ≡ slot
  next_p = at_entry next p slot (64 + h) (omega (arith, kept.nexts, p_linked.0)) (apart p p_linked)

  prev_slot : get_or (linked_in prev (64 + h) slot p) slot 0 ≡ p
  prev_slot = at_slot prev (64 + h) slot p (omega (arith, kept.prevs))

  prev_end : get_or (linked_in prev (64 + h) slot p) (64 + h) 0 ≡ slot
  prev_end = at_entry prev (64 + h) slot p (omega (arith, kept.prevs)) (apart (64 + h) (end_linked h h_in))

  -- by whether i is the slot, the node k that its array's other write is at, or another
  by_node : (k i : ℕ) (P : ℕ → Type 0) → P slot → P k → (i ≢ slot → i ≢ k → P i) → P i
  by_node k i P one two three = go (cases_eq i slot) (cases_eq i k) where
    go : (i ≡ slot) ⊎ (i ≡ slot → ⊥) → (i ≡ k) ⊎ (i ≡ k → ⊥) → P i
    go (inl same) other = subst P (sym same) one
    go (inr ne) (inl same) = subst P (sym same) two
    go (inr ne) (inr apart) = three ne apart

  next_linked_after : (i : ℕ) → Linked (set owner slot h) i → Linked (set owner slot h) (get_or (linked_in next p slot (64 + h)) i 0)
  next_linked_after i =
      by_node p i (λ i. Linked (set owner slot h) i → Linked (set owner slot h) (get_or (linked_in next p slot (64 + h)) i 0))
      (λ _. subst (λ (k : ℕ). Linked (set owner slot h) k) (sym next_slot) (more (64 + h) (end_linked h h_in)))
      (λ _. subst (λ (k : ℕ). Linked (set owner slot h) k) (sym next_p) slot_linked)
      (λ ne off linked. subst (λ (k : ℕ). Linked (set owner slot h) k) (sym (at_others next p slot (64 + h) i off ne)) (more (get_or next i 0) (kept.next_linked i (was i ne linked))))

  prev_linked_after : (i : ℕ) → Linked (set owner slot h) i → Linked (set owner slot h) (get_or (linked_in prev (64 + h) slot p) i 0)
  prev_linked_after i =
      by_node (64 + h) i (λ i. Linked (set owner slot h) i → Linked (set owner slot h) (get_or (linked_in prev (64 + h) slot p) i 0))
      (λ _. subst (λ (k : ℕ). Linked (set owner slot h) k) (sym prev_slot) (more p p_linked))
      (λ _. subst (λ (k : ℕ). Linked (set owner slot h) k) (sym prev_end) slot_linked)
      (λ ne off linked. subst (λ (k : ℕ). Linked (set owner slot h) k) (sym (at_others prev (64 + h) slot p i off ne)) (more (get_or prev i 0) (kept.prev_linked i (was i ne linked))))

  prev_next_after : (i : ℕ) → Linked (set owner slot h) i → get_or (linked_in prev (64 + h) slot p) (get_or (linked_in next p slot (64 + h)) i 0) 0 ≡ i
  prev_next_after i =
      by_node p i (λ i. Linked (set owner slot h) i → get_or (linked_in prev (64 + h) slot p) (get_or (linked_in next p slot (64 + h)) i 0) 0 ≡ i)
      (λ _. ap (λ (k : ℕ). get_or (linked_in prev (64 + h) slot p) k 0) next_slot ∙ prev_end)
      (λ _. ap (λ (k : ℕ). get_or (linked_in prev (64 + h) slot p) k 0) next_p ∙ prev_slot)
      (λ ne off linked.
      let old : Linked owner i = was i ne linked in
      let far : get_or next i 0 ≢ 64 + h = λ same. off (sym (kept.prev_next i old) ∙ ap (λ (k : ℕ). get_or prev k 0) same ∙ p_is) in
      ap (λ (k : ℕ). get_or (linked_in prev (64 + h) slot p) k 0) (at_others next p slot (64 + h) i off ne)
      ∙ at_others prev (64 + h) slot p (get_or next i 0) far (apart (get_or next i 0) (kept.next_linked i old))
      ∙ kept.prev_next i old)

  next_prev_after : (i : ℕ) → Linked (set owner slot h) i → get_or (linked_in next p slot (64 + h)) (get_or (linked_in prev (64 + h) slot p) i 0) 0 ≡ i
  next_prev_after i =
      by_node (64 + h) i (λ i. Linked (set owner slot h) i → get_or (linked_in next p slot (64 + h)) (get_or (linked_in prev (64 + h) slot p) i 0) 0 ≡ i)
      (λ _. ap (λ (k : ℕ). get_or (linked_in next p slot (64 + h)) k 0) prev_slot ∙ next_p)
      (λ _. ap (λ (k : ℕ). get_or (linked_in next p slot (64 + h)) k 0) prev_end ∙ next_slot)
      (λ ne off linked.
      let old : Linked owner i = was i ne linked in
      let far : get_or prev i 0 ≢ p = λ same. off (sym (kept.next_prev i old) ∙ ap (λ (k : ℕ). get_or next k 0) same ∙ last) in
      ap (λ (k : ℕ). get_or (linked_in next p slot (64 + h)) k 0) (at_others prev (64 + h) slot p i off ne)
      ∙ at_others next p slot (64 + h) (get_or prev i 0) far (apart (get_or prev i 0) (kept.prev_linked i old))
      ∙ kept.next_prev i old)

  -- ---- the lists

  path : (e : ℕ) → e < 72 → Path next (get_or next (64 + e) 0) (list_of next e) (64 + e)
  unfolding list_of
  path e lt = walked 64 next (get_or next (64 + e) 0) (64 + e) (omega arith) (kept.ends e lt)

  here : Path (linked_in next p slot (64 + h)) (get_or (linked_in next p slot (64 + h)) (64 + h) 0) (list_of next h ++ slot ∷ []) (64 + h)
  here =
      pushed next p slot (64 + h) (Linked owner) kept.next_linked (λ k. get_or prev k 0) kept.prev_next not_linked (omega arith) small (omega (arith, kept.nexts, p_linked.0)) (omega (arith, kept.nexts)) p_linked last
      (64 + h) (list_of next h) (end_linked h h_in) (path h h_in)

  there : (e : ℕ) → e ≢ h → e < 72 → Path (linked_in next p slot (64 + h)) (get_or (linked_in next p slot (64 + h)) (64 + e) 0) (list_of next e) (64 + e)
  there e ne lt =
      stays next p slot (64 + h) (Linked owner) kept.next_linked (λ k. get_or prev k 0) kept.prev_next not_linked (omega arith) small (omega (arith, kept.nexts, p_linked.0)) (omega (arith, kept.nexts)) p_linked last
      (64 + e) (list_of next e) (64 + e) (λ same. ne (omega arith)) (end_linked e lt) (path e lt)

  found : (e : ℕ) (xs : List ℕ) → Path (linked_in next p slot (64 + h)) (get_or (linked_in next p slot (64 + h)) (64 + e) 0) xs (64 + e) → (list_of (linked_in next p slot (64 + h)) e ≡ xs) × (end_of 64 (linked_in next p slot (64 + h)) (get_or (linked_in next p slot (64 + h)) (64 + e) 0) ≡ 64 + e)
  unfolding list_of
  found e xs along =
      let after = linked_in next p slot (64 + h) in
      walk_is 64 after (get_or after (64 + e) 0) xs (64 + e) (omega arith) (path_short after (get_or after (64 + e) 0) xs (64 + e) (omega arith) along) along

  pub list_here : list_of (linked_in next p slot (64 + h)) h ≡ list_of next h ++ slot ∷ []
  list_here = (found h (list_of next h ++ slot ∷ []) here).0

  pub list_there : (e : ℕ) → e ≢ h → e < 72 → list_of (linked_in next p slot (64 + h)) e ≡ list_of next e
  list_there e ne lt = (found e (list_of next e) (there e ne lt)).0

  ends_after : (e : ℕ) → e < 72 → end_of 64 (linked_in next p slot (64 + h)) (get_or (linked_in next p slot (64 + h)) (64 + e) 0) ≡ 64 + e
  ends_after e lt = go (cases_eq e h) where
    go : (e ≡ h) ⊎ (e ≡ h → ⊥) → end_of 64 (linked_in next p slot (64 + h)) (get_or (linked_in next p slot (64 + h)) (64 + e) 0) ≡ 64 + e
    go (inl same) =
        subst (λ (k : ℕ). end_of 64 (linked_in next p slot (64 + h)) (get_or (linked_in next p slot (64 + h)) (64 + k) 0) ≡ 64 + k) (sym same)
        (found h (list_of next h ++ slot ∷ []) here).1
    go (inr ne) = (found e (list_of next e) (there e ne lt)).1

  owner_slot : get_or (set owner slot h) slot 0 ≡ h
  owner_slot = get_or-set_same owner slot h 0 (omega (arith, kept.owners))

  -- the slot itself, and any other, in the list h and in any other
  slot_here : (s : ℕ) → s ≡ slot → has (list_of next h ++ slot ∷ []) s ≡ (get_or (set owner slot h) s 0 == h)
  slot_here s same =
      has_pushed (list_of next h) slot s ∙ or_true (has (list_of next h) s) (s == slot) (eq-eqb s slot same)
      ∙ sym (eq-eqb (get_or (set owner slot h) s 0) h (ap (λ (k : ℕ). get_or (set owner slot h) k 0) same ∙ owner_slot))

  other_here : (s : ℕ) → s ≢ slot → s < 64 → has (list_of next h ++ slot ∷ []) s ≡ (get_or (set owner slot h) s 0 == h)
  other_here s ne lt =
      has_pushed (list_of next h) slot s ∙ or_false (has (list_of next h) s) (s == slot) (ne_eqb s slot ne)
      ∙ kept.owned h s h_in lt ∙ ap (λ (k : ℕ). k == h) (sym (get_or-set_other owner slot s h 0 ne))

  slot_there : (e s : ℕ) → e ≢ h → e < 72 → s ≡ slot → has (list_of next e) s ≡ (get_or (set owner slot h) s 0 == e)
  slot_there e s ne lt same =
      ap (has (list_of next e)) same ∙ kept.owned e slot lt small ∙ ne_eqb (get_or owner slot 0) e (λ is. omega (arith, is, free, lt))
      ∙ sym (ne_eqb (get_or (set owner slot h) s 0) e (λ is. ne (sym is ∙ ap (λ (k : ℕ). get_or (set owner slot h) k 0) same ∙ owner_slot)))

  other_there : (e s : ℕ) → e < 72 → s ≢ slot → s < 64 → has (list_of next e) s ≡ (get_or (set owner slot h) s 0 == e)
  other_there e s lt ne small_s = kept.owned e s lt small_s ∙ ap (λ (k : ℕ). k == e) (sym (get_or-set_other owner slot s h 0 ne))

  owned_after : (e s : ℕ) → e < 72 → s < 64 → has (list_of (linked_in next p slot (64 + h)) e) s ≡ (get_or (set owner slot h) s 0 == e)
  owned_after e s lt small_s = go (cases_eq e h) (cases_eq s slot) where
    go : (e ≡ h) ⊎ (e ≡ h → ⊥) → (s ≡ slot) ⊎ (s ≡ slot → ⊥) → has (list_of (linked_in next p slot (64 + h)) e) s ≡ (get_or (set owner slot h) s 0 == e)
    go (inl same) (inl one) =
        subst (λ (k : ℕ). has (list_of (linked_in next p slot (64 + h)) k) s ≡ (get_or (set owner slot h) s 0 == k)) (sym same)
        (ap (λ (xs : List ℕ). has xs s) list_here ∙ slot_here s one)
    go (inl same) (inr ne) =
        subst (λ (k : ℕ). has (list_of (linked_in next p slot (64 + h)) k) s ≡ (get_or (set owner slot h) s 0 == k)) (sym same)
        (ap (λ (xs : List ℕ). has xs s) list_here ∙ other_here s ne small_s)
    go (inr off) (inl one) = ap (λ (xs : List ℕ). has xs s) (list_there e off lt) ∙ slot_there e s off lt one
    go (inr off) (inr ne) = ap (λ (xs : List ℕ). has xs s) (list_there e off lt) ∙ other_there e s lt ne small_s

  pub kept_after : AreLists (linked_in next p slot (64 + h)) (linked_in prev (64 + h) slot p) (set owner slot h)
  kept_after = record {
    nexts = length-linked_in next p slot (64 + h) ∙ kept.nexts;
    prevs = length-linked_in prev (64 + h) slot p ∙ kept.prevs;
    owners = length-set owner slot h ∙ kept.owners;
    next_linked = next_linked_after;
    prev_linked = prev_linked_after;
    prev_next = prev_next_after;
    next_prev = next_prev_after;
    ends = ends_after;
    owned = owned_after;
  }
