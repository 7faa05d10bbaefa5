-- A slot that stands on no path is linked in before the end H of one: that path gains it at its end, and the others stay.
use Rattle.std.proofs.Common.{◌≡◌, ◌≢◌, ℕ, ◌<◌, ◌≤◌, List, [], ◌∷◌, ◌++◌, length, get_or, sym, ap, subst, ◌∙◌, arith, get_or-set_other, get_or-set_same}
use Rattle.std.proofs.Math.ListN.{set, length-set}
use Rattle.slot_lists.specs.Links.{Path}

module _
    (next : List ℕ) (p slot H : ℕ)
    (Linked : ℕ → Type 0) (closed : (i : ℕ) → Linked i → Linked (get_or next i 0))
    (back : ℕ → ℕ) (back_is : (i : ℕ) → Linked i → back (get_or next i 0) ≡ i)
    (new : Linked slot → ⊥) (far : 64 ≤ H) (small : slot < 64)
    (p_in : p < length next) (slot_in : slot < length next) (linked_p : Linked p) (last : get_or next p 0 ≡ H) where
  after : List ℕ
  after = set (set next p slot) slot H

  apart : (i : ℕ) → Linked i → i ≢ slot
  apart i linked same = new (subst Linked same linked)

  at_slot : get_or (set (set next p slot) slot H) slot 0 ≡ H
  at_slot = get_or-set_same (set next p slot) slot H 0 (omega (arith, slot_in, length-set next p slot))

  at_p : get_or (set (set next p slot) slot H) p 0 ≡ slot
  at_p = get_or-set_other (set next p slot) slot p H 0 (apart p linked_p) ∙ get_or-set_same next p slot 0 p_in

  at_other : (i : ℕ) → Linked i → i ≢ p → get_or (set (set next p slot) slot H) i 0 ≡ get_or next i 0
  at_other i linked ne = get_or-set_other (set next p slot) slot i H 0 (apart i linked) ∙ get_or-set_other next p i slot 0 ne

  -- only p comes right before H
  is_p : (i : ℕ) → Linked i → get_or next i 0 ≡ H → i ≡ p
  is_p i linked is = sym (back_is i linked) ∙ ap back (is ∙ sym last) ∙ back_is p linked_p

  pub pushed : (i : ℕ) (xs : List ℕ) → Linked i → Path next (get_or next i 0) xs H → Path (set (set next p slot) slot H) (get_or (set (set next p slot) slot H) i 0) (xs ++ slot ∷ []) H
  pushed i [] linked is =
      (ap (λ (k : ℕ). get_or (set (set next p slot) slot H) k 0) (is_p i linked is) ∙ at_p, small, at_slot)
  pushed i (x ∷ xs) linked path =
      let ne : i ≢ p = λ same. let off : x ≡ H = sym path.0 ∙ ap (λ (k : ℕ). get_or next k 0) same ∙ last in absurd (omega (arith, off, far, path.1)) in
      (at_other i linked ne ∙ path.0, path.1, pushed x xs (subst Linked path.0 (closed i linked)) path.2)

  pub stays : (i : ℕ) (xs : List ℕ) (e : ℕ) → e ≢ H → Linked i → Path next (get_or next i 0) xs e → Path (set (set next p slot) slot H) (get_or (set (set next p slot) slot H) i 0) xs e
  stays i [] e other linked is =
      at_other i linked (λ same. other (sym is ∙ ap (λ (k : ℕ). get_or next k 0) same ∙ last)) ∙ is
  stays i (x ∷ xs) e other linked path =
      let ne : i ≢ p = λ same. let off : x ≡ H = sym path.0 ∙ ap (λ (k : ℕ). get_or next k 0) same ∙ last in absurd (omega (arith, off, far, path.1)) in
      (at_other i linked ne ∙ path.0, path.1, stays x xs e other (subst Linked path.0 (closed i linked)) path.2)
