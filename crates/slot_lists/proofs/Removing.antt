-- A slot is linked out between the nodes p and n: its path loses it, and the others stay.
use Rattle.std.proofs.Common.{◌≡◌, ℕ, ◌<◌, ◌≤◌, List, [], ◌∷◌, Bool, true, false, cond, length, get_or, refl, sym, ap, subst, ◌∙◌, arith, get_or-set_other, get_or-set_same}
use Rattle.std.proofs.Math.ListN.{set}
use Rattle.std.proofs.lemmas.Bool.{eqb-true, eqb-false}
use Rattle.std.specs.Prelude.{◌==◌}
use Rattle.slot_lists.specs.Links.{Path, without}

module _
    (next : List ℕ) (p slot n e : ℕ)
    (Linked : ℕ → Type 0) (closed : (i : ℕ) → Linked i → Linked (get_or next i 0))
    (back : ℕ → ℕ) (back_is : (i : ℕ) → Linked i → back (get_or next i 0) ≡ i)
    (far : 64 ≤ e) (small : slot < 64)
    (p_in : p < length next) (linked_p : Linked p) (before : get_or next p 0 ≡ slot) (behind : get_or next slot 0 ≡ n) where
  -- only p comes right before the slot
  is_p : (i : ℕ) → Linked i → get_or next i 0 ≡ slot → i ≡ p
  is_p i linked is = sym (back_is i linked) ∙ ap back (is ∙ sym before) ∙ back_is p linked_p

  -- what comes after a node of the path then
  pub after : (i : ℕ) → Linked i → (i == slot) ≡ false → get_or (set next p n) i 0 ≡ cond (get_or next i 0 == slot) n (get_or next i 0)
  after i linked ne = by (get_or next i 0 == slot) refl where
    by : (b : Bool) → (get_or next i 0 == slot) ≡ b → get_or (set next p n) i 0 ≡ cond b n (get_or next i 0)
    by true is = ap (λ (k : ℕ). get_or (set next p n) k 0) (is_p i linked (eqb-true (get_or next i 0) slot is)) ∙ get_or-set_same next p n 0 p_in
    by false is = get_or-set_other next p i n 0 (λ same. eqb-false (get_or next i 0) slot is (ap (λ (k : ℕ). get_or next k 0) same ∙ before))

  step : (x : ℕ) (xs : List ℕ) (b : Bool) → (x == slot) ≡ b → x < 64 → Linked x → Path next (get_or next x 0) xs e → Path (set next p n) (cond (get_or next x 0 == slot) n (get_or next x 0)) (without slot xs) e → Path (set next p n) (cond b n x) (cond b (without slot xs) (x ∷ without slot xs)) e
  step x xs true is lt linked path rest =
      let same : x ≡ slot = eqb-true x slot is in
      let on : get_or next x 0 ≡ n = ap (λ (k : ℕ). get_or next k 0) same ∙ behind in
      by (get_or next x 0 == slot) refl rest on where
        by : (b : Bool) → (get_or next x 0 == slot) ≡ b → Path (set next p n) (cond b n (get_or next x 0)) (without slot xs) e → get_or next x 0 ≡ n → Path (set next p n) n (without slot xs) e
        by true test rest on = rest
        by false test rest on = subst (λ (k : ℕ). Path (set next p n) k (without slot xs) e) on rest
  step x xs false is lt linked path rest =
      (refl, lt, subst (λ (k : ℕ). Path (set next p n) k (without slot xs) e) (sym (after x linked is)) rest)

  -- a path from i, past the slot where it begins there
  pub removed : (i : ℕ) (xs : List ℕ) → Linked i → Path next i xs e → Path (set next p n) (cond (i == slot) n i) (without slot xs) e
  removed i [] linked is = by (i == slot) refl where
    by : (b : Bool) → (i == slot) ≡ b → cond b n i ≡ e
    by true test = absurd (omega (arith, eqb-true i slot test, is))
    by false test = is
  removed i (x ∷ xs) linked path =
      let here : Linked x = subst Linked path.0 linked in
      subst (λ (k : ℕ). Path (set next p n) (cond (k == slot) n k) (without slot (x ∷ xs)) e) (sym path.0)
      (step x xs (x == slot) refl path.1 here path.2 (removed (get_or next x 0) xs (closed x here) path.2))
