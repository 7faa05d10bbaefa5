-- What all processes have together: no call makes it more, and with it each has enough.
use Rattle.std.proofs.Common.{◌≡◌, ◌≢◌, ◌⊎◌, inl, inr, ℕ, ◌<◌, ◌≤◌, Bool, true, false, ◌==◌, refl, sym, ap, ◌∙◌, subst, arith}
use Rattle.std.specs.Prelude.{if◌then◌else◌}
use Rattle.std.proofs.lemmas.Bool.{cases_eq, eqb-true}
use Rattle.process_model.specs.Seen.{Fds, Act, Seen, free, zombie, live, View}
use Rattle.process_model.specs.Shape.{same, is_used}
use Rattle.process_model.specs.Effect.{ParentIs, Sets, Exits, given}
use Rattle.process_model.proofs.Counts.{same_other, same_yes, none_or_some}
use Rattle.law_limits.proofs.behind.Sums.{total, total_same, where_any, total_where_none, total_zero}
use Rattle.law_limits.proofs.behind.Fits.{ActFits}

-- ---- children

-- 1 where the slot's process is a child of r
abbrev pub kid : ℕ → Seen → ℕ
kid r free = 0
kid r (zombie parent) = same r parent
kid r (live parent act n d) = same r parent

abbrev pub kids : View → ℕ → ℕ
kids V r = total (λ c. kid r (V.slots c)) 0 64

-- what the children of r are to give back, by what each is
abbrev pub owed : View → (ℕ → ℕ) → ℕ → ℕ
owed V g r = total (λ c. where_any (kid r (V.slots c)) (g c)) 0 64

kid_is : (r : ℕ) (s : Seen) → 1 ≤ kid r s → ParentIs s r
kid_is r free some = absurd (omega (arith, some))
kid_is r (zombie parent) some = sym (same_yes r parent some)
kid_is r (live parent act n d) some = sym (same_yes r parent some)

pub none_kids : (V : View) (r : ℕ) → ((q : ℕ) → ParentIs (V.slots q) r → ⊥) → kids V r ≡ 0
none_kids V r none = total_zero (λ c. kid r (V.slots c)) 0 64 (λ c. at_slot c (none_or_some (kid r (V.slots c))))
  where
    at_slot : (c : ℕ) → (kid r (V.slots c) ≡ 0) ⊎ (1 ≤ kid r (V.slots c)) → kid r (V.slots c) ≡ 0
    at_slot c (inl is) = is
    at_slot c (inr some) = absurd (none c (kid_is r (V.slots c) some))

-- nobody is owed anything by no children
pub none_owed : (V : View) (g : ℕ → ℕ) (r : ℕ) → kids V r ≡ 0 → owed V g r ≡ 0
none_owed V g r none = total_where_none (λ c. kid r (V.slots c)) g 0 64 none

-- ---- what each slot has

abbrev pub SlotFits : ℕ → ℕ → ℕ → ℕ → ℕ → Seen → Type 0
SlotFits q w g o k free = k ≡ 0
SlotFits q w g o k (zombie parent) = (parent ≢ q) × (k ≡ 0) × (1 ≤ w) × (g ≤ w)
SlotFits q w g o k (live parent act n d) = (parent ≢ q) × (1 ≤ w) × ActFits w g o k d act

pub slot_is : (q w x g h o p k l : ℕ) (s t : Seen) → x ≡ w → h ≡ g → p ≡ o → l ≡ k → t ≡ s → SlotFits q w g o k s → SlotFits q x h p l t
slot_is q w x g h o p k l s t xw hg po lk ts fits =
    subst (λ n. SlotFits q n h p l t) (sym xw)
    (subst (λ n. SlotFits q w n p l t) (sym hg)
    (subst (λ n. SlotFits q w g n l t) (sym po)
    (subst (λ n. SlotFits q w g o n t) (sym lk)
    (subst (λ u. SlotFits q w g o k u) (sym ts) fits))))

-- so much is enough for all
pub record Budget (V : View) (most : ℕ) : Type 0 where
  pub w : ℕ → ℕ
  pub g : ℕ → ℕ
  pub sum : total w 0 64 ≤ most
  pub init : 1 ≤ w 0
  pub fits : (q : ℕ) → q ≢ 0 → SlotFits q (w q) (g q) (owed V g q) (kids V q) (V.slots q)

-- what is used is one of 63 slots
abbrev pub InRange : View → Type 0
InRange V = (q : ℕ) → 1 ≤ is_used (V.slots q) → (q ≢ 0) × (q < 64)

-- ---- slots whose processes have the same parents

module _ (V W : View) (most : ℕ) (B : Budget V most) where
  module _ (alike : (r c : ℕ) → r ≢ 0 → kid r (W.slots c) ≡ kid r (V.slots c)) where
    same_kids : (r : ℕ) → r ≢ 0 → kids W r ≡ kids V r
    same_kids r up = total_same (λ c. kid r (V.slots c)) (λ c. kid r (W.slots c)) 0 64 (λ c. alike r c up)

    same_owed : (r : ℕ) → r ≢ 0 → owed W B.g r ≡ owed V B.g r
    same_owed r up = total_same (λ c. where_any (kid r (V.slots c)) (B.g c)) (λ c. where_any (kid r (W.slots c)) (B.g c)) 0 64 (λ c. ap (λ n. where_any n (B.g c)) (alike r c up))

  -- nothing changes
  pub quiet_keeps : ((q : ℕ) → W.slots q ≡ V.slots q) → Budget W most
  quiet_keeps alike =
      let kin : (r c : ℕ) → r ≢ 0 → kid r (W.slots c) ≡ kid r (V.slots c) = λ r c up. ap (kid r) (alike c) in
      record {
        w = B.w;
        g = B.g;
        sum = B.sum;
        init = B.init;
        fits = λ q up. slot_is q (B.w q) (B.w q) (B.g q) (B.g q) _ _ _ _ (V.slots q) (W.slots q) refl refl (same_owed kin q up) (same_kids kin q up) (alike q) (B.fits q up);
      }

  -- the process p goes on, or sleeps
  module _ (p parent : ℕ) (act now : Act) (n m : ℕ) (d e : Fds) (slot : V.slots p ≡ live parent act n d) (sets : Sets V W p (live parent now m e)) where
    kin : (r c : ℕ) → kid r (W.slots c) ≡ kid r (V.slots c)
    kin r c = by (cases_eq c p)
      where
        by : (c ≡ p) ⊎ (c ≢ p) → kid r (W.slots c) ≡ kid r (V.slots c)
        by (inl is) = ap (λ q. kid r (W.slots q)) is ∙ (ap (kid r) sets.here ∙ sym (ap (λ q. kid r (V.slots q)) is ∙ ap (kid r) slot))
        by (inr ne) = ap (kid r) (sets.others c ne)

    pub set_keeps : p ≢ 0 → ActFits (B.w p) (B.g p) (owed V B.g p) (kids V p) e now → Budget W most
    set_keeps up fit = record {
      w = B.w;
      g = B.g;
      sum = B.sum;
      init = B.init;
      fits = λ q high. by q high (cases_eq q p);
    }
      where
        kept : (r c : ℕ) → r ≢ 0 → kid r (W.slots c) ≡ kid r (V.slots c)
        kept r c high = kin r c

        at_p : SlotFits p (B.w p) (B.g p) (owed V B.g p) (kids V p) (live parent now m e)
        at_p = let was = subst (SlotFits p (B.w p) (B.g p) (owed V B.g p) (kids V p)) slot (B.fits p up) in (was.0, was.1, fit)

        by : (q : ℕ) → q ≢ 0 → (q ≡ p) ⊎ (q ≢ p) → SlotFits q (B.w q) (B.g q) (owed W B.g q) (kids W q) (W.slots q)
        by q high (inl is) =
            subst (λ q. SlotFits q (B.w q) (B.g q) (owed W B.g q) (kids W q) (W.slots q)) (sym is)
            (slot_is p (B.w p) (B.w p) (B.g p) (B.g p) _ _ _ _ (live parent now m e) (W.slots p) refl refl (same_owed kept p up) (same_kids kept p up) sets.here at_p)
        by q high (inr ne) = slot_is q (B.w q) (B.w q) (B.g q) (B.g q) _ _ _ _ (V.slots q) (W.slots q) refl refl (same_owed kept q high) (same_kids kept q high) (sets.others q ne) (B.fits q high)

  -- ---- exit

  given_kid : (p r : ℕ) (s : Seen) → r ≢ 0 → r ≢ p → kid r (given p s) ≡ kid r s
  given_kid p r free high ne = refl
  given_kid p r (zombie q) high ne = by (p == q) refl
    where
      by : (b : Bool) → (p == q) ≡ b → same r (if b then 0 else q) ≡ same r q
      by true is = same_other r 0 high ∙ sym (same_other r q (λ e. ne (e ∙ sym (eqb-true p q is))))
      by false is = refl
  given_kid p r (live q act n d) high ne = by (p == q) refl
    where
      by : (b : Bool) → (p == q) ≡ b → same r (if b then 0 else q) ≡ same r q
      by true is = same_other r 0 high ∙ sym (same_other r q (λ e. ne (e ∙ sym (eqb-true p q is))))
      by false is = refl

  gone_kid : (p : ℕ) (s : Seen) → p ≢ 0 → kid p (given p s) ≡ 0
  gone_kid p free up = refl
  gone_kid p (zombie q) up = by (p == q) refl
    where
      by : (b : Bool) → (p == q) ≡ b → same p (if b then 0 else q) ≡ 0
      by true is = same_other p 0 up
      by false is = same_other p q (λ e. let z : true ≡ false = sym (Rattle.std.proofs.lemmas.Bool.eq-eqb p q e) ∙ is in let w : ⊥ = cc in w)
  gone_kid p (live q act n d) up = by (p == q) refl
    where
      by : (b : Bool) → (p == q) ≡ b → same p (if b then 0 else q) ≡ 0
      by true is = same_other p 0 up
      by false is = same_other p q (λ e. let z : true ≡ false = sym (Rattle.std.proofs.lemmas.Bool.eq-eqb p q e) ∙ is in let w : ⊥ = cc in w)

  given_apart : (p q parent : ℕ) → q ≢ 0 → parent ≢ q → (if p == parent then 0 else parent) ≢ q
  given_apart p q parent high ne = by (p == parent)
    where
      by : (b : Bool) → (if b then 0 else parent) ≢ q
      by true = λ e. high (sym e)
      by false = ne

  given_fits : (p q w g o k : ℕ) (s : Seen) → q ≢ 0 → SlotFits q w g o k s → SlotFits q w g o k (given p s)
  given_fits p q w g o k free high fits = fits
  given_fits p q w g o k (zombie parent) high fits = (given_apart p q parent high fits.0, fits.1, fits.2, fits.3)
  given_fits p q w g o k (live parent act n d) high fits = (given_apart p q parent high fits.0, fits.1, fits.2)

  module _ (p parent n : ℕ) (act : Act) (d : Fds) (slot : V.slots p ≡ live parent act n d) (ends : Exits V W p parent) (up : p ≢ 0) where
    pub exit_keeps : B.g p ≤ B.w p → Budget W most
    exit_keeps less = record {
      w = B.w;
      g = B.g;
      sum = B.sum;
      init = B.init;
      fits = λ q high. by q high (cases_eq q p);
    }
      where
        was : SlotFits p (B.w p) (B.g p) (owed V B.g p) (kids V p) (live parent act n d)
        was = subst (SlotFits p (B.w p) (B.g p) (owed V B.g p) (kids V p)) slot (B.fits p up)

        kin : (r : ℕ) → r ≢ 0 → r ≢ p → (c : ℕ) → kid r (W.slots c) ≡ kid r (V.slots c)
        kin r high ne c = by (cases_eq c p)
          where
            by : (c ≡ p) ⊎ (c ≢ p) → kid r (W.slots c) ≡ kid r (V.slots c)
            by (inl is) = ap (λ q. kid r (W.slots q)) is ∙ (ap (kid r) ends.here ∙ sym (ap (λ q. kid r (V.slots q)) is ∙ ap (kid r) slot))
            by (inr other) = ap (kid r) (ends.others c other) ∙ given_kid p r (V.slots c) high ne

        none : (c : ℕ) → kid p (W.slots c) ≡ 0
        none c = by (cases_eq c p)
          where
            by : (c ≡ p) ⊎ (c ≢ p) → kid p (W.slots c) ≡ 0
            by (inl is) = ap (λ q. kid p (W.slots q)) is ∙ (ap (kid p) ends.here ∙ same_other p parent (λ e. was.0 (sym e)))
            by (inr other) = ap (kid p) (ends.others c other) ∙ gone_kid p (V.slots c) up

        by : (q : ℕ) → q ≢ 0 → (q ≡ p) ⊎ (q ≢ p) → SlotFits q (B.w q) (B.g q) (owed W B.g q) (kids W q) (W.slots q)
        by q high (inl is) =
            subst (λ q. SlotFits q (B.w q) (B.g q) (owed W B.g q) (kids W q) (W.slots q)) (sym is)
            (subst (SlotFits p (B.w p) (B.g p) (owed W B.g p) (kids W p)) (sym ends.here) (was.0, total_zero (λ c. kid p (W.slots c)) 0 64 none, was.1, less))
        by q high (inr ne) =
            slot_is q (B.w q) (B.w q) (B.g q) (B.g q) _ _ _ _ (given p (V.slots q)) (W.slots q) refl refl
            (total_same (λ c. where_any (kid q (V.slots c)) (B.g c)) (λ c. where_any (kid q (W.slots c)) (B.g c)) 0 64 (λ c. ap (λ x. where_any x (B.g c)) (kin q high ne c)))
            (total_same (λ c. kid q (V.slots c)) (λ c. kid q (W.slots c)) 0 64 (kin q high ne))
            (ends.others q ne)
            (given_fits p q (B.w q) (B.g q) _ _ (V.slots q) high (B.fits q high))
