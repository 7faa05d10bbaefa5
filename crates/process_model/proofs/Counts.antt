-- Ones that count occurrences, and calls.
use Rattle.std.proofs.Common.{◌≡◌, ◌≢◌, ◌⊎◌, inl, inr, ℕ, zero, suc, ◌≤◌, Bool, true, false, refl, ap, ◌∙◌, arith}
use Rattle.std.specs.Prelude.{if◌then◌else◌}
use Rattle.std.proofs.lemmas.Bool.{cases_eq, eq-eqb, ne_eqb}
use Rattle.process_model.specs.Seen.{View}
use Rattle.process_model.specs.Shape.{same}
use Rattle.process_model.specs.Part.{called}

pub same_self : (p : ℕ) → same p p ≡ 1
unfolding same
same_self p = ap (λ (b : Bool). if b then 1 else 0) (eq-eqb p p refl)

pub same_other : (q p : ℕ) → q ≢ p → same q p ≡ 0
unfolding same
same_other q p ne = ap (λ (b : Bool). if b then 1 else 0) (ne_eqb q p ne)

pub same_cases : (q p : ℕ) → ((q ≡ p) × (same q p ≡ 1)) ⊎ ((q ≢ p) × (same q p ≡ 0))
same_cases q p = elim (cases_eq q p) [ inl is ↦ inl (is, ap (λ n. same n p) is ∙ same_self p) | inr ne ↦ inr (ne, same_other q p ne) ]

pub same_yes : (q p : ℕ) → 1 ≤ same q p → q ≡ p
same_yes q p some = elim (same_cases q p) [ inl is ↦ is.0 | inr ne ↦ absurd (omega (arith, ne.1, some)) ]

pub none_or_some : (n : ℕ) → (n ≡ 0) ⊎ (1 ≤ n)
none_or_some zero = inl refl
none_or_some (suc n) = inr (omega arith)

at_most_one : (b : Bool) → (if b then 0 else 1) ≤ 1
at_most_one true = omega arith
at_most_one false = omega arith

pub called_once : (W : View) (p : ℕ) → called W p ≤ 1
unfolding called
called_once W p = at_most_one (W.asleep p)

pub not_called : (W : View) (p : ℕ) → W.asleep p ≡ true → called W p ≡ 0
unfolding called
not_called W p asleep = ap (λ (b : Bool). if b then 0 else 1) asleep
