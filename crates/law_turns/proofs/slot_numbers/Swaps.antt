-- A numbering in which two numbers have changed places.
use Rattle.std.proofs.Common.{◌≡◌, ◌≢◌, ◌⊎◌, ℕ, inl, inr, refl, sym, ap, ◌∙◌}
use Rattle.std.proofs.lemmas.Bool.{cases_eq, eq-eqb, ne_eqb}
use Rattle.std.specs.Prelude.{◌==◌, if◌then◌else◌}
use Rattle.kernel_model.specs.Numbers.{Numbering}
use Rattle.law_turns.proofs.entry_numbers.Numberings.{followed_by}

abbrev swapped : ℕ → ℕ → ℕ → ℕ
swapped b c e = if e == b then c else (if e == c then b else e)

module _ (b c : ℕ) where
  the_first : swapped b c b ≡ c
  the_first = ap (λ (r : _). if r then c else (if b == c then b else b)) (eq-eqb b b refl)

  another : (e : ℕ) → e ≢ b → e ≢ c → swapped b c e ≡ e
  another e one two = ap (λ (r : _). if r then c else (if e == c then b else e)) (ne_eqb e b one) ∙ ap (λ (r : _). if r then b else e) (ne_eqb e c two)

  the_second : swapped b c c ≡ b
  the_second = by (cases_eq c b) where
    by : (c ≡ b) ⊎ (c ≢ b) → swapped b c c ≡ b
    by (inl is) = ap (swapped b c) is ∙ the_first ∙ is
    by (inr ne) = ap (λ (r : _). if r then c else (if c == c then b else c)) (ne_eqb c b ne) ∙ ap (λ (r : _). if r then b else c) (eq-eqb c c refl)

  twice : (e : ℕ) → swapped b c (swapped b c e) ≡ e
  twice e = by (cases_eq e b) (cases_eq e c) where
    by : (e ≡ b) ⊎ (e ≢ b) → (e ≡ c) ⊎ (e ≢ c) → swapped b c (swapped b c e) ≡ e
    by (inl is) other = (λ i. swapped b c (swapped b c (is i))) ∙ ap (swapped b c) the_first ∙ the_second ∙ sym is
    by (inr ne) (inl is) = (λ i. swapped b c (swapped b c (is i))) ∙ ap (swapped b c) the_second ∙ the_first ∙ sym is
    by (inr ne) (inr apart) = ap (swapped b c) (another e ne apart) ∙ another e ne apart

  abbrev swap : Numbering
  swap = record { to = swapped b c; back = swapped b c; there = twice; here = twice }

-- a numbering after a got the number `new`: what had it gets the one that a had
pub record Exchanged (n : Numbering) (a new : ℕ) : Type 0 where
  pub to : Numbering
  pub first : to.to a ≡ new
  pub second : to.to (n.back new) ≡ n.to a
  pub others : (i : ℕ) → i ≢ a → i ≢ n.back new → to.to i ≡ n.to i
  pub back_first : to.back new ≡ a
  pub back_second : to.back (n.to a) ≡ n.back new
  pub back_others : (j : ℕ) → j ≢ new → j ≢ n.to a → to.back j ≡ n.back j

pub exchanged : (n : Numbering) (a new : ℕ) → Exchanged n a new
exchanged n a new =
    let d : ℕ = n.back new in
    let m : Numbering = followed_by (swap a d) n in
    record {
      to = m;
      first = ap n.to (the_first a d) ∙ n.here new;
      second = ap n.to (the_second a d);
      others = λ i one two. ap n.to (another a d i one two);
      back_first = the_second a d;
      back_second = ap (swapped a d) (n.there a) ∙ the_first a d;
      back_others = λ j one two. another a d (n.back j) (λ is. two (sym (n.here j) ∙ ap n.to is)) (λ is. one (sym (n.here j) ∙ ap n.to is ∙ n.here new));
    }
