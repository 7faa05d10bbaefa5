-- Sums over numbers that follow each other.
use Rattle.std.proofs.Common.{◌≡◌, inl, inr, ℕ, zero, suc, ◌+◌, ◌<◌, ◌≤◌, refl, arith}
use Rattle.process_model.specs.Shape.{same}
use Rattle.process_model.proofs.Counts.{same_cases, same_other}

-- over the n numbers from a on
abbrev pub total : (ℕ → ℕ) → ℕ → ℕ → ℕ
total f a zero = 0
total f a (suc n) = f a + total f (suc a) n

pub total_sum : (f g : ℕ → ℕ) (a n : ℕ) → total (λ q. f q + g q) a n ≡ total f a n + total g a n
total_sum f g a zero = refl
total_sum f g a (suc n) = omega (arith, total_sum f g (suc a) n)

pub total_none : (a n : ℕ) → total (λ q. 0) a n ≡ 0
total_none a zero = refl
total_none a (suc n) = omega (arith, total_none (suc a) n)

-- each is counted
pub total_some : (f : ℕ → ℕ) (a n : ℕ) → ((q : ℕ) → a ≤ q → q < a + n → 1 ≤ f q) → n ≤ total f a n
total_some f a zero each = omega arith
total_some f a (suc n) each = omega (arith, each a (omega arith) (omega arith), total_some f (suc a) n (λ q low high. each q (omega (arith, low)) (omega (arith, high))))

-- a number is met once at most
passed : (p a n : ℕ) → p < a → total (λ q. same q p) a n ≡ 0
passed p a zero past = refl
passed p a (suc n) past = omega (arith, same_other a p (λ e. absurd (omega (arith, e, past))), passed p (suc a) n (omega (arith, past)))

pub met_once : (p a n : ℕ) → total (λ q. same q p) a n ≤ 1
met_once p a zero = omega arith
met_once p a (suc n) =
    elim (same_cases a p) [
      | inl is ↦ omega (arith, is.1, passed p (suc a) n (omega (arith, is.0)))
      | inr ne ↦ omega (arith, ne.1, met_once p (suc a) n)
    ]
