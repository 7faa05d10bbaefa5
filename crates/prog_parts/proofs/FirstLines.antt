-- The first lines of some bytes are their shortest beginning with so many LFs, or all of them.
use Rattle.std.proofs.Common.{◌≡◌, ℕ, zero, suc, ◌+◌, ◌<◌, ◌≤◌, ◌==◌, Bool, true, false, cond, [], ◌∷◌, ◌++◌, length, refl, ◌∙◌, ap, arith, inl, inr}
use Rattle.std.specs.Prelude.{◌⊎◌}
use Rattle.std.proofs.lemmas.List.Sums.{sum_by-cons}
use Rattle.mem_files.specs.Name.{Bytes}
use Rattle.prog_parts.specs.Head.{first_lines, after_lines}
use Rattle.prog_parts.specs.Wc.{line_ends}

-- how many LFs there are behind a byte
one_end : (b : ℕ) (bytes : Bytes) → line_ends (b ∷ bytes) ≡ cond (b == 10) 1 0 + line_ends bytes
one_end b bytes = sum_by-cons (λ byte. cond (byte == 10) 1 0) b bytes

pub begins : (n : ℕ) (bytes : Bytes) → bytes ≡ first_lines n bytes ++ after_lines n bytes
begins zero bytes = refl
begins (suc n) [] = refl
begins (suc n) (b ∷ bytes) = ap (λ bs. b ∷ bs) (begins (cond (b == 10) n (suc n)) bytes)

abbrev IsCounted : ℕ → Bytes → Type 0
IsCounted n bytes = (line_ends (first_lines n bytes) ≡ n) ⊎ ((first_lines n bytes ≡ bytes) × (line_ends bytes < n))

pub counted : (n : ℕ) (bytes : Bytes) → IsCounted n bytes
counted zero bytes = inl refl
counted (suc n) [] = inr (refl, omega arith)
counted (suc n) (b ∷ bytes) = go (b == 10) refl (counted (cond (b == 10) n (suc n)) bytes)
  where
    go : (is : Bool) → (b == 10) ≡ is → IsCounted (cond (b == 10) n (suc n)) bytes → IsCounted (suc n) (b ∷ bytes)
    go true lf (inl all) = inl (one_end b (first_lines (cond (b == 10) n (suc n)) bytes) ∙ ap (λ i. cond i 1 0 + line_ends (first_lines (cond (b == 10) n (suc n)) bytes)) lf ∙ omega (arith, all ∙ ap (λ i. cond i n (suc n)) lf))
    go true lf (inr (whole, few)) = inr (ap (λ bs. b ∷ bs) whole, omega (arith, few, one_end b bytes ∙ ap (λ i. cond i 1 0 + line_ends bytes) lf, ap (λ i. cond i n (suc n)) lf))
    go false lf (inl all) = inl (one_end b (first_lines (cond (b == 10) n (suc n)) bytes) ∙ ap (λ i. cond i 1 0 + line_ends (first_lines (cond (b == 10) n (suc n)) bytes)) lf ∙ omega (arith, all ∙ ap (λ i. cond i n (suc n)) lf))
    go false lf (inr (whole, few)) = inr (ap (λ bs. b ∷ bs) whole, omega (arith, few, one_end b bytes ∙ ap (λ i. cond i 1 0 + line_ends bytes) lf, ap (λ i. cond i n (suc n)) lf))

-- no shorter beginning has so many
pub shortest : (n : ℕ) (beginning later : Bytes) → line_ends beginning ≡ n → length (first_lines n (beginning ++ later)) ≤ length beginning
shortest zero beginning later all = omega arith
shortest (suc n) [] later all = let none : 0 ≡ suc n = all in absurd (omega (arith, none))
shortest (suc n) (b ∷ beginning) later all = omega (arith, shortest (cond (b == 10) n (suc n)) beginning later (fewer (b == 10) refl))
  where
    fewer : (is : Bool) → (b == 10) ≡ is → line_ends beginning ≡ cond (b == 10) n (suc n)
    fewer true lf = omega (arith, all, one_end b beginning ∙ ap (λ i. cond i 1 0 + line_ends beginning) lf, ap (λ i. cond i n (suc n)) lf)
    fewer false lf = omega (arith, all, one_end b beginning ∙ ap (λ i. cond i 1 0 + line_ends beginning) lf, ap (λ i. cond i n (suc n)) lf)
