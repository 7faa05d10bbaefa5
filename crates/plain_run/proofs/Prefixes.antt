-- The lines that a prefix takes one byte further.
use Rattle.std.proofs.Common.{◌≡◌, ◌≢◌, ℕ, zero, suc, ◌+◌, ◌-◌, ◌<◌, ◌==◌, true, false, Bool, cond, [], ◌∷◌, ◌++◌, length, drop, take, get_or, refl, sym, ◌∙◌, ap, arith, append_assoc}
use Rattle.std.proofs.Math.Seq.{drop-cons, take-suc}
use Rattle.mem_files.specs.Name.{Bytes}
use Rattle.prog_parts.specs.Head.{first_lines}

-- one byte more of the lines that are left
pub one_byte : (left i : ℕ) (bytes : Bytes) → left ≢ 0 → i < length bytes → take i bytes ++ first_lines left (drop i bytes) ≡ take (i + 1) bytes ++ first_lines (left - cond (get_or bytes i 0 == 10) 1 0) (drop (i + 1) bytes)
one_byte zero i bytes some inside = absurd (some refl)
one_byte (suc left) i bytes some inside =
    let next : suc i ≡ i + 1 = omega arith in
    let fewer : (b : Bool) → cond b left (suc left) ≡ suc left - cond b 1 0 = λ b. elim b as (λ b. cond b left (suc left) ≡ suc left - cond b 1 0) [ true ↦ omega arith | false ↦ omega arith ] in
    ap (λ rest. take i bytes ++ first_lines (suc left) rest) (drop-cons bytes i 0 inside)
    ∙ sym (append_assoc (take i bytes) (get_or bytes i 0 ∷ []) (first_lines (cond (get_or bytes i 0 == 10) left (suc left)) (drop (suc i) bytes)))
    ∙ ap (λ taken. taken ++ first_lines (cond (get_or bytes i 0 == 10) left (suc left)) (drop (suc i) bytes)) (sym (take-suc bytes i 0 inside))
    ∙ ap (λ n. take n bytes ++ first_lines (cond (get_or bytes i 0 == 10) left (suc left)) (drop n bytes)) next
    ∙ ap (λ n. take (i + 1) bytes ++ first_lines n (drop (i + 1) bytes)) (fewer (get_or bytes i 0 == 10))
