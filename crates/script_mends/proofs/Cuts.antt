-- A script's text, a line further.
use Rattle.std.proofs.Common.{◌≡◌, ◌≢◌, ℕ, ◌+◌, false, [], ◌∷◌, ◌++◌, append_assoc, refl, sym, ◌∙◌, ap, subst, arith, inr, cond}
use Rattle.std.specs.Prelude.{◌==◌}
use Rattle.std.proofs.lemmas.Bool.{ne_eqb}
use Rattle.std.proofs.lemmas.List.Sums.{sum_by-append}
use Rattle.mem_files.specs.Name.{Bytes}
use Rattle.prog_parts.specs.Lines.{HasNoLf}
use Rattle.prog_parts.proofs.Cuts.{all_tail}
use Rattle.script_mends.specs.Lines.{BeginsLine, ends_in}

-- how many lines two texts end, one after the other
pub ends_two : (one other : Bytes) → ends_in (one ++ other) ≡ ends_in one + ends_in other
ends_two one other = sum_by-append (λ byte. cond (byte == 10) 1 0) one other

one_none : (byte : ℕ) → byte ≢ 10 → ends_in (byte ∷ []) ≡ 0
one_none byte other =
    let is : (byte == 10) ≡ false = ne_eqb byte 10 other in
    subst (λ test. 0 + cond test 1 0 ≡ 0) (sym is) refl

-- a text without an LF ends none
pub ends_none : (text : Bytes) → HasNoLf text → ends_in text ≡ 0
ends_none [] whole = refl
ends_none (byte ∷ bytes) whole =
    let first : ends_in (byte ∷ []) ≡ 0 = one_none byte (whole 0 0 (omega arith)) in
    let later : ends_in bytes ≡ 0 = ends_none bytes (all_tail (λ b. b ≢ 10) byte bytes whole) in
    ends_two (byte ∷ []) bytes ∙ omega (arith, first, later)

-- behind a line's LF stands what is behind one line more
pub next_line : (bytes before rest text after : Bytes) (count : ℕ) → bytes ≡ before ++ rest → ends_in before ≡ count → rest ≡ text ++ 10 ∷ after → HasNoLf text → (more : Bytes) × (bytes ≡ more ++ after) × (ends_in more ≡ count + 1) × BeginsLine more
next_line bytes before rest text after count cut place split whole = (
  before ++ (text ++ 10 ∷ []),
  cut ∙ ap (λ r. before ++ r) (split ∙ sym (append_assoc text (10 ∷ []) after)) ∙ sym (append_assoc before (text ++ 10 ∷ []) after),
  omega (arith, ends_two before (text ++ 10 ∷ []), ends_two text (10 ∷ []), ends_none text whole, place),
  inr (before ++ text, sym (append_assoc before text (10 ∷ []))),
)

-- so many lines end where no more LF stands
pub no_more : (bytes before rest : Bytes) (count : ℕ) → bytes ≡ before ++ rest → ends_in before ≡ count → HasNoLf rest → ends_in bytes ≡ count
no_more bytes before rest count cut place whole = ap ends_in cut ∙ omega (arith, ends_two before rest, ends_none rest whole, place)
