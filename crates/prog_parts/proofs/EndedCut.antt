-- The lines that end in LF are the lines of the bytes, but for a last one without LF.
use Rattle.std.proofs.Common.{◌≡◌, ◌<◌, List, [], ◌∷◌, ◌++◌, length, refl, sym, ◌∙◌, ap, subst, arith, append_assoc, inl, inr}
use Rattle.mem_files.specs.Name.{Bytes}
use Rattle.prog_parts.specs.Grep.{ended_lines, with_ends}
use Rattle.prog_parts.specs.Lines.{HasNoLf, AreLines, last_line}
use Rattle.prog_parts.proofs.Cuts.{some_cut}
use Rattle.prog_parts.proofs.Ended.{ended_none, ended_one}

-- behind the lines that end in LF stands this, which has none
pub record EndsIn (bytes last : Bytes) : Type 0 where
  pub no_lf : HasNoLf last
  pub whole : bytes ≡ with_ends (ended_lines bytes) ++ last
  pub cut : AreLines bytes (ended_lines bytes ++ last_line last)

at_end : EndsIn [] []
at_end = record { no_lf = λ k d inside. absurd (omega (arith, inside)); whole = refl; cut = refl }

on_last : (line : Bytes) → HasNoLf line → 0 < length line → EndsIn line line
on_last [] none some = absurd (omega (arith, some))
on_last (b ∷ line) none some = record {
  no_lf = none;
  whole = ap (λ lines. with_ends lines ++ (b ∷ line)) (sym (ended_none (b ∷ line) none));
  cut = subst (λ lines. AreLines (b ∷ line) (lines ++ last_line (b ∷ line))) (sym (ended_none (b ∷ line) none)) ([], (none, inr (refl, some, refl)), refl);
}

on_line : (line rest last : Bytes) → HasNoLf line → EndsIn rest last → EndsIn (line ++ 10 ∷ rest) last
on_line line rest last none later = record {
  no_lf = later.no_lf;
  whole =
      ap (λ r. line ++ 10 ∷ r) later.whole
      ∙ sym (append_assoc line (10 ∷ with_ends (ended_lines rest)) last)
      ∙ ap (λ lines. with_ends lines ++ last) (sym (ended_one line rest none));
  cut = subst (λ lines. AreLines (line ++ 10 ∷ rest) (lines ++ last_line last)) (sym (ended_one line rest none)) (rest, (none, inl refl), later.cut);
}

by_lines : (bytes : Bytes) (lines : List Bytes) → AreLines bytes lines → (last : Bytes) × EndsIn bytes last
by_lines bytes [] none = ([], subst (λ b. EndsIn b []) (sym none) at_end)
by_lines bytes (line ∷ lines) (rest, (none, inl is), later) =
    let end = by_lines rest lines later in
    (end.0, subst (λ b. EndsIn b end.0) (sym is) (on_line line rest end.0 none end.1))
by_lines bytes (line ∷ lines) (rest, (none, inr is), later) = (line, subst (λ b. EndsIn b line) (sym is.0) (on_last line none is.1))

pub ended_cut : (bytes : Bytes) → (last : Bytes) × EndsIn bytes last
ended_cut bytes = let cut = some_cut bytes in by_lines bytes cut.0 cut.1
