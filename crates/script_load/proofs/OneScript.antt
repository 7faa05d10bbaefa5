-- Each text has one reading as a line, so fine bytes have exactly one script.
use Rattle.std.proofs.Common.{◌≡◌, ℕ, Bool, true, false, List, [], ◌∷◌, ◌++◌, take, drop, refl, sym, ◌∙◌, ap, subst, inl, inr, ⊎_elim}
use Rattle.std.specs.Prelude.{◌⊎◌}
use Rattle.std.specs.List.{AllZip}
use Rattle.std.specs.Str.{bytes_eq}
use Rattle.std.proofs.lemmas.List.{take-append-drop}
use Rattle.std.proofs.lemmas.Slice.Eq.{bytes_eq-Decides}
use Rattle.sh_tree.proofs.Answer.{one_tree_of, one_fault, never_both, some_answer}
use Rattle.prog_parts.proofs.Cuts.{one_cut}
use Rattle.script_load.specs.Line.{ScriptLine, command, bad, cd}
use Rattle.script_load.specs.Script.{AllFine, BeginsCd, IsLineOf, IsScript}

abbrev cd_and_space : List ℕ
cd_and_space = 99 ∷ 100 ∷ 32 ∷ []

-- a text begins with `cd ` or it doesn't
begins_or_not : (text : List ℕ) → BeginsCd text ⊎ (BeginsCd text → ⊥)
begins_or_not text = go (bytes_eq (take 3 text) cd_and_space) refl
  where
    go : (same : Bool) → bytes_eq (take 3 text) cd_and_space ≡ same → BeginsCd text ⊎ (BeginsCd text → ⊥)
    go true e = inl (drop 3 text, sym (take-append-drop 3 text) ∙ ap (λ first. first ++ drop 3 text) ((bytes_eq-Decides (take 3 text) cd_and_space).0 e))
    go false e = inr (λ begins. let first : take 3 text ≡ cd_and_space = ap (take 3) begins.1 in let h : true ≡ false = sym ((bytes_eq-Decides (take 3 text) cd_and_space).1 first) ∙ e in cc)

-- every text is some line
some_line : (text : List ℕ) → (line : ScriptLine) × IsLineOf text line
some_line text = ⊎_elim
    (λ begins. (cd begins.0, begins.1))
    (λ other. ⊎_elim (λ tree. (command tree.0, (other, tree.1))) (λ fault. (bad fault.0 text, (other, fault.1, fault.2, refl))) (some_answer text))
    (begins_or_not text)

-- and no other
one_line : (text : List ℕ) (line other : ScriptLine) → IsLineOf text line → IsLineOf text other → line ≡ other
one_line text (command t) (command u) is also = ap command (one_tree_of text t u is.1 also.1)
one_line text (command t) (bad fault whole) is also = absurd (never_both text t fault also.1 is.1 also.2)
one_line text (command t) (cd rest) is also = absurd (is.0 (rest, also))
one_line text (bad fault whole) (command u) is also = absurd (never_both text u fault is.1 also.1 is.2)
one_line text (bad fault whole) (bad fault' whole') is also =
    let same : fault ≡ fault' = one_fault text fault fault' is.1 also.1 is.2 also.2 in
    let texts : whole ≡ whole' = is.3 ∙ sym also.3 in
    cc
one_line text (bad fault whole) (cd rest) is also = absurd (is.0 (rest, also))
one_line text (cd rest) (command u) is also = absurd (also.0 (rest, is))
one_line text (cd rest) (bad fault whole) is also = absurd (also.0 (rest, is))
one_line text (cd rest) (cd rest') is also = let same : rest ≡ rest' = cc in ap cd same

some_lines : (texts : List (List ℕ)) → (lines : List ScriptLine) × AllZip IsLineOf texts lines
some_lines [] = ([], tt)
some_lines (text ∷ texts) =
    let first = some_line text in
    let later = some_lines texts in
    (first.0 ∷ later.0, (first.1, later.1))

one_lines : (texts : List (List ℕ)) (lines others : List ScriptLine) → AllZip IsLineOf texts lines → AllZip IsLineOf texts others → lines ≡ others
one_lines [] [] [] each also = refl
one_lines [] [] (other ∷ others) each also = absurd also
one_lines [] (line ∷ lines) others each also = absurd each
one_lines (text ∷ texts) [] others each also = absurd each
one_lines (text ∷ texts) (line ∷ lines) [] each also = absurd also
one_lines (text ∷ texts) (line ∷ lines) (other ∷ others) each also =
    let first = one_line text line other each.0 also.0 in
    let later = one_lines texts lines others each.1 also.1 in
    cc

-- fine bytes have a script
pub some_script : (bytes : List ℕ) → AllFine bytes → (lines : List ScriptLine) × IsScript bytes lines
some_script bytes (texts, cut, fine) =
    let lines = some_lines texts in
    (lines.0, record { texts = texts; cut = cut; fine = fine; each = lines.1 })

-- and no other
pub one_script : (bytes : List ℕ) (lines others : List ScriptLine) → IsScript bytes lines → IsScript bytes others → lines ≡ others
one_script bytes lines others script other =
    one_lines script.texts lines others script.each
    (subst (λ texts. AllZip IsLineOf texts others) (one_cut bytes other.texts script.texts other.cut script.cut) other.each)
