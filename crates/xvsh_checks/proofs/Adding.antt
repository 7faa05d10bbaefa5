-- What is found with one line more.
use Rattle.std.proofs.Common.{◌≡◌, ℕ, ◌+◌, ◌++◌, List, [], ◌∷◌, Bool, true, false, ◌&&◌, sym, ◌∙◌, ap, refl, subst, append_assoc}
use Rattle.std.specs.Prelude.{◌↔◌, IsTrue}
use Rattle.std.proofs.lemmas.List.{append-nil}
use Rattle.script_load.specs.Line.{ScriptLine}
use Rattle.xvsh_checks.specs.declared.found.Finding.{Finding}
use Rattle.xvsh_checks.specs.Check.{IsHarmless, AreHarmless}
use Rattle.xvsh_checks.specs.Findings.{AreOfLine, AreFindings}

-- any findings of these lines, from this number on, complete those so far to the findings of all
abbrev pub Completes : List ScriptLine → ℕ → List ScriptLine → List Finding → Type 0
Completes all number lines found = (later : List Finding) → AreFindings number lines later → AreFindings 1 all (found ++ later)

pub found_one : (all rest : List ScriptLine) (line : ScriptLine) (number : ℕ) (found first new : List Finding) → Completes all number (line ∷ rest) found → AreOfLine number line first → new ≡ found ++ first → Completes all (number + 1) rest new
found_one all rest line number found first new so_far of_line added later are =
    subst (AreFindings 1 all) (sym (ap (λ t. t ++ later) added ∙ append_assoc found first later)) (so_far (first ++ later) (first, later, of_line, are, refl))

-- all lines are harmless exactly where those so far and those that are left are
abbrev pub Decides : Bool → List ScriptLine → List ScriptLine → Bool → Type 0
Decides strict all lines so_far = (IsTrue so_far × AreHarmless strict lines) ↔ AreHarmless strict all

pub harmless_one : (strict : Bool) (all rest : List ScriptLine) (line : ScriptLine) (so_far is : Bool) → Decides strict all (line ∷ rest) so_far → (IsTrue is ↔ IsHarmless strict line) → Decides strict all rest (so_far && is)
harmless_one strict all rest line true true before here = (λ p. before.0 (p.0, (here.0 p.0, p.1)), λ q. (refl, (before.1 q).1.1))
harmless_one strict all rest line true false before here = (λ p. let wrong : false ≡ true = p.0 in cc, λ q. (here.1 (before.1 q).1.0, (before.1 q).1.1))
harmless_one strict all rest line false is before here = (λ p. let wrong : false ≡ true = p.0 in cc, λ q. let wrong : false ≡ true = (before.1 q).0 in cc)

pub found_none : (all : List ScriptLine) (found : List Finding) → found ≡ [] → Completes all 1 all found
found_none all found none later are = subst (λ t. AreFindings 1 all (t ++ later)) (sym none) are

pub found_all : (all lines : List ScriptLine) (number : ℕ) (found : List Finding) → lines ≡ [] → Completes all number lines found → AreFindings 1 all found
found_all all lines number found none so_far =
    subst (AreFindings 1 all) (append-nil found) (so_far [] (subst (λ ls. AreFindings number ls []) (sym none) refl))

pub harmless_all : (strict : Bool) (all lines : List ScriptLine) (so_far : Bool) → lines ≡ [] → Decides strict all lines so_far → IsTrue so_far ↔ AreHarmless strict all
harmless_all strict all lines so_far none before =
    (λ is. before.0 (is, subst (AreHarmless strict) (sym none) tt), λ q. (before.1 q).0)
