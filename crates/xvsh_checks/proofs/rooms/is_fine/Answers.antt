use Rattle.std.proofs.Common.{◌≡◌, ◌∙◌, true, false, sym, subst}
use Rattle.std.specs.Prelude.{◌↔◌, IsTrue}
use Rattle.xvsh_checks.specs.Check.{AreHarmless}
use Rattle.xvsh_checks.proofs.Harmless.{fine}
use Rattle.xvsh_checks.proofs.rooms.is_fine.Goals as goal

pub returns-then-is_harmless : goal.returns-then-is_harmless
returns-then-is_harmless c strict lines input files harmless found =
    fine strict lines input files true c.has_room.result (subst (λ b. IsTrue b ↔ AreHarmless strict lines) c.if-is_harmless.true harmless) (c.has_room.ensures lines input files found)

pub returns-else-is_harmless : goal.returns-else-is_harmless
returns-else-is_harmless c strict lines input files harmless found =
    (λ yes. absurd (let z : false ≡ true = sym c.if-is_harmless.false ∙ yes in let w : ⊥ = cc in w), λ both. harmless.1 both.0)
