use Rattle.std.proofs.Common.{refl, subst, sym}
use Rattle.grade_verdicts.specs.Same.{IsCopyOf}
use Rattle.grade_verdicts.specs.declared.verdict.Verdict.TheVariants.{Race}
use Rattle.grade_verdicts.proofs.copying.copy_of.Goals as goal

pub returns-in_ok-copy-in-Race : goal.returns-in_ok-copy-in-Race
returns-in_ok-copy-in-Race c =
    let copy = c.in_ok-copy-in-Race.copy in
    subst (λ v. IsCopyOf v (Race copy)) (sym c.in-Race.is) (copy, refl, c.in_ok-copy-in-Race.ensures)
