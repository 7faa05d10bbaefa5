use Rattle.std.proofs.Common.{refl, subst, sym}
use Rattle.grade_verdicts.specs.Same.{IsSamePlace}
use Rattle.grade_verdicts.specs.declared.verdict.Place.TheVariants.{File, NoFile}
use Rattle.grade_verdicts.proofs.copying.copy_place.Goals as goal

pub returns-in_ok-name-in-File : goal.returns-in_ok-name-in-File
returns-in_ok-name-in-File c =
    let copy = c.in_ok-name-in-File.name in
    subst (λ p. IsSamePlace p (File copy)) (sym c.in-File.is) (copy, refl, c.in_ok-name-in-File.ensures)

pub returns-in_ok-name-in-NoFile : goal.returns-in_ok-name-in-NoFile
returns-in_ok-name-in-NoFile c =
    let copy = c.in_ok-name-in-NoFile.name in
    subst (λ p. IsSamePlace p (NoFile copy)) (sym c.in-NoFile.is) (copy, refl, c.in_ok-name-in-NoFile.ensures)
