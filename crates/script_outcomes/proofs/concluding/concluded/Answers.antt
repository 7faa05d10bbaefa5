use Rattle.std.proofs.Common.{refl, rules, sym, subst}
use Rattle.std.proofs.lemmas.Bool.{false≢true}
use Rattle.script_outcomes.specs.declared.concluding.Conclusion.TheVariants.{OneOutput, SeveralOutputs, Stuck, Full, Part}
use Rattle.script_outcomes.specs.Found.{AreRoomy, AreSingle, Concludes, settled, part, several, filled, stuck, one}
use Rattle.script_outcomes.proofs.concluding.concluded.Goals as goal

pub returns-in_default : goal.returns-in_default
returns-in_default c = subst (λ found. Concludes found OneOutput) (sym c.in_default.is) settled

pub returns-then-not-tried : goal.returns-then-not-tried
returns-then-not-tried c = subst (λ found. Concludes found Part) (sym c.in-Tried.is) (part c.if-not-tried.true)

pub returns-then-not-are_single : goal.returns-then-not-are_single
returns-then-not-are_single c =
    subst (λ found. Concludes found SeveralOutputs) (sym c.in-Tried.is)
    (several c.if-not-tried.false (λ all. false≢true (c.if-not-are_single.ensures.1 (subst AreSingle (sym c.as_slice-outcomes.ensures.value) all))))

pub returns-then-not-are_roomy : goal.returns-then-not-are_roomy
returns-then-not-are_roomy c =
    subst (λ found. Concludes found Full) (sym c.in-Tried.is)
    (filled c.if-not-tried.false (subst AreSingle c.as_slice-outcomes.ensures.value (c.if-not-are_single.ensures.0 refl))
    (λ all. false≢true (c.if-not-are_roomy.ensures.1 (subst AreRoomy (sym c.as_slice-outcomes.ensures.value) all))))

pub returns-then-is_some : goal.returns-then-is_some
returns-then-is_some c =
    subst (λ found. Concludes found Stuck) (sym c.in-Tried.is)
    (stuck {t = c.in-Tried.tried} c.if-not-tried.false (subst AreSingle c.as_slice-outcomes.ensures.value (c.if-not-are_single.ensures.0 refl)) (subst AreRoomy c.as_slice-outcomes.ensures.value (c.if-not-are_roomy.ensures.0 refl)) (search rules))

pub returns-else-is_some : goal.returns-else-is_some
returns-else-is_some c =
    subst (λ found. Concludes found OneOutput) (sym c.in-Tried.is)
    (one {t = c.in-Tried.tried} c.if-not-tried.false (subst AreSingle c.as_slice-outcomes.ensures.value (c.if-not-are_single.ensures.0 refl)) (subst AreRoomy c.as_slice-outcomes.ensures.value (c.if-not-are_roomy.ensures.0 refl)) (search rules))
