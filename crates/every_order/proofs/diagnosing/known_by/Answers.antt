use Rattle.std.proofs.Common.{Contains, ◌∙◌, subst, sym}
use Rattle.every_order.proofs.Knowing.{different}
use Rattle.every_order.proofs.diagnosing.known_by.Goals as goal

pub returns-in-Some-first_other : goal.returns-in-Some-first_other
returns-in-Some-first_other c start from =
    let one = c.in-Some.one.now in
    let other = c.in-Some-first_other.field-0.now in
    let same = c.as_slice-outcomes.ensures.value in
    different start c.args.found.now from one other (subst (λ outcomes. Contains outcomes one) same c.in-Some.ensures.among) c.in-Some.ensures.roomy
    (subst (λ outcomes. Contains outcomes other) same c.in-Some-first_other.ensures.among) c.in-Some-first_other.ensures.roomy (λ is. c.in-Some-first_other.ensures.differs (is ∙ sym c.as_slice.ensures.value))
