use Rattle.std.proofs.Common.{◌≡◌, true, false, sym, ◌∙◌}
use Rattle.xvsh_grades.specs.Passed.{all_passed, not_judged, not_passed}
use Rattle.xvsh_grades.proofs.reporting.status_of.Goals as goal

apart : true ≡ false → ⊥
apart e = cc

pub returns-then-not-report : goal.returns-then-not-report
returns-then-not-report c = λ marks h. not_judged (λ all. apart (sym (h.judged.1 all) ∙ c.if-not-report.true))

pub returns-then-report : goal.returns-then-report
returns-then-report c = λ marks h. all_passed (h.passed.0 c.if-report.true)

pub returns-else-report : goal.returns-else-report
returns-else-report c = λ marks h. not_passed (h.judged.0 c.if-not-report.false) (λ all. apart (sym (h.passed.1 all) ∙ c.if-report.false))
