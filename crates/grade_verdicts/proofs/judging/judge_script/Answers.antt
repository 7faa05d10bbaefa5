use Rattle.std.proofs.Common.{Ok, ap, inr, refl}
use Rattle.every_order.proofs.Passing.{passes}
use Rattle.grade_verdicts.specs.Judged.{by_turns, limited}
use Rattle.grade_verdicts.proofs.judging.judge_script.Goals as goal

pub returns-then-not-branch-clause-verdict : goal.returns-then-not-branch-clause-verdict
returns-then-not-branch-clause-verdict c = by_turns c.args.task.now.turns (limited refl) (c.in_ok-ends_in_time.ensures.spent (ap Ok c.if-not-branch.true))

pub returns-in-Some-clause-time : goal.returns-in-Some-clause-time
returns-in-Some-clause-time c = inr (c.in_ok-ends_in_time.ensures.ends (ap Ok c.if-not-branch.false))

pub returns-clause-time : goal.returns-clause-time
returns-clause-time c = passes c.judge_by_orders.result _ _ (λ verdict is. inr (c.in_ok-ends_in_time.ensures.ends (ap Ok c.if-not-branch.false))) c.judge_by_orders.ensures
