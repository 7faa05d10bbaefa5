use Rattle.std.proofs.Common.{None, refl}
use Rattle.xvsh_runs.specs.declared.fault.ProcessFault.TheVariants.{Spent}
use Rattle.law_answers.proofs.Spent.{spent_in, strictly_spent_in, given_up_in}
use Rattle.law_answers.proofs.laws.a_roomy_script_has_turns_enough_by_itself.Goals as goal

pub returns-clause-run : goal.returns-clause-run
returns-clause-run c = λ s harts is. given_up_in s (spent_in s harts None Spent is refl)

pub returns-clause-strict : goal.returns-clause-strict
returns-clause-strict c = λ s harts is. given_up_in s (strictly_spent_in s harts None Spent is refl)
