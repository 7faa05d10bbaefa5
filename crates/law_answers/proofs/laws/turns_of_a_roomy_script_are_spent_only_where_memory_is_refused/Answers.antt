use Rattle.std.proofs.Common.{refl}
use Rattle.xvsh_runs.specs.declared.fault.ProcessFault.TheVariants.{Spent}
use Rattle.law_answers.proofs.Spent.{spent_in, strictly_spent_in}
use Rattle.law_answers.proofs.laws.turns_of_a_roomy_script_are_spent_only_where_memory_is_refused.Goals as goal

pub returns-clause-run : goal.returns-clause-run
returns-clause-run c = λ s harts turns is. spent_in s harts turns Spent is refl

pub returns-clause-strict : goal.returns-clause-strict
returns-clause-strict c = λ s harts turns is. strictly_spent_in s harts turns Spent is refl
