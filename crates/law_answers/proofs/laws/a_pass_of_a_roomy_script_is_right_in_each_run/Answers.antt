use Rattle.law_answers.proofs.Passed.{right_unless_refused}
use Rattle.law_answers.proofs.laws.a_pass_of_a_roomy_script_is_right_in_each_run.Goals as goal

pub returns : goal.returns
returns c = λ t bytes lines are cut passed roomy. right_unless_refused t bytes lines are cut passed roomy
