use Rattle.meaning_model.specs.Meaning.{script_meaning}
use Rattle.law_trees.proofs.trees.OneAnswer.{next_on, goes_way, reaches_way, first_way, done_agrees}
use Rattle.law_trees.proofs.trees.each_step_keeps_the_final_value.Goals as goal

pub returns-clause-begins : goal.returns-clause-begins
returns-clause-begins c = first_way

pub returns-clause-by_rules : goal.returns-clause-by_rules
returns-clause-by_rules c = goes_way

pub returns-clause-by_choices : goal.returns-clause-by_choices
returns-clause-by_choices c = next_on

pub returns-clause-reached : goal.returns-clause-reached
returns-clause-reached c = λ profile lines input F last settled short reaches. reaches_way profile (script_meaning profile lines input F) reaches (first_way profile lines input F settled short)

pub returns-clause-done : goal.returns-clause-done
returns-clause-done c = done_agrees
