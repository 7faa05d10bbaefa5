use Rattle.meaning_model.specs.Meaning.{script_meaning, script_tree}
use Rattle.tree_model.specs.Runs.{after_steps, first_stage}
use Rattle.law_trees.proofs.trees.OneAnswer.{reaches_way, run_on, first_way, done_agrees}
use Rattle.law_trees.proofs.trees.one_answer_for_every_order.Goals as goal

pub returns-clause-by_rules : goal.returns-clause-by_rules
returns-clause-by_rules c = λ profile lines input F last settled short reaches ends.
    done_agrees profile (script_meaning profile lines input F) last (reaches_way profile (script_meaning profile lines input F) reaches (first_way profile lines input F settled short)) ends

pub returns-clause-by_choices : goal.returns-clause-by_choices
returns-clause-by_choices c = λ profile lines input F cs settled short ends.
    done_agrees profile (script_meaning profile lines input F) (after_steps profile cs (first_stage (script_tree lines) input F))
    (run_on profile (script_meaning profile lines input F) cs (first_stage (script_tree lines) input F) (first_way profile lines input F settled short)) ends
