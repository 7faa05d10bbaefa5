use Rattle.meaning_model.specs.Meaning.{script_tree}
use Rattle.meaning_model.proofs.OneMeaning.{one_meaning, one_met}
use Rattle.meaning_model.proofs.laws.without_over_one_meaning.Goals as goal

pub returns-clause-tree : goal.returns-clause-tree
returns-clause-tree c tree input F none = one_meaning tree input F none

pub returns-clause-script : goal.returns-clause-script
returns-clause-script c lines input F none = one_meaning (script_tree lines) input F none

pub returns-clause-met : goal.returns-clause-met
returns-clause-met c tree input F none = one_met tree input F none
