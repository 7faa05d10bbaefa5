use Rattle.law_trees.proofs.trees.Chosen.{chosen}
use Rattle.law_trees.proofs.trees.each_rule_is_a_choice.Goals as goal

pub returns : goal.returns
returns c = λ profile X Y F G label closed ended input steps met. chosen profile closed ended input steps met
