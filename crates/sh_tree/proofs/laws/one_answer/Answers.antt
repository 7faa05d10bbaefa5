use Rattle.sh_tree.proofs.Answer.{one_tree_of, one_fault, never_both}
use Rattle.sh_tree.proofs.laws.one_answer.Goals as goal

pub returns-clause-tree : goal.returns-clause-tree
returns-clause-tree c line t u x y = one_tree_of line t u x y

pub returns-clause-fault : goal.returns-clause-fault
returns-clause-fault c line f g p q x y = one_fault line f g p q x y

pub returns-clause-never_both : goal.returns-clause-never_both
returns-clause-never_both c line t f p x y = never_both line t f p x y
