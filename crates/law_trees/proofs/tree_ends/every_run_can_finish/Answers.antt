use Rattle.law_trees.proofs.trees.Progress.{sound}
use Rattle.law_trees.proofs.tree_ends.Ending.{finish}
use Rattle.law_trees.proofs.tree_ends.every_run_can_finish.Goals as goal

pub returns : goal.returns
returns c = λ profile lines input F last is run. finish profile last (sound profile run ((is.clear, is.short), is.no_back))
