use Rattle.law_trees.proofs.tree_ends.Answering.{gives_meaning}
use Rattle.law_trees.proofs.tree_ends.every_run_gives_the_meaning.Goals as goal

pub returns : goal.returns
returns c = gives_meaning
