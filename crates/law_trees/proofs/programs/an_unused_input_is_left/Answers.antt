use Rattle.law_trees.proofs.programs.Unused.{unused}
use Rattle.law_trees.proofs.programs.an_unused_input_is_left.Goals as goal

pub returns : goal.returns
returns c = unused
