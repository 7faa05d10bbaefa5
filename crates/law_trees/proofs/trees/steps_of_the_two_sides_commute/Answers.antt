use Rattle.law_trees.proofs.trees.Commuting.{commute, pipe_commutes}
use Rattle.law_trees.proofs.trees.StepFrame.{tidy_asks}
use Rattle.law_trees.proofs.trees.steps_of_the_two_sides_commute.Goals as goal

pub returns-clause-sides : goal.returns-clause-sides
returns-clause-sides c = commute

pub returns-clause-pipe : goal.returns-clause-pipe
returns-clause-pipe c = pipe_commutes

pub returns-clause-tidy : goal.returns-clause-tidy
returns-clause-tidy c = tidy_asks
