use Rattle.law_trees.proofs.programs.Exiting.{turn_goes, some_left}
use Rattle.law_trees.proofs.programs.each_turn_makes_one_call_fewer.Goals as goal

pub returns-clause-turn : goal.returns-clause-turn
returns-clause-turn c = turn_goes

pub returns-clause-some : goal.returns-clause-some
returns-clause-some c = some_left
