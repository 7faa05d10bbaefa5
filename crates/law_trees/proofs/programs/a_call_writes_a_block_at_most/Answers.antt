use Rattle.law_trees.proofs.programs.Small.{turn_small}
use Rattle.law_trees.proofs.programs.a_call_writes_a_block_at_most.Goals as goal

pub returns-clause-writes : goal.returns-clause-writes
returns-clause-writes c = λ state reply holds few. (turn_small state reply holds few).0

pub returns-clause-holds : goal.returns-clause-holds
returns-clause-holds c = λ state reply holds few. (turn_small state reply holds few).1
