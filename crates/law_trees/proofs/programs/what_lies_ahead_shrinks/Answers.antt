use Rattle.law_trees.proofs.programs.Shrinking.{opens_shrink, writes_shrink, uses_shrink}
use Rattle.law_trees.proofs.programs.what_lies_ahead_shrinks.Goals as goal

pub returns-clause-opens : goal.returns-clause-opens
returns-clause-opens c = opens_shrink

pub returns-clause-writes : goal.returns-clause-writes
returns-clause-writes c = writes_shrink

pub returns-clause-uses : goal.returns-clause-uses
returns-clause-uses c = uses_shrink
