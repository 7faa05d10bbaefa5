use Rattle.law_trees.proofs.trees.Moving.{moves}
use Rattle.law_trees.proofs.trees.Progress.{plain_kept, after}
use Rattle.law_trees.proofs.trees.what_is_left_waits_only_on_what_is_around_it.Goals as goal

pub returns-clause-moves : goal.returns-clause-moves
returns-clause-moves c = moves

pub returns-clause-tidy : goal.returns-clause-tidy
returns-clause-tidy c = λ profile X Y F G label steps tidy. (after profile label steps tidy).tidy

pub returns-clause-plain : goal.returns-clause-plain
returns-clause-plain c = λ profile X Y F G label steps plain. plain_kept profile steps plain
