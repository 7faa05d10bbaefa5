use Rattle.law_trees.proofs.programs.Holding.{depends_shrink, changes_shrink}
use Rattle.law_trees.proofs.programs.what_it_depends_on_shrinks.Goals as goal

pub returns-clause-depends : goal.returns-clause-depends
returns-clause-depends c = depends_shrink

pub returns-clause-changes : goal.returns-clause-changes
returns-clause-changes c = changes_shrink
