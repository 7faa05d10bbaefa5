use Rattle.law_trees.proofs.programs.Elsewhere.{depends_alike, changes_alike, depends_first}
use Rattle.law_trees.proofs.programs.open_files_tell_what_it_depends_on.Goals as goal

pub returns-clause-depends : goal.returns-clause-depends
returns-clause-depends c = depends_alike

pub returns-clause-changes : goal.returns-clause-changes
returns-clause-changes c = changes_alike

pub returns-clause-within : goal.returns-clause-within
returns-clause-within c = depends_first
