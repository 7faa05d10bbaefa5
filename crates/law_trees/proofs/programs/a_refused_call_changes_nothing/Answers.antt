use Rattle.law_trees.proofs.programs.Refusing.{changes_nothing, waits_refused, fits_refused, depends_refused, changes_refused}
use Rattle.law_trees.proofs.programs.a_refused_call_changes_nothing.Goals as goal

pub returns-clause-same : goal.returns-clause-same
returns-clause-same c = changes_nothing

pub returns-clause-waits : goal.returns-clause-waits
returns-clause-waits c = waits_refused

pub returns-clause-fits : goal.returns-clause-fits
returns-clause-fits c = fits_refused

pub returns-clause-depends : goal.returns-clause-depends
returns-clause-depends c = depends_refused

pub returns-clause-changes : goal.returns-clause-changes
returns-clause-changes c = changes_refused
