use Rattle.law_trees.proofs.programs.Refusing.{passes, own_tells}
use Rattle.law_trees.proofs.programs.a_refused_write_is_passed_over_or_told.Goals as goal

pub returns-clause-any : goal.returns-clause-any
returns-clause-any c = passes

pub returns-clause-own : goal.returns-clause-own
returns-clause-own c = own_tells
