use Rattle.law_trees.proofs.programs.Keeps.{call_kept, put_kept}
use Rattle.law_trees.proofs.programs.Fitting.{fits_on}
use Rattle.law_trees.proofs.programs.Waiting.{waits_on}
use Rattle.law_trees.proofs.programs.each_call_keeps_what_is_left.Goals as goal

pub returns-clause-kept : goal.returns-clause-kept
returns-clause-kept c = call_kept

pub returns-clause-waits : goal.returns-clause-waits
returns-clause-waits c = waits_on

pub returns-clause-fits : goal.returns-clause-fits
returns-clause-fits c = fits_on

pub returns-clause-put : goal.returns-clause-put
returns-clause-put c = put_kept
