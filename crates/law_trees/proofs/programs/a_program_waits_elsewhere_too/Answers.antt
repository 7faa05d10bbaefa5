use Rattle.law_trees.proofs.programs.Elsewhere.{is_there, waits_elsewhere, waits_agree, fits_elsewhere}
use Rattle.law_trees.proofs.programs.a_program_waits_elsewhere_too.Goals as goal

pub returns-clause-there : goal.returns-clause-there
returns-clause-there c = λ state call world name waits held. is_there state call world waits name held

pub returns-clause-waits : goal.returns-clause-waits
returns-clause-waits c = waits_elsewhere

pub returns-clause-agree : goal.returns-clause-agree
returns-clause-agree c = waits_agree

pub returns-clause-fits : goal.returns-clause-fits
returns-clause-fits c = fits_elsewhere
