use Rattle.law_trees.proofs.programs.Calling.{calls}
use Rattle.law_trees.proofs.programs.what_a_program_waits_for.Goals as goal

pub returns : goal.returns
returns c = calls
