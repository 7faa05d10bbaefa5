use Rattle.law_trees.proofs.programs.Unrefused.{unrefused}
use Rattle.law_trees.proofs.programs.no_write_of_a_program_alone_is_refused.Goals as goal

pub returns : goal.returns
returns c = unrefused
