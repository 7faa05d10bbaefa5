use Rattle.law_trees.proofs.programs.Exiting.{exits}
use Rattle.law_trees.proofs.programs.a_program_exits_in_time.Goals as goal

pub returns : goal.returns
returns c = exits
