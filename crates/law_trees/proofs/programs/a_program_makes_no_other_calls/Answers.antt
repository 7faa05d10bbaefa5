use Rattle.law_trees.proofs.programs.Taming.{always_tame}
use Rattle.law_trees.proofs.programs.a_program_makes_no_other_calls.Goals as goal

pub returns : goal.returns
returns c = always_tame
