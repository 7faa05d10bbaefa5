use Rattle.law_trees.proofs.programs.Chunks.{chunks}
use Rattle.law_trees.proofs.programs.a_program_alone_does_what_its_function_says.Goals as goal

pub returns : goal.returns
returns c = chunks
