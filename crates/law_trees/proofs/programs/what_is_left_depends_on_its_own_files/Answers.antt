use Rattle.law_trees.proofs.programs.Framing.{frame}
use Rattle.law_trees.proofs.programs.what_is_left_depends_on_its_own_files.Goals as goal

pub returns : goal.returns
returns c = frame
