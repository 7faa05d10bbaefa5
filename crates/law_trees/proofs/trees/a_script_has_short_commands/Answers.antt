use Rattle.law_trees.proofs.trees.Short.{script_short, small_short}
use Rattle.law_trees.proofs.trees.a_script_has_short_commands.Goals as goal

pub returns-clause-loaded : goal.returns-clause-loaded
returns-clause-loaded c = script_short

pub returns-clause-made : goal.returns-clause-made
returns-clause-made c = small_short
