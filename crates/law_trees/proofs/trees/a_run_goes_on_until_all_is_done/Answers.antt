use Rattle.law_trees.proofs.trees.Progress.{sound, next}
use Rattle.law_trees.proofs.trees.a_run_goes_on_until_all_is_done.Goals as goal

pub returns : goal.returns
returns c = λ profile lines input F last is run. next profile last (sound profile run ((is.clear, is.short), is.no_back))
