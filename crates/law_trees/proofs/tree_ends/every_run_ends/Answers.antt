use Rattle.std.proofs.Common.{arith}
use Rattle.law_trees.proofs.tree_ends.Ending.{bounded}
use Rattle.law_trees.proofs.tree_ends.every_run_ends.Goals as goal

pub returns-clause-steps : goal.returns-clause-steps
returns-clause-steps c = λ profile lines input F last is run. let h = bounded profile run ((is.clear, is.short), is.no_back) in omega (arith, h.steps)

pub returns-clause-output : goal.returns-clause-output
returns-clause-output c = λ profile lines input F last is run. let h = bounded profile run ((is.clear, is.short), is.no_back) in omega (arith, h.bytes)

pub returns-clause-files : goal.returns-clause-files
returns-clause-files c = λ profile lines input F last name is run. let h = (bounded profile run ((is.clear, is.short), is.no_back)).grow name in omega (arith, h)
