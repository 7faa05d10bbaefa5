use Rattle.meaning_model.proofs.NothingMet.{meets_nothing}
use Rattle.meaning_model.proofs.laws.a_settled_tree_meets_nothing.Goals as goal

pub returns-clause-met : goal.returns-clause-met
returns-clause-met c profile tree outside input F settled = (meets_nothing profile tree outside input F settled).met

pub returns-clause-soft : goal.returns-clause-soft
returns-clause-soft c profile tree outside input F settled = (meets_nothing profile tree outside input F settled).soft
