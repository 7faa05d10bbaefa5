use Rattle.law_trees.proofs.trees.PlainRuns.{settled_script, none_lost, wholly}
use Rattle.law_trees.proofs.trees.Uncut.{uncut_firm}
use Rattle.law_trees.proofs.trees.where_no_pipe_is_cut_nothing_depends_on_the_order.Goals as goal

pub returns-clause-firm : goal.returns-clause-firm
returns-clause-firm c profile tree input F uncut = let h = uncut_firm profile tree input F uncut in record { loose = h.loose; soft = h.soft }

pub returns-clause-meets_nothing : goal.returns-clause-meets_nothing
returns-clause-meets_nothing c profile tree input F uncut = (uncut_firm profile tree input F uncut).met

pub returns-clause-settled : goal.returns-clause-settled
returns-clause-settled c = settled_script

pub returns-clause-unrefused : goal.returns-clause-unrefused
returns-clause-unrefused c = none_lost

pub returns-clause-wholly : goal.returns-clause-wholly
returns-clause-wholly c = wholly
