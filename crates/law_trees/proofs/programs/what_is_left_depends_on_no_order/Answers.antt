use Rattle.law_trees.proofs.programs.Firm.{still_firm}
use Rattle.law_trees.proofs.programs.what_is_left_depends_on_no_order.Goals as goal

pub returns : goal.returns
returns c = still_firm
