-- The bits that are set.
use Rattle.std.proofs.Common.{◌∙◌, ap}
use Rattle.std.specs.Prelude.{count_ones}
use Rattle.slot_lists.proofs.Flags.{counted}
use Rattle.slot_lists.proofs.sets.SlotSet.count.Goals as goal

pub returns-clause-value : goal.returns-clause-value
returns-clause-value c = λ flags has. ap count_ones (c.self.view_is ∙ has.bits_are) ∙ counted flags
