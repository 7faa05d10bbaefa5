-- Both bits are set.
use Rattle.std.proofs.Common.{◌∙◌, bit_and, sym}
use Rattle.slot_lists.proofs.Flags.{both_bits, length-both}
use Rattle.slot_lists.proofs.sets.SlotSet.and.Goals as goal

pub returns : goal.returns
returns c = λ flags others has other_has.
    record {
      all = length-both flags others (has.all ∙ sym other_has.all) ∙ has.all;
      bits_are = (λ i. bit_and ((c.self.view_is ∙ has.bits_are) i) ((c.other.view_is ∙ other_has.bits_are) i)) ∙ both_bits flags others (has.all ∙ sym other_has.all);
    }
