-- A bit is set, or cleared.
use Rattle.std.proofs.Common.{◌≡◌, ◌-◌, ◌*◌, ◌%◌, ◌^◌, Bool, bit_and, bit_or, ◌∙◌, ap, sym, refl, arith}
use Rattle.std.proofs.lemmas.Grind.{one_shifted}
use Rattle.std.proofs.Math.ListN.{set, length-set}
use Rattle.std.specs.Int.Bits.{bit_xor}
use Rattle.std.specs.Simd.Lanes.{mask_l}
use Rattle.slot_lists.proofs.Flags.{with_true, with_false}
use Rattle.slot_lists.proofs.sets.SlotSet.with.Goals.{then-is_in, else-is_in}
use Rattle.slot_lists.proofs.sets.SlotSet.with.Goals as goal

pub returns : goal.returns
returns c = λ flags has.
    let slot = c.args.slot in
    let bits : c.self.inside.bits ≡ _ = c.self.view_is ∙ has.bits_are in
    let bit : 1 * 2 ^ slot % 2 ^ 64 ≡ 2 ^ slot = (one_shifted slot 18446744073709551615 refl (omega arith)).0 in
    let long = has.all in
    elim c.if-is_in.branch [
      | then-is_in w ↦ record {
        all = length-set flags slot c.args.is_in ∙ long;
        bits_are = w.result-is ∙ (λ i. bit_or (bits i) (bit i)) ∙ with_true flags slot (omega arith) ∙ ap (λ (b : Bool). mask_l (set flags slot b)) (sym w.if-is_in.true);
      }
      | else-is_in w ↦ record {
        all = length-set flags slot c.args.is_in ∙ long;
        bits_are = w.result-is ∙ (λ i. bit_and (bits i) (bit_xor (2 ^ 64 - 1) (bit i))) ∙ with_false flags slot long (omega arith) ∙ ap (λ (b : Bool). mask_l (set flags slot b)) (sym w.if-is_in.false);
      }
    ]
