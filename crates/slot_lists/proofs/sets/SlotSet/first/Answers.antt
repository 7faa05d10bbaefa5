-- The lowest bit that is set.
use Rattle.std.proofs.Common.{◌≡◌, ℕ, Some, ◌∙◌, ap, sym}
use Rattle.std.specs.Int.Count.{count_trailing_zeros}
use Rattle.slot_lists.proofs.Flags.{none_found, lowest_found}
use Rattle.slot_lists.proofs.sets.SlotSet.first.Goals as goal

pub returns-then-self-eq0-clause-value : goal.returns-then-self-eq0-clause-value
returns-then-self-eq0-clause-value c = λ flags has. sym (none_found flags (sym has.bits_are ∙ sym c.self.view_is ∙ c.if-self-eq0.true))

pub returns-else-self-eq0-clause-value : goal.returns-else-self-eq0-clause-value
returns-else-self-eq0-clause-value c = λ flags has.
    let bits : c.self.inside.bits ≡ _ = c.self.view_is ∙ has.bits_are in
    ap (λ (n : ℕ). Some (count_trailing_zeros 64 n)) bits ∙ sym (lowest_found flags has.all (λ zero_is. c.if-self-eq0.false (bits ∙ zero_is)))
