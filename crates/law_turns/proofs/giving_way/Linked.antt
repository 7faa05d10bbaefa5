-- To be able to do what another kernel can holds of each kernel with itself, both ways, and is passed on; outcomes are the same.
use Rattle.user_calls.specs.declared.calls.Call.{Call}
use Rattle.user_calls.specs.declared.calls.Reply.{Reply}
use Rattle.kernel_model.specs.KernelState.{KernelState}
use Rattle.kernel_model.specs.Outcome.{SameOutcome}
use Rattle.kernel_model.specs.Anyhow.{DoesAnyhow, itself as the_same, likened as linked_by}
use Rattle.kernel_model.specs.Linked.{AlikeButSlots, then_slots, slots_then, CanDo, itself, likened}
use Rattle.law_turns.proofs.private_turns.Begun.{begun_still}
use Rattle.law_turns.proofs.last_closes.Anyhow.{anyhow_back, outcome_on, outcome_anyhow}
use Rattle.law_turns.proofs.slot_numbers.Same.{same_itself, same_back, outcome_so}

pub alike_back : {S : Type 0} (k l : KernelState S) → AlikeButSlots k l → AlikeButSlots l k
alike_back k l (then_slots j still a s) = slots_then j still (same_back j l s) (anyhow_back k j a)
alike_back k l (slots_then j still s a) = then_slots j still (anyhow_back j l a) (same_back k j s)

pub outcome_link : {S : Type 0} (k l : KernelState S) → AlikeButSlots k l → SameOutcome k l
outcome_link k l (then_slots j still a s) = outcome_on k j l (outcome_anyhow k j a) (outcome_so j l s)
outcome_link k l (slots_then j still s a) = outcome_on k j l (outcome_so k j s) (outcome_anyhow j l a)

module _ {S : Type 0} (call : S → Reply → Call) (next : S → Reply → S) where
  pub can_on : (k l m : KernelState S) → CanDo call next k l → CanDo call next l m → CanDo call next k m
  can_on k l m (itself j) more = more
  can_on k l m (likened i j n b d alike rest) more = likened i j m b d alike (can_on j n m rest more)

  pub can_back : (k m : KernelState S) → CanDo call next k m → CanDo call next m k
  can_back k m (itself j) = itself j
  can_back k m (likened i j n b d alike rest) = can_on m j i (can_back j m rest) (likened j i i d b (alike_back i j alike) (itself i))

  pub can_outcome : (k m : KernelState S) → CanDo call next k m → SameOutcome k m
  can_outcome k m (itself j) = outcome_so j j (same_itself j)
  can_outcome k m (likened i j n b d alike rest) = outcome_on i j m (outcome_link i j alike) (can_outcome j m rest)

  pub can_of_anyhow : (k m : KernelState S) → DoesAnyhow call next k m → CanDo call next k m
  can_of_anyhow k m (the_same j) = itself j
  can_of_anyhow k m (linked_by i j n b d alike rest) = likened i j m b d (then_slots j (begun_still call next j d) alike (same_itself j)) (can_of_anyhow j m rest)
