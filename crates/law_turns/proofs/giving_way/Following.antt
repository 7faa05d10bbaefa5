-- A kernel that can do what another one can takes a turn, maybe of a process in another slot, for each turn of that one, or has no need to.
use Rattle.std.proofs.Common.{◌≡◌, ◌⊎◌, ℕ, [], ◌∷◌, Some, inl, inr}
use Rattle.user_calls.specs.declared.calls.Call.{Call}
use Rattle.user_calls.specs.declared.calls.Reply.{Reply}
use Rattle.kernel_model.specs.KernelState.{KernelState}
use Rattle.kernel_model.specs.Alike.{IsStill}
use Rattle.kernel_model.specs.Anyhow.{AlikeAnyhow}
use Rattle.kernel_model.specs.Begun.{IsBegun}
use Rattle.kernel_model.specs.Linked.{AlikeButSlots, then_slots, slots_then, CanDo, itself, likened}
use Rattle.kernel_model.specs.Reduced.{IsFollowing, ComesTo}
use Rattle.kernel_model.specs.Slots.{SameButSlots}
use Rattle.kernel_model.specs.Turns.{after_turn}
use Rattle.law_turns.proofs.private_turns.Begun.{IsSettled, after_still, begun_on, begun_still, begun_settled}
use Rattle.law_turns.proofs.last_closes.Anyhow.{OneStepAnyhow, one_step_anyhow}
use Rattle.law_turns.proofs.slot_numbers.Same.{same_back}
use Rattle.law_turns.proofs.slot_numbers.Sleepers.{settled_too}
use Rattle.law_turns.proofs.slot_numbers.Turns.{settled_taken}
use Rattle.law_turns.proofs.giving_way.Linked.{can_on}

module _ {S : Type 0} (call : S → Reply → Call) (next : S → Reply → S) where
  -- k can take a turn too, to what is so alike to `now`, or it is so already
  abbrev OneLink : KernelState S → KernelState S → Type 0
  OneLink k now = AlikeButSlots k now ⊎ ((p : ℕ) × (after : KernelState S) × (after_turn call next k p ≡ Some after) × AlikeButSlots after now)

  -- l takes a turn, j one in another slot, and k that one
  then_step : (k j l now : KernelState S) (p : ℕ) → IsSettled call k → IsStill j → IsSettled call l → AlikeAnyhow k j → SameButSlots j l → after_turn call next l p ≡ Some now → OneLink k now
  then_step k j l now p settled still settled_l alike slots is =
      let back = same_back j l slots in
      let q : ℕ = back.numbering.to p in
      let t = settled_taken call next l j now p back settled_l still is in
      let mid_still = after_still call next j t.after q still t.turn in
      by q t.after mid_still (same_back now t.after t.same) (one_step_anyhow call next k j t.after q settled still alike t.turn) where
        by : (q : ℕ) (mid : KernelState S) → IsStill mid → SameButSlots mid now → OneStepAnyhow call next k mid q → OneLink k now
        by q mid mid_still same (inl like) = inl (then_slots mid mid_still like same)
        by q mid mid_still same (inr s) = inr (q, s.0, s.1, then_slots mid mid_still s.2 same)

  -- l takes a turn, j the same one, and k one in another slot
  slots_step : (k j l now : KernelState S) (p : ℕ) → IsSettled call k → IsStill j → IsStill l → SameButSlots k j → AlikeAnyhow j l → after_turn call next l p ≡ Some now → OneLink k now
  slots_step k j l now p settled still still_l slots alike is = by (one_step_anyhow call next j l now p settled_j still_l alike is) where
    settled_j : IsSettled call j
    settled_j = settled_too k j slots call settled still

    by : OneStepAnyhow call next j now p → OneLink k now
    by (inl like) = inl (slots_then j still slots like)
    by (inr s) =
        let back = same_back k j slots in
        let t = settled_taken call next j k s.0 p back settled_j settled.still s.1 in
        inr (back.numbering.to p, t.after, t.turn, slots_then s.0 (after_still call next j s.0 p still s.1) (same_back s.0 t.after t.same) s.2)

  one_link : (k l now : KernelState S) (p : ℕ) → IsBegun call next k → IsBegun call next l → AlikeButSlots k l → after_turn call next l p ≡ Some now → OneLink k now
  one_link k l now p b d (then_slots j still alike slots) is = then_step k j l now p (begun_settled call next k b) still (begun_settled call next l d) alike slots is
  one_link k l now p b d (slots_then j still slots alike) is = slots_step k j l now p (begun_settled call next k b) still (begun_still call next l d) slots alike is

  abbrev Steps : KernelState S → KernelState S → Type 0
  Steps k now = ComesTo (after_turn call next) (CanDo call next) k now

  pub can_follow : (k l now : KernelState S) (p : ℕ) → CanDo call next k l → after_turn call next l p ≡ Some now → Steps k now
  can_follow k l now p (itself j) is = inr (p, now, is, itself now)
  can_follow k l now p (likened i j n b d alike rest) is = by (can_follow j n now p rest is) where
    then : (q : ℕ) (mid : KernelState S) → after_turn call next j q ≡ Some mid → CanDo call next mid now → OneLink i mid → Steps i now
    then q mid first more (inl same) = inl (likened i mid now b (begun_on call next j mid (q ∷ []) d first) same more)
    then q mid first more (inr s) = inr (s.0, s.1, s.2, likened s.1 mid now (begun_on call next i s.1 (s.0 ∷ []) b s.2) (begun_on call next j mid (q ∷ []) d first) s.3 more)

    by : Steps j now → Steps i now
    by (inl more) = inl (likened i j now b d alike more)
    by (inr s) = then s.0 s.1 s.2 s.3 (one_link i j s.1 s.0 b d alike s.2)

  pub following : IsFollowing (after_turn call next) (CanDo call next)
  following = record { itself = itself; on = can_on call next; follows = can_follow }
