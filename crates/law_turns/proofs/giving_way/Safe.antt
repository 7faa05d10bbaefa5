-- Private turns, closes, forks, waits that free a zombie, and exits give way to nobody's turn, where slots or entries are ahead.
use Rattle.std.proofs.Common.{◌≡◌, ◌≢◌, ◌⊎◌, ℕ, [], ◌∷◌, false, Option, Some, inl, inr, refl, sym, ap, ◌∙◌}
use Rattle.user_calls.specs.declared.calls.Call.{Call}
use Rattle.user_calls.specs.declared.calls.Call.TheVariants.{Fork}
use Rattle.user_calls.specs.declared.calls.Reply.{Reply}
use Rattle.proc_table.specs.Slots.{Process, at}
use Rattle.kernel_model.specs.KernelState.{KernelState}
use Rattle.kernel_model.specs.Turns.{by_turns, after_turn, quiet_turns}
use Rattle.kernel_model.specs.Reduced.{ComesTo, IsSafe, Joins}
use Rattle.kernel_model.specs.Begun.{IsBegun}
use Rattle.kernel_model.specs.Closes.{HasRoomAhead, ClosesOrPrivate}
use Rattle.kernel_model.specs.Anyhow.{AlikeAnyhow, DoesAnyhow}
use Rattle.kernel_model.specs.Giving.{ForksNext, ReapsNext, ExitsNext, HasSlotsAhead, GivesWay, privately, closes, forks, reaps, exits, GivesWayBegun}
use Rattle.kernel_model.specs.Linked.{AlikeButSlots, then_slots, slots_then, CanDo, itself, likened}
use Rattle.law_turns.proofs.orders.Back.{could_turn}
use Rattle.law_turns.proofs.private_turns.Awake.{alike_awake}
use Rattle.law_turns.proofs.private_turns.Begun.{begun_on, begun_still}
use Rattle.law_turns.proofs.private_turns.Turned.{ready_slot, runnable_by}
use Rattle.law_turns.proofs.last_closes.Anyhow.{anyhow_back, awake_anyhow}
use Rattle.law_turns.proofs.read_ends.Safe.{room_on, gives_way_safe}
use Rattle.law_turns.proofs.slot_numbers.Same.{same_itself, same_back}
use Rattle.law_turns.specs.Waits.{InEitherOrderButSlots}
use Rattle.law_turns.proofs.waits.Turned.{reaps_either, reaps_stays}
use Rattle.law_turns.specs.Forks.{HasSlot}
use Rattle.law_turns.proofs.forks.Turned.{forks_either, forks_stay}
use Rattle.law_turns.specs.Exits.{InEitherOrderAnyhow, IsDoneAnyhow, InEitherOrderReaping}
use Rattle.law_turns.proofs.exits.Whole.{exits_either, exits_stay}
use Rattle.law_turns.proofs.giving_way.Linked.{can_of_anyhow}
use Rattle.law_turns.proofs.giving_way.Middle.{still_between}

module _ {S : Type 0} (call : S → Reply → Call) (next : S → Reply → S) where
  slots_on : (k l : KernelState S) (q : ℕ) → HasSlotsAhead call next k → after_turn call next k q ≡ Some l → HasSlotsAhead call next l
  slots_on k l q slots is pids m r later = slots (q ∷ pids) m r (ap (λ (o : Option (KernelState S)). by_turns call next o (quiet_turns pids)) is ∙ later)

  -- what does or comes to another kernel but for who sleeps and for numbers of entries
  widened : (k m : KernelState S) → ComesTo (after_turn call next) (DoesAnyhow call next) k m → ComesTo (after_turn call next) (CanDo call next) k m
  widened k m (inl does) = inl (can_of_anyhow call next k m does)
  widened k m (inr t) = inr (t.0, t.1, t.2, can_of_anyhow call next t.1 m t.3)

  one_of_these : (k : KernelState S) (p : ℕ) → ClosesOrPrivate call next k p → GivesWay call next k p
  one_of_these k p (inl private) = privately private
  one_of_these k p (inr close) = closes close

  module _ (k a l : KernelState S) (p q : ℕ) (begun : IsBegun call next k) (differ : p ≢ q) (first : after_turn call next k p ≡ Some a) (second : after_turn call next k q ≡ Some l) where
    abbrev JoinsHere : Type 0
    JoinsHere = Joins (after_turn call next) (CanDo call next) (GivesWayBegun call next) a l p

    other : q ≢ p
    other is = differ (sym is)

    begun_a : IsBegun call next a
    begun_a = begun_on call next k a (p ∷ []) begun first

    begun_l : IsBegun call next l
    begun_l = begun_on call next k l (q ∷ []) begun second

    closes_join : ClosesOrPrivate call next k p → JoinsHere
    closes_join e =
        let b = gives_way_safe call next k a l p q (record { gives = e; begun = begun }) differ first second in
        record { both = b.both; taken = b.taken; still = record { gives = one_of_these l p b.still.gives; begun = b.still.begun }; joins = widened a b.both b.joins }

    -- both orders come to kernels that are linked
    in_order : (after both : KernelState S) → after_turn call next a q ≡ Some after → after_turn call next l p ≡ Some both → (IsBegun call next after → IsBegun call next both → AlikeButSlots after both) → GivesWay call next l p → JoinsHere
    in_order after both here there link still =
        let begun_after = begun_on call next a after (q ∷ []) begun_a here in
        let begun_both = begun_on call next l both (p ∷ []) begun_l there in
        record {
          both = both;
          taken = there;
          still = record { gives = still; begun = begun_l };
          joins = inr (q, after, here, likened after both both begun_after begun_both (link begun_after begun_both) (itself both));
        }

    slots_join : InEitherOrderButSlots call next a l p q → GivesWay call next l p → JoinsHere
    slots_join b =
        in_order b.after b.both b.second b.taken (λ c d.
        let alike : AlikeAnyhow b.after b.between = awake_anyhow b.after b.between (alike_awake b.after b.between b.alike) in
        then_slots b.between (still_between b.after b.between b.both alike b.same (begun_still call next b.after c) (begun_still call next b.both d)) alike b.same)

    -- q forks too
    other_forks : (y : Process S) → at k.table q ≡ Some y → call y.machine y.reply ≡ Fork → ForksNext call k q
    other_forks y there calls =
        let r = ready_slot (at k.table q) (could_turn call next k (record { pid = q; refused = false }) (l, second)) in
        let same : r.process ≡ y = cc in
        record { process = y; there = there; ready = ap (λ (x : Process S). x.status) (sym same) ∙ runnable_by r.process.status r.ready; calls = calls }

    forks_join : p ≢ 0 → ForksNext call k p → HasSlotsAhead call next k → JoinsHere
    forks_join child f slots =
        let still = forks_stay call next k l p q begun f other second in
        let room : HasSlot k = slots [] k p refl f.process f.there f.calls in
        let room_l : HasSlot l = slots (q ∷ []) l p second still.process still.there still.calls in
        slots_join (forks_either call next k a l p q begun f other room room_l (λ y there calls.
        let too = forks_stay call next k a q p begun (other_forks y there calls) differ first in
        slots (p ∷ []) a q first too.process too.there too.calls) first second)
        (forks child still (slots_on k l q slots second))

    reaps_join : ReapsNext call next k p → HasSlotsAhead call next k → JoinsHere
    reaps_join e slots =
        slots_join (reaps_either call next k a l p q begun e other (slots [] k q refl) first second)
        (reaps (reaps_stays call next k l p q begun e other second) (slots_on k l q slots second))

    exits_join : p ≢ 0 → ExitsNext call next k p → HasRoomAhead call next k → JoinsHere
    exits_join child e room = by (exits_either call next k a l p q begun e child other (room [] k q refl) first second) where
      still : GivesWay call next l p
      still = exits child (exits_stay call next k l p q begun e other second) (room_on call next k l q room second)

      by : InEitherOrderAnyhow call next a l p q ⊎ (IsDoneAnyhow call next a l p ⊎ InEitherOrderReaping call next k a l p q) → JoinsHere
      by (inl b) = in_order b.after b.both b.second b.taken (λ c d. then_slots b.both (begun_still call next b.both d) b.alike (same_itself b.both)) still
      by (inr (inl b)) =
          let begun_both = begun_on call next l b.both (p ∷ []) begun_l b.taken in
          let link : AlikeButSlots a b.both = then_slots b.both (begun_still call next b.both begun_both) b.alike (same_itself b.both) in
          record { both = b.both; taken = b.taken; still = record { gives = still; begun = begun_l }; joins = inl (likened a b.both b.both begun_a begun_both link (itself b.both)) }
      by (inr (inr b)) =
          in_order b.after b.both b.second b.taken (λ c d.
          slots_then b.between
          (still_between b.both b.between b.after (anyhow_back b.between b.both b.alike) (same_back b.after b.between b.same) (begun_still call next b.both d) (begun_still call next b.after c)) b.same b.alike) still

  pub giving_safe : IsSafe (after_turn call next) (CanDo call next) (GivesWayBegun call next)
  giving_safe k a l p q e ne first second = by e.gives where
    by : GivesWay call next k p → Joins (after_turn call next) (CanDo call next) (GivesWayBegun call next) a l p
    by (privately private) = closes_join k a l p q e.begun ne first second (inl private)
    by (closes close) = closes_join k a l p q e.begun ne first second (inr close)
    by (forks child f slots) = forks_join k a l p q e.begun ne first second child f slots
    by (reaps r slots) = reaps_join k a l p q e.begun ne first second r slots
    by (exits child x room) = exits_join k a l p q e.begun ne first second child x room
