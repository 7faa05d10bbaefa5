-- Kernels that are enough have the outcome of every finished run.
use Rattle.std.proofs.Common.{◌≡◌, ℕ, ◌<◌, List, [], ◌∷◌, Some, None, inl, inr, length, sym, subst, ◌∙◌}
use Rattle.std.specs.Prelude.{All, Any, Contains, slice_index_or}
use Rattle.user_calls.specs.declared.calls.Call.{Call}
use Rattle.user_calls.specs.declared.calls.Reply.{Reply}
use Rattle.proc_table.specs.Slots.{at}
use Rattle.kernel_model.specs.declared.events.Event.{Event}
use Rattle.kernel_model.specs.KernelState.{KernelState}
use Rattle.kernel_model.specs.Events.{run, IsFinished}
use Rattle.kernel_model.specs.Quiet.{no_refusals}
use Rattle.kernel_model.proofs.Quiet.{run_quiet}
use Rattle.kernel_model.specs.Outcome.{RunOutcome, SameOutcome, outcome_of}
use Rattle.kernel_model.specs.Turns.{after_turn, after_turns, callers, IsReachedFrom}
use Rattle.kernel_model.specs.Reduced.{IsLed, listed, private_turn, GoesOn, IsReduced, IsEnding}
use Rattle.kernel_model.specs.Begun.{IsBegun}
use Rattle.kernel_model.specs.Giving.{GivesWay, GivesWayBegun}
use Rattle.kernel_model.specs.Anyhow.{SameKeyAnyhow}
use Rattle.kernel_model.specs.Linked.{then_slots, CanDo, itself, likened}
use Rattle.kernel_model.specs.Explored.{AreEnough, Explored, AreAllOutcomes}
use Rattle.law_turns.proofs.orders.Matching.{quiet_matched}
use Rattle.law_turns.proofs.private_turns.Begun.{begun_on, begun_still}
use Rattle.law_turns.proofs.last_closes.Anyhow.{anyhow_back, key_anyhow, outcome_on}
use Rattle.law_turns.proofs.slot_numbers.Same.{same_itself}
use Rattle.law_turns.proofs.giving_way.Linked.{can_outcome}
use Rattle.law_turns.proofs.giving_way.Following.{following}
use Rattle.law_turns.proofs.giving_way.Safe.{giving_safe}
use Rattle.law_turns.proofs.Moved.{of_all, any_more, every_ending}
use Rattle.law_turns.proofs.Runs.{folded, of_run}
use Rattle.law_turns.proofs.Giving.{giver}

pub outcome_back : {S : Type 0} (k l : KernelState S) → SameOutcome k l → SameOutcome l k
outcome_back k l a = record { outcome = sym a.outcome; input = sym a.input; finished = (a.finished.1, a.finished.0) }

module _ {S : Type 0} (call : S → Reply → Call) (next : S → Reply → S) where
  -- whose turn gives way to nobody's isn't gone
  not_over : (k m : KernelState S) (p : ℕ) → GivesWay call next k p → SameOutcome k m → IsFinished m → ⊥
  not_over k m p e same over =
      let g = giver call next k p e in
      let gone : at k.table g.some.pid ≡ None = same.finished.1 over g.some.pid g.some.child in
      let no : None ≡ Some g.some.process = sym gone ∙ g.some.there in
      let z : ⊥ = cc in
      z

  pub finished_ends : (m : KernelState S) → IsFinished m → IsEnding (after_turn call next) (CanDo call next) (GivesWayBegun call next) m
  finished_ends m over k p e does = not_over k m p e.gives (can_outcome call next k m does) over

  module _ (start : KernelState S) (seen : List (KernelState S)) (begun : IsBegun call next start) (e : AreEnough call next start seen) where
    pub seen_begun : (i : ℕ) (k : KernelState S) → i < length seen → slice_index_or seen i k ≡ k → IsBegun call next k
    seen_begun i k within there = let way = of_all (IsReachedFrom call next start) seen i k e.reached within there in begun_on call next start k way.pids begun way.turns

    led : (k : KernelState S) → IsBegun call next k → IsLed (after_turn call next) (λ s k. SameKeyAnyhow k s) (GivesWay call next) seen k → IsLed (after_turn call next) (CanDo call next) (GivesWayBegun call next) seen k
    led k b (listed j any) =
        listed k (any.0, any.1, any.2, any.3, likened any.1 k k (seen_begun any.0 any.1 any.2 any.3) b (then_slots k (begun_still call next k b) (anyhow_back k any.1 (key_anyhow k any.1 any.4)) (same_itself k)) (itself k))
    led k b (private_turn j a p mine first rest) = private_turn k a p (record { gives = mine; begun = b }) first (led a (begun_on call next k a (p ∷ []) b first) rest)

    goes : (s : KernelState S) → IsBegun call next s → GoesOn (after_turn call next) (λ s k. SameKeyAnyhow k s) (GivesWay call next) seen s → GoesOn (after_turn call next) (CanDo call next) (GivesWayBegun call next) seen s
    goes s b (inl every) = inl (λ p now is. led now (begun_on call next s now (p ∷ []) b is) (every p now is))
    goes s b (inr one) =
        inr (record { pid = one.pid; after = one.after; mine = record { gives = one.mine; begun = b }; taken = one.taken; led = led one.after (begun_on call next s one.after (one.pid ∷ []) b one.taken) one.led })

    at_begun : (i : ℕ) (d : KernelState S) → i < length seen → IsBegun call next (slice_index_or seen i d)
    at_begun i d within = let way = e.reached i d within in begun_on call next start (slice_index_or seen i d) way.pids begun way.turns

    reduced : IsReduced (after_turn call next) (CanDo call next) (GivesWayBegun call next) start seen
    reduced = record { starts = led start begun e.reduced.starts; goes_on = λ i d within. goes (slice_index_or seen i d) (at_begun i d within) (e.reduced.goes_on i d within) }

    -- wherever turns lead to an ending
    pub turns_listed : (m : KernelState S) (pids : List ℕ) → after_turns call next start pids ≡ Some m → IsEnding (after_turn call next) (CanDo call next) (GivesWayBegun call next) m → Any (λ s. CanDo call next s m) seen
    turns_listed m pids is over =
        every_ending (after_turn call next) (CanDo call next) (GivesWayBegun call next) (following call next) (giving_safe call next) start m seen pids reduced (folded call next pids (Some start) ∙ is) over

    pub run_listed : (m : KernelState S) (es : List Event) → run call next (Some start) es (no_refusals es) ≡ Some m → IsFinished m → Any (SameOutcome m) seen
    run_listed m es is over =
        let f = quiet_matched call next start m es (begun_still call next start begun) is in
        any_more (λ s. CanDo call next s f.last) (SameOutcome m) seen (λ s does. outcome_on m f.last s f.outcome (outcome_back s f.last (can_outcome call next s f.last does)))
        (turns_listed f.last (callers es) f.turns (finished_ends f.last (f.outcome.finished.0 over)))

    outcome_told : (m : KernelState S) (outcomes : List RunOutcome) → All (λ (n : KernelState S). IsFinished n → Contains outcomes (outcome_of n)) seen → IsFinished m → Any (SameOutcome m) seen → Contains outcomes (outcome_of m)
    outcome_told m outcomes told over any =
        let o = any.4 in
        let here = of_all (λ (n : KernelState S). IsFinished n → Contains outcomes (outcome_of n)) seen any.0 any.1 told any.2 any.3 (o.finished.0 over) in
        subst (Contains outcomes) (sym o.outcome) here

  pub explored_all : (start : KernelState S) (outcomes : List RunOutcome) → IsBegun call next start → Explored call next start outcomes → AreAllOutcomes call next start outcomes
  explored_all start outcomes begun e =
      record {
        quiet = λ es m is over. outcome_told start e.seen begun e.enough m outcomes e.told over (run_listed start e.seen begun e.enough m es is over);
        roomy = λ es ns m is roomy over. outcome_told start e.seen begun e.enough m outcomes e.told over (run_listed start e.seen begun e.enough m es (run_quiet call next start m es ns is roomy) over);
        only = λ i d within. of_run call next start (slice_index_or outcomes i d) (e.only i d within);
      }
