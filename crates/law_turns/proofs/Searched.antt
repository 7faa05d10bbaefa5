-- What a search found whose moves are the turns of all processes, and whose private moves are private turns.
use Rattle.std.proofs.Common.{◌≡◌, ℕ, zero, suc, ◌<◌, ◌≤◌, List, [], ◌∷◌, ◌++◌, true, false, inl, Option, Some, length, refl, ap, ◌∙◌, arith}
use Rattle.std.specs.Prelude.{All, Any, slice_index_or}
use Rattle.user_calls.specs.declared.calls.Call.{Call}
use Rattle.user_calls.specs.declared.calls.Reply.{Reply}
use Rattle.proc_table.specs.declared.pid.TheConstants.{PROCS}
use Rattle.proc_table.specs.Slots.{Table, at, is_runnable}
use Rattle.kernel_model.specs.KernelState.{KernelState}
use Rattle.kernel_model.specs.Outcome.{RunOutcome}
use Rattle.kernel_model.specs.Turns.{by_turns, after_turn, quiet_turns, IsReachedFrom}
use Rattle.kernel_model.specs.Explored.{FinishesWith, AreOutcomesOf, IsOutcomeByTurns, AreEnough, Explored, IsOutcomeOfRun}
use Rattle.closed_search.specs.Searched.{IsReached, here, more, IsLed as IsLedTo, listed as listed_to, privately, IsReducedUnder}
use Rattle.law_turns.proofs.orders.Back.{could_turn}
use Rattle.kernel_model.specs.Reduced.{IsLed, listed, private_turn}
use Rattle.kernel_model.specs.Giving.{GivesWay}
use Rattle.kernel_model.specs.Anyhow.{SameKeyAnyhow}
use Rattle.kernel_model.specs.Begun.{IsBegun}
use Rattle.law_turns.proofs.Moved.{of_all}
use Rattle.law_turns.proofs.Runs.{of_run}
use Rattle.law_turns.proofs.private_turns.Begun.{begun_on, begun_still}

-- whoever is Runnable has a slot
in_table : {S : Type 0} (t : Table S) (pid : ℕ) → is_runnable (at t pid) ≡ true → pid < length t
in_table [] pid is = absurd (let z : ⊥ = cc in z)
in_table (x ∷ t) zero is = omega arith
in_table (x ∷ t) (suc pid) is = let less = in_table t pid is in omega (arith, less)

module _ {S : Type 0} (call : S → Reply → Call) (next : S → Reply → S) where
  one_more : (pids : List ℕ) (pid : ℕ) (o : Option (KernelState S)) → by_turns call next o (quiet_turns (pids ++ pid ∷ [])) ≡ by_turns call next (by_turns call next o (quiet_turns pids)) (quiet_turns (pid ∷ []))
  one_more [] pid o = refl
  one_more (p ∷ pids) pid o = one_more pids pid (by_turns call next o (quiet_turns (p ∷ [])))

  moves_reach : (start k : KernelState S) → IsReached (after_turn call next) start k → IsReachedFrom call next start k
  moves_reach start k here = record { pids = []; turns = refl }
  moves_reach start k (more s t move before is) =
      let r = moves_reach start s before in
      record {
        pids = r.pids ++ move ∷ [];
        turns = one_more r.pids move (Some start) ∙ ap (λ (o : Option (KernelState S)). by_turns call next o (quiet_turns (move ∷ []))) r.turns ∙ is;
      }

  pub all_reached : (start : KernelState S) (seen : List (KernelState S)) → All (IsReached (after_turn call next) start) seen → All (IsReachedFrom call next start) seen
  all_reached start seen reached i d within = moves_reach start (slice_index_or seen i d) (reached i d within)

  led_too : (seen : List (KernelState S)) (k : KernelState S) → IsLedTo (after_turn call next) SameKeyAnyhow (GivesWay call next) seen k → IsLed (after_turn call next) (λ s k. SameKeyAnyhow k s) (GivesWay call next) seen k
  led_too seen k (listed_to j any) = listed k any
  led_too seen k (privately j u move mine is led) = private_turn k u move mine is (led_too seen u led)

  pub search_enough : (moves : ℕ) (start : KernelState S) (seen : List (KernelState S)) → IsBegun call next start → PROCS ≤ moves → All (IsReached (after_turn call next) start) seen
      → IsReducedUnder (after_turn call next) SameKeyAnyhow (GivesWay call next) moves start seen → AreEnough call next start seen
  search_enough moves start seen begun enough reached r =
      record {
        reached = all_reached start seen reached;
        reduced = record {
          starts = led_too seen start r.starts;
          goes_on = λ i d within. inl (λ pid now is.
              let k = slice_index_or seen i d in
              let way = all_reached start seen reached i d within in
              let less : pid < length k.table = in_table k.table pid (could_turn call next k (record { pid = pid; refused = false }) (now, is)) in
              let slots : length k.table ≡ PROCS = (begun_still call next k (begun_on call next start k way.pids begun way.turns)).sound.slots in
              led_too seen now (r.goes_on i d within pid now (omega (arith, less, slots, enough)) is));
        };
      }

  by_turns_too : (start : KernelState S) (seen : List (KernelState S)) (o : RunOutcome) → All (IsReachedFrom call next start) seen → Any (FinishesWith o) seen → IsOutcomeByTurns call next start o
  by_turns_too start seen o reached any = (any.1, of_all (IsReachedFrom call next start) seen any.0 any.1 reached any.2 any.3, any.4)

  pub enough_explored : (start : KernelState S) (seen : List (KernelState S)) (outcomes : List RunOutcome) → AreEnough call next start seen → AreOutcomesOf seen outcomes → Explored call next start outcomes
  enough_explored start seen outcomes e are =
      record {
        seen = seen;
        enough = e;
        told = are.told;
        only = λ i d within. by_turns_too start seen (slice_index_or outcomes i d) e.reached (are.only i d within);
      }

  pub reached_outcomes : (start : KernelState S) (seen : List (KernelState S)) (outcomes : List RunOutcome) → All (IsReachedFrom call next start) seen → All (λ outcome. Any (FinishesWith outcome) seen) outcomes → All (IsOutcomeOfRun call next start) outcomes
  reached_outcomes start seen outcomes reached only i d within =
      of_run call next start (slice_index_or outcomes i d) (by_turns_too start seen (slice_index_or outcomes i d) reached (only i d within))
