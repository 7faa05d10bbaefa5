-- What the outcomes that an exploration found say of the diagnostics of all runs.
use Rattle.std.proofs.Common.{◌≡◌, true, None, All, map, refl}
use Rattle.std.specs.Prelude.{◌≢◌, Contains}
use Rattle.std.proofs.lemmas.List.Elements.{All-contains, All-map}
use Rattle.sh_machine.specs.State.{User}
use Rattle.sh_machine.specs.Turn.{call_of, next_of}
use Rattle.kernel_model.specs.KernelState.{KernelState}
use Rattle.kernel_model.specs.Outcome.{RunOutcome, outcome_of}
use Rattle.order_search.specs.Told.{outcome_by, IsReplayed, LeadsToSleep}
use Rattle.order_search.proofs.Telling.{some_of}
use Rattle.order_search.specs.declared.ordering.Exploration.{Exploration}
use Rattle.order_search.specs.declared.outcomes.Outcome.{Outcome}
use Rattle.every_order.specs.Known.{AreFoundFrom, AreDifferent, AreFull, AreSame, CanSleep, HasRun}

module _ (start : KernelState User) (found : Exploration) (from : AreFoundFrom start found) where
  -- an outcome that was found in which nothing was full is that of a run
  has_run : (one : Outcome) → Contains found.outcomes.items one → one.full ≡ None → HasRun start one
  has_run one among roomy = record { replayed = All-contains (IsReplayed call_of next_of start) found.outcomes.items one from.sound among; roomy = roomy }

  pub different : (one other : Outcome) → Contains found.outcomes.items one → one.full ≡ None → Contains found.outcomes.items other → other.full ≡ None → other.diag.items ≢ one.diag.items → AreDifferent start
  different one other among roomy within empty differ = record { one = one; other = other; has_one = has_run one among roomy; has_other = has_run other within empty; differ = differ }

  pub sleeps : (found.stuck ≡ None → ⊥) → CanSleep start
  sleeps some =
      let there = some_of (λ pids. LeadsToSleep call_of next_of start pids.items) found.stuck some from.asleep in
      (there.0.items, there.1)

  module _ (whole : found.whole ≡ true) (none : found.stuck ≡ None) where
    pub same : (one : Outcome) → Contains found.outcomes.items one → one.full ≡ None → All (λ outcome. outcome.full ≡ None → outcome.diag.items ≡ one.diag.items) found.outcomes.items → AreSame start one.diag.items
    same one among roomy all =
        let Writes : RunOutcome → Type 0 = λ outcome. outcome.full ≡ None → outcome.diag ≡ one.diag.items in
        record {
          one = one;
          has = has_run one among roomy;
          writes = refl;
          runs = λ schedule notes last ran quiet finished. All-contains Writes (map outcome_by found.outcomes.items) (outcome_of last) (All-map Writes outcome_by found.outcomes.items all) ((from.complete whole).roomy schedule notes last ran quiet finished) quiet;
          awake = from.awake whole none;
        }

    pub full : All (λ outcome. outcome.full ≢ None) found.outcomes.items → AreFull start
    full all =
        let Fills : RunOutcome → Type 0 = λ outcome. outcome.full ≢ None in
        record {
          runs = λ schedule notes last ran finished quiet. All-contains Fills (map outcome_by found.outcomes.items) (outcome_of last) (All-map Fills outcome_by found.outcomes.items all) ((from.complete whole).roomy schedule notes last ran quiet finished) quiet;
          awake = from.awake whole none;
        }
