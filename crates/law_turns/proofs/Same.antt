-- Kernels that can do what each other can have the same outcomes, and so have the kernels before and after a turn that gives way to nobody's.
use Rattle.std.proofs.Common.{◌≡◌, ℕ, List, [], ◌∷◌, Option, Some, None, sym, ap, subst, ◌∙◌}
use Rattle.std.specs.Prelude.{Contains, slice_index_or}
use Rattle.user_calls.specs.declared.calls.Call.{Call}
use Rattle.user_calls.specs.declared.calls.Reply.{Reply}
use Rattle.kernel_model.specs.declared.events.Event.{Event}
use Rattle.kernel_model.specs.KernelState.{KernelState}
use Rattle.kernel_model.specs.Events.{run, IsFinished}
use Rattle.kernel_model.specs.Quiet.{no_refusals}
use Rattle.kernel_model.proofs.Quiet.{run_quiet}
use Rattle.kernel_model.specs.Outcome.{RunOutcome, SameOutcome, outcome_of}
use Rattle.kernel_model.specs.Turns.{after_turn, after_turns, callers}
use Rattle.kernel_model.specs.Reduced.{turns}
use Rattle.kernel_model.specs.Begun.{IsBegun}
use Rattle.kernel_model.specs.Giving.{GivesWay, GivesWayBegun}
use Rattle.kernel_model.specs.Anyhow.{SameKeyAnyhow}
use Rattle.kernel_model.specs.Linked.{then_slots, CanDo, itself, likened}
use Rattle.kernel_model.specs.Explored.{IsOutcomeOfRun, AreAllOutcomes}
use Rattle.law_turns.proofs.orders.Matching.{quiet_matched}
use Rattle.law_turns.proofs.private_turns.Begun.{begun_on, begun_still}
use Rattle.law_turns.proofs.last_closes.Anyhow.{key_anyhow, outcome_on}
use Rattle.law_turns.proofs.slot_numbers.Same.{same_itself}
use Rattle.law_turns.proofs.giving_way.Linked.{can_back, can_outcome}
use Rattle.law_turns.proofs.giving_way.Following.{following}
use Rattle.law_turns.proofs.giving_way.Safe.{giving_safe}
use Rattle.law_turns.proofs.Moved.{followed, front}
use Rattle.law_turns.proofs.Runs.{folded, of_run}
use Rattle.law_turns.proofs.Listed.{outcome_back, finished_ends}

module _ {S : Type 0} (call : S → Reply → Call) (next : S → Reply → S) where
  abbrev Turned : KernelState S → List ℕ → KernelState S → Type 0
  Turned k ps m = turns (after_turn call next) (Some k) ps ≡ Some m

  -- turns from k come to what does what n does, which has come to what m has
  finished_by : (k last n m : KernelState S) (ps : List ℕ) → Turned k ps last → CanDo call next last n → SameOutcome m n → IsFinished m → IsOutcomeOfRun call next k (outcome_of m)
  finished_by k last n m ps runs like same over =
      let all : SameOutcome m last = outcome_on m n last same (outcome_back last n (can_outcome call next last n like)) in
      of_run call next k (outcome_of m) (last, record { pids = ps; turns = sym (folded call next ps (Some k)) ∙ runs }, (all.finished.0 over, sym all.outcome))

  -- whatever a finished run of l leaves, some run of k does that can do what l can
  run_followed : (k l m : KernelState S) (es : List Event) → IsBegun call next l → CanDo call next k l → run call next (Some l) es (no_refusals es) ≡ Some m → IsFinished m → IsOutcomeOfRun call next k (outcome_of m)
  run_followed k l m es begun does is over =
      let f = quiet_matched call next l m es (begun_still call next l begun) is in
      let g = followed (after_turn call next) (CanDo call next) (GivesWayBegun call next) (following call next) (giving_safe call next) k l f.last (callers es) does (folded call next (callers es) (Some l) ∙ f.turns) in
      finished_by k g.last f.last m g.rest g.runs g.like f.outcome over

  told_of : (k : KernelState S) (outcomes : List RunOutcome) (o : RunOutcome) → AreAllOutcomes call next k outcomes → IsOutcomeOfRun call next k o → Contains outcomes o
  told_of k outcomes o all by = subst (Contains outcomes) by.finishes.1 (all.quiet by.schedule by.last by.runs by.finishes.0)

  -- the outcomes of k are those of l, where each run of l is matched by one of k, and the other way round
  all_by : (k l : KernelState S) (outcomes : List RunOutcome)
      → ((es : List Event) (m : KernelState S) → run call next (Some l) es (no_refusals es) ≡ Some m → IsFinished m → IsOutcomeOfRun call next k (outcome_of m))
      → ((es : List Event) (m : KernelState S) → run call next (Some k) es (no_refusals es) ≡ Some m → IsFinished m → IsOutcomeOfRun call next l (outcome_of m))
      → AreAllOutcomes call next k outcomes → AreAllOutcomes call next l outcomes
  all_by k l outcomes there back all =
      record {
        quiet = λ es m is over. told_of k outcomes (outcome_of m) all (there es m is over);
        roomy = λ es ns m is roomy over. told_of k outcomes (outcome_of m) all (there es m (run_quiet call next l m es ns is roomy) over);
        only = λ i d within. let o = all.only i d within in subst (IsOutcomeOfRun call next l) o.finishes.1 (back o.schedule o.last o.runs o.finishes.0);
      }

  can_by_key : (k l : KernelState S) → IsBegun call next k → IsBegun call next l → SameKeyAnyhow k l → CanDo call next k l
  can_by_key k l b d same = likened k l l b d (then_slots l (begun_still call next l d) (key_anyhow k l same) (same_itself l)) (itself l)

  pub same_outcomes : (k l : KernelState S) (outcomes : List RunOutcome) → IsBegun call next k → IsBegun call next l → SameKeyAnyhow k l → AreAllOutcomes call next k outcomes → AreAllOutcomes call next l outcomes
  same_outcomes k l outcomes b d same all =
      let does = can_by_key k l b d same in
      all_by k l outcomes (λ es m is over. run_followed k l m es d does is over) (λ es m is over. run_followed l k m es b (can_back call next k l does) is over) all

  -- a run of k has the outcome of one after the turn, which can be taken first
  run_fronted : (k now m : KernelState S) (pid : ℕ) (es : List Event) → IsBegun call next k → GivesWay call next k pid → after_turn call next k pid ≡ Some now → run call next (Some k) es (no_refusals es) ≡ Some m → IsFinished m → IsOutcomeOfRun call next now (outcome_of m)
  run_fronted k now m pid es begun gives first is over =
      let f = quiet_matched call next k m es (begun_still call next k begun) is in
      let ends = finished_ends call next f.last (f.outcome.finished.0 over) in
      let g = front (after_turn call next) (CanDo call next) (GivesWayBegun call next) (following call next) (giving_safe call next) k now f.last pid (callers es) (record { gives = gives; begun = begun }) first (folded call next (callers es) (Some k) ∙ f.turns) ends in
      finished_by now g.last f.last m g.rest g.runs g.like f.outcome over

  -- a run after the turn is one of k, with the turn before it
  run_behind : (k now m : KernelState S) (pid : ℕ) (es : List Event) → IsBegun call next k → after_turn call next k pid ≡ Some now → run call next (Some now) es (no_refusals es) ≡ Some m → IsFinished m → IsOutcomeOfRun call next k (outcome_of m)
  run_behind k now m pid es begun first is over =
      let f = quiet_matched call next now m es (begun_still call next now (begun_on call next k now (pid ∷ []) begun first)) is in
      let rest : Turned now (callers es) f.last = folded call next (callers es) (Some now) ∙ f.turns in
      let all : Turned k (pid ∷ callers es) f.last = ap (λ (o : Option (KernelState S)). turns (after_turn call next) o (callers es)) first ∙ rest in
      finished_by k f.last f.last m (pid ∷ callers es) all (itself f.last) f.outcome over

  pub kept_outcomes : (k now : KernelState S) (pid : ℕ) (outcomes : List RunOutcome) → IsBegun call next k → GivesWay call next k pid → after_turn call next k pid ≡ Some now → AreAllOutcomes call next now outcomes → AreAllOutcomes call next k outcomes
  kept_outcomes k now pid outcomes begun gives first all =
      all_by now k outcomes (λ es m is over. run_fronted k now m pid es begun gives first is over) (λ es m is over. run_behind k now m pid es begun first is over) all
