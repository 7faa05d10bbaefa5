-- What was found, with its outcomes in another order.
use Rattle.std.proofs.Common.{◌<◌, ◌∙◌, ℕ, List, sym, subst}
use Rattle.std.specs.Prelude.{◌≢◌, IfSome, map}
use Rattle.std.specs.List.Sorted.{IsPermutation}
use Rattle.std.proofs.lemmas.List.Sorted.{All-permutation, Contains-permutation, IsPermutation-map}
use Rattle.sh_machine.specs.State.{User}
use Rattle.sh_machine.specs.Turn.{call_of, next_of}
use Rattle.kernel_model.specs.KernelState.{KernelState}
use Rattle.kernel_model.specs.Outcome.{RunOutcome}
use Rattle.kernel_model.specs.Explored.{AreAllOutcomes, IsOutcomeOfRun}
use Rattle.order_search.specs.Told.{outcome_by, IsReplayed, LeadsToSleep}
use Rattle.order_search.specs.declared.outcomes.Outcome.{Outcome}
use Rattle.order_search.specs.declared.ordering.Exploration.{Exploration}
use Rattle.script_outcomes.specs.Found.{AreTried, IsReordered}
use Rattle.script_outcomes.proofs.Apart.{AllPairs-permutation}

all_in_order : (start : KernelState User) (these those : List RunOutcome) → IsPermutation these those → AreAllOutcomes call_of next_of start these → AreAllOutcomes call_of next_of start those
all_in_order start these those same all =
    record {
      quiet = λ schedule last runs finished. Contains-permutation these those _ same (all.quiet schedule last runs finished);
      roomy = λ schedule notes last runs none finished. Contains-permutation these those _ same (all.roomy schedule notes last runs none finished);
      only = All-permutation (IsOutcomeOfRun call_of next_of start) these those same all.only;
    }

pub reordered : (start : KernelState User) (states : ℕ) (found sorted : Exploration) → AreTried start states found → IsReordered found sorted → AreTried start states sorted
reordered start states found sorted t r =
    record {
      sound = All-permutation (IsReplayed call_of next_of start) found.outcomes.items sorted.outcomes.items r.outcomes t.sound;
      apart = AllPairs-permutation (λ (a : Outcome) (b : Outcome). outcome_by a ≢ outcome_by b) (λ a b other same. other (sym same)) found.outcomes.items sorted.outcomes.items r.outcomes t.apart;
      complete = λ is. all_in_order start (map outcome_by found.outcomes.items) (map outcome_by sorted.outcomes.items) (IsPermutation-map outcome_by found.outcomes.items sorted.outcomes.items r.outcomes) (t.complete (sym r.whole ∙ is));
      awake = λ is none. t.awake (sym r.whole ∙ is) (sym r.stuck ∙ none);
      asleep = subst (λ stuck. IfSome stuck (λ pids. LeadsToSleep call_of next_of start pids.items)) (sym r.stuck) t.asleep;
      part = λ is on. subst (λ n. states < n) (sym r.states) (t.part (sym r.whole ∙ is) (sym r.stopped ∙ on));
    }
