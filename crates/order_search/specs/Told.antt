-- What is reported of an exploration.
use Rattle.std.specs.Prelude.{◌≡◌, ◌≢◌, ◌⊎◌, ℕ, List, [], ◌∷◌, ◌++◌, Some, All, AllPairs, Contains, map}
use Rattle.user_calls.specs.declared.calls.Call.{Call}
use Rattle.user_calls.specs.declared.calls.Reply.{Reply}
use Rattle.kernel_model.specs.KernelState.{KernelState}
use Rattle.kernel_model.specs.Turns.{after_turns}
use Rattle.kernel_model.specs.Outcome.{RunOutcome}
use Rattle.kernel_model.specs.Explored.{FinishesWith, AreOutcomesOf, IsFinishedOrReady}
use Rattle.order_search.specs.declared.outcomes.Outcome.{Outcome}

-- what is reported, without its schedule
abbrev pub outcome_by : Outcome → RunOutcome
outcome_by o = record { out = o.out.items; diag = o.diag.items; files = o.files; full = o.full }

-- turns of these processes, at which memory isn't refused, lead from the start to a finished kernel with this outcome
pub record IsReplayed {S : Type 0} (call : S → Reply → Call) (next : S → Reply → S) (start : KernelState S) (o : Outcome) : Type 0 where
  pub last : KernelState S
  pub turns : after_turns call next start o.pids.items ≡ Some last
  pub finishes : FinishesWith (outcome_by o) last

-- turns of these processes, at which memory isn't refused, lead from the start to where nobody is Runnable, and the run isn't finished
pub record LeadsToSleep {S : Type 0} (call : S → Reply → Call) (next : S → Reply → S) (start : KernelState S) (pids : List ℕ) : Type 0 where
  pub last : KernelState S
  pub turns : after_turns call next start pids ≡ Some last
  pub asleep : IsFinishedOrReady last → ⊥

-- no two outcomes are equal
abbrev pub AreApart : List Outcome → Type 0
AreApart outcomes = AllPairs (λ a b. outcome_by a ≢ outcome_by b) outcomes

module _ {S : Type 0} (call : S → Reply → Call) (next : S → Reply → S) where
  -- the outcomes after that of the kernel k was added, which none of them was
  pub record Adds (start k : KernelState S) (before after : List Outcome) : Type 0 where
    pub outcome : Outcome
    pub adds : after ≡ before ++ outcome ∷ []
    pub replayed : IsReplayed call next start outcome
    pub finishes : FinishesWith (outcome_by outcome) k
    pub new : Contains (map outcome_by before) (outcome_by outcome) → ⊥

  -- nothing was added, or the outcome of k
  abbrev pub IsAddedTo : KernelState S → KernelState S → List Outcome → List Outcome → Type 0
  IsAddedTo start k before after = (after ≡ before) ⊎ Adds start k before after

  -- what an exploration from the start reports, where it kept these kernels
  pub record Tells (start : KernelState S) (seen : List (KernelState S)) (outcomes : List Outcome) : Type 0 where
    pub of : AreOutcomesOf seen (map outcome_by outcomes)
    pub replayed : All (IsReplayed call next start) outcomes
    pub apart : AreApart outcomes
