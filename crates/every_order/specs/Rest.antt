-- What is reported of all ways in which a run can go on.
use Rattle.std.specs.Prelude.{◌≡◌, ℕ, List, true, Some, None, IfSome, All, map}
use Rattle.user_calls.specs.declared.calls.Call.{Call}
use Rattle.user_calls.specs.declared.calls.Reply.{Reply}
use Rattle.kernel_model.specs.KernelState.{KernelState}
use Rattle.kernel_model.specs.Turns.{after_turns}
use Rattle.kernel_model.specs.Explored.{AreAllOutcomes, IsNeverStuck}
use Rattle.order_search.specs.declared.ordering.Exploration.{Exploration}
use Rattle.order_search.specs.Told.{outcome_by, IsReplayed, AreApart, LeadsToSleep}

module _ {S : Type 0} (call : S → Reply → Call) (next : S → Reply → S) where
  -- each outcome is that of a run of its own schedule from the boot, and no two are equal; where every order was tried, they are
  -- those of all finished runs that go on from this kernel, and where nobody was stuck no such run comes to where all sleep; where
  -- somebody was, these turns lead there from the boot
  pub record TellsFrom (boot now : KernelState S) (found : Exploration) : Type 0 where
    pub sound : All (IsReplayed call next boot) found.outcomes.items
    pub apart : AreApart found.outcomes.items
    pub complete : found.whole ≡ true → AreAllOutcomes call next now (map outcome_by found.outcomes.items)
    pub awake : found.whole ≡ true → found.stuck ≡ None → IsNeverStuck call next now
    pub asleep : IfSome found.stuck (λ pids. LeadsToSleep call next boot pids.items)

  -- the same of the kernel to which turns of these processes lead
  pub record TellsAfter (boot : KernelState S) (pids : List ℕ) (found : Exploration) : Type 0 where
    pub now : KernelState S
    pub turns : after_turns call next boot pids ≡ Some now
    pub tells : TellsFrom boot now found
