-- What an exploration shows.
use Rattle.std.specs.Prelude.{◌≡◌, ℕ, List, true, Some, None, IfSome, All, length}
use Rattle.user_calls.specs.declared.calls.Call.{Call}
use Rattle.user_calls.specs.declared.calls.Reply.{Reply}
use Rattle.proc_table.specs.declared.pid.TheConstants.{PROCS}
use Rattle.kernel_model.specs.KernelState.{KernelState}
use Rattle.closed_search.specs.Searched.{IsReached, IsReducedUnder}
use Rattle.kernel_model.specs.Anyhow.{SameKeyAnyhow}
use Rattle.kernel_model.specs.Giving.{GivesWay}
use Rattle.kernel_model.specs.Turns.{after_turn, after_turns}
use Rattle.kernel_model.specs.Explored.{IsFinishedOrBusy}
use Rattle.order_search.specs.declared.ordering.Exploration.{Exploration}
use Rattle.order_search.specs.Told.{Tells, LeadsToSleep}

module _ {S : Type 0} (call : S → Reply → Call) (next : S → Reply → S) where
  -- kernels that turns lead to from the start were seen, and their outcomes are reported, each with turns that lead to it from the boot;
  -- where all orders were tried, they have the keys, but for who sleeps and for numbers of entries, of all their turns, or of where
  -- turns that give way to nobody's lead on from there; and where nobody is said to be stuck, each is finished or a turn leads to other slots, and else
  -- these turns lead to where nobody is Runnable
  pub record Explores (boot start : KernelState S) (e : Exploration) : Type 0 where
    pub seen : List (KernelState S)
    pub reached : All (IsReached (after_turn call next) start) seen
    pub reduced : e.whole ≡ true → IsReducedUnder (after_turn call next) SameKeyAnyhow (GivesWay call next) PROCS start seen
    pub tells : Tells call next boot seen e.outcomes.items
    pub busy : e.stuck ≡ None → All (IsFinishedOrBusy call next) seen
    pub asleep : IfSome e.stuck (λ pids. LeadsToSleep call next boot pids.items)
    pub states : e.states ≡ length seen

  -- the same, where turns of these processes led from the boot to the start
  pub record ExploresAfter (boot : KernelState S) (pids : List ℕ) (e : Exploration) : Type 0 where
    pub start : KernelState S
    pub turns : after_turns call next boot pids ≡ Some start
    pub explores : Explores boot start e
