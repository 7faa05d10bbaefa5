-- What is known of kernels after turns.
use Rattle.std.specs.Prelude.{◌≡◌, ℕ, List, Some}
use Rattle.user_calls.specs.declared.calls.Call.{Call}
use Rattle.user_calls.specs.declared.calls.Reply.{Reply}
use Rattle.kernel_model.specs.KernelState.{KernelState}
use Rattle.kernel_model.specs.Anyhow.{SameKeyAnyhow}
use Rattle.kernel_model.specs.Giving.{GivesWay}
use Rattle.kernel_model.specs.Turns.{after_turns}

module _ {S : Type 0} (call : S → Reply → Call) (next : S → Reply → S) where
  -- turns of these processes, and of those, lead from the start to kernels with one key, but for who sleeps and for numbers of entries
  pub record AreAlikeAfter (start : KernelState S) (pids others : List ℕ) : Type 0 where
    pub first : KernelState S
    pub turns : after_turns call next start pids ≡ Some first
    pub second : KernelState S
    pub other_turns : after_turns call next start others ≡ Some second
    pub alike : SameKeyAnyhow first second

  -- turns of these processes lead to a kernel where the turn of the process pid gives way to nobody's
  pub record GivesWayAfter (start : KernelState S) (pids : List ℕ) (pid : ℕ) : Type 0 where
    pub now : KernelState S
    pub turns : after_turns call next start pids ≡ Some now
    pub gives : GivesWay call next now pid
