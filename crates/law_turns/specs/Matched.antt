-- When turns come to what a run came to.
use Rattle.std.specs.Prelude.{◌≡◌, List, Some}
use Rattle.user_calls.specs.declared.calls.Call.{Call}
use Rattle.user_calls.specs.declared.calls.Reply.{Reply}
use Rattle.kernel_model.specs.KernelState.{KernelState}
use Rattle.kernel_model.specs.Alike.{Alike}
use Rattle.kernel_model.specs.Outcome.{SameOutcome}
use Rattle.kernel_model.specs.Turns.{Turn, by_turns}

module _ {S : Type 0} (call : S → Reply → Call) (next : S → Reply → S) where
  -- these turns can be taken from the start, and lead to a kernel that m is alike to and has the same outcome as
  pub record IsMatchedBy (start : KernelState S) (ts : List Turn) (m : KernelState S) : Type 0 where
    pub last : KernelState S
    pub turns : by_turns call next (Some start) ts ≡ Some last
    pub alike : Alike m last
    pub outcome : SameOutcome m last
