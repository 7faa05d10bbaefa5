-- When another kernel comes to the same by the same turns.
use Rattle.std.specs.Prelude.{◌≡◌, List, Some}
use Rattle.user_calls.specs.declared.calls.Call.{Call}
use Rattle.user_calls.specs.declared.calls.Reply.{Reply}
use Rattle.kernel_model.specs.KernelState.{KernelState}
use Rattle.kernel_model.specs.Alike.{IsStill}
use Rattle.kernel_model.specs.Outcome.{SameOutcome}
use Rattle.kernel_model.specs.Turns.{Turn, by_turns}
use Rattle.kernel_model.specs.Numbers.{SameButNumbers}

module _ {S : Type 0} (call : S → Reply → Call) (next : S → Reply → S) where
  -- these turns can be taken from l too, and lead to a kernel that is m but for numbers, is still, and has the same outcome
  pub record IsTakenToo (l : KernelState S) (ts : List Turn) (m : KernelState S) : Type 0 where
    pub last : KernelState S
    pub turns : by_turns call next (Some l) ts ≡ Some last
    pub same : SameButNumbers m last
    pub still : IsStill last
    pub outcome : SameOutcome m last
