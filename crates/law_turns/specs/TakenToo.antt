-- When another kernel can take the same turns, though under other numbers.
use Rattle.std.specs.Prelude.{◌≡◌, ℕ, List, Some, length}
use Rattle.user_calls.specs.declared.calls.Call.{Call}
use Rattle.user_calls.specs.declared.calls.Reply.{Reply}
use Rattle.kernel_model.specs.KernelState.{KernelState}
use Rattle.kernel_model.specs.Turns.{after_turn, after_turns}
use Rattle.kernel_model.specs.Slots.{SameButSlots}

module _ {S : Type 0} (call : S → Reply → Call) (next : S → Reply → S) where
  -- the process in that slot can take a turn in l, which leads to what `now` is but for slots
  pub record IsTurnTakenToo (l : KernelState S) (pid : ℕ) (now : KernelState S) : Type 0 where
    pub after : KernelState S
    pub turn : after_turn call next l pid ≡ Some after
    pub same : SameButSlots now after

  -- as many turns lead from l to what m is but for slots
  pub record AreTurnsTakenToo (l : KernelState S) (many : ℕ) (m : KernelState S) : Type 0 where
    pub pids : List ℕ
    pub long : length pids ≡ many
    pub last : KernelState S
    pub turns : after_turns call next l pids ≡ Some last
    pub same : SameButSlots m last
