-- Kernels of runs that can do what others can, whoever sleeps and whatever numbers entries and slots have.
use Rattle.std.specs.Prelude.{ℕ}
use Rattle.user_calls.specs.declared.calls.Call.{Call}
use Rattle.user_calls.specs.declared.calls.Reply.{Reply}
use Rattle.kernel_model.specs.KernelState.{KernelState}
use Rattle.kernel_model.specs.Alike.{IsStill}
use Rattle.kernel_model.specs.Begun.{IsBegun}
use Rattle.kernel_model.specs.Anyhow.{AlikeAnyhow}
use Rattle.kernel_model.specs.Slots.{SameButSlots}

-- k and l differ only in who sleeps, in who runs where, in the numbers of their open-file entries and of their slots, in what is left of
-- zombies, in what their pipes are called, and in how many events there were
pub data AlikeButSlots {S : Type 0} (k l : KernelState S) : Type 0 where
  then_slots : (j : KernelState S) → IsStill j → AlikeAnyhow k j → SameButSlots j l → AlikeButSlots k l
  slots_then : (j : KernelState S) → IsStill j → SameButSlots k j → AlikeAnyhow j l → AlikeButSlots k l

module _ {S : Type 0} (call : S → Reply → Call) (next : S → Reply → S) where
  -- kernels of runs, each so alike to the next one: the first can do what the last one can, though maybe by processes in other slots
  pub data CanDo : KernelState S → KernelState S → Type 0 where
    itself : (k : KernelState S) → CanDo k k
    likened : (k l m : KernelState S) → IsBegun call next k → IsBegun call next l → AlikeButSlots k l → CanDo l m → CanDo k m
