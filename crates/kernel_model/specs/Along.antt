-- What no call takes back.
use Rattle.std.specs.Prelude.{◌≡◌, ℕ, ◌<◌, Some, None}
use Rattle.kernel_model.specs.declared.events.Full.{Full}
use Rattle.kernel_model.specs.Pipes.{pipe_of}
use Rattle.kernel_model.specs.KernelState.{KernelState}

-- no call changes how many events there were; once the kernel is marked it stays so; and no pipe gets the name of an event to come
pub record IsAlong {S : Type 0} (old new : KernelState S) : Type 0 where
  pub events : new.events ≡ old.events
  pub mark : (full : Full) → old.full ≡ Some full → new.full ≡ Some full
  pub names : (id : ℕ) → old.events < id → pipe_of old.pipes id ≡ None → pipe_of new.pipes id ≡ None
