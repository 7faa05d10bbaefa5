-- What lasts over any number of events.
use Rattle.std.specs.Prelude.{◌≡◌, ℕ, ◌+◌, ◌<◌, Some, None}
use Rattle.kernel_model.specs.declared.events.Full.{Full}
use Rattle.kernel_model.specs.Pipes.{pipe_of}
use Rattle.kernel_model.specs.KernelState.{KernelState}

-- n events later: they were counted, a kernel that was marked is marked so, and no pipe has the name of an event to come
pub record IsLater {S : Type 0} (old : KernelState S) (n : ℕ) (new : KernelState S) : Type 0 where
  pub events : new.events ≡ old.events + n
  pub mark : (full : Full) → old.full ≡ Some full → new.full ≡ Some full
  pub names : (id : ℕ) → new.events < id → pipe_of old.pipes id ≡ None → pipe_of new.pipes id ≡ None
