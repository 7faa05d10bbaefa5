-- Whether a finished run from a kernel had room for all that its processes asked for.
use Rattle.std.specs.Prelude.{◌≡◌, Bool, List, Some, None}
use Rattle.sh_machine.specs.State.{User}
use Rattle.sh_machine.specs.Turn.{call_of, next_of}
use Rattle.kernel_model.specs.declared.events.Event.{Event}
use Rattle.kernel_model.specs.declared.events.Full.{Full}
use Rattle.kernel_model.specs.KernelState.{KernelState}
use Rattle.kernel_model.specs.Events.{run, IsFinished}

-- a run from this kernel by this schedule ended, with a note beside each event whether memory was refused
pub record EndsBy (start : KernelState User) (schedule : List Event) : Type 0 where
  pub notes : List Bool
  pub last : KernelState User
  pub runs : run call_of next_of (Some start) schedule notes ≡ Some last
  pub finished : IsFinished last

-- one ended in which nothing was full, and so no memory refused
pub record HasRoom (start : KernelState User) : Type 0 where
  pub schedule : List Event
  pub ends : EndsBy start schedule
  pub roomy : ends.last.full ≡ None

-- one ended in which this was full first
pub record IsFilled (start : KernelState User) (full : Full) : Type 0 where
  pub schedule : List Event
  pub ends : EndsBy start schedule
  pub filled : ends.last.full ≡ Some full
