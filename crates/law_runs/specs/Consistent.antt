-- What holds of every kernel between two events, in any run from its start.
use Rattle.std.specs.Prelude.{◌≡◌, ℕ, ◌<◌, None}
use Rattle.kernel_model.specs.KernelState.{KernelState}
use Rattle.kernel_model.specs.Pipes.{pipe_of}
use Rattle.kernel_model.specs.Sound.{IsSound}
use Rattle.law_kernel.specs.Ends.{EndsAgree}
use Rattle.law_kernel.specs.Sleeping.{Rests}
use Rattle.sh_machine.specs.State.{User}

-- counts are right, a process sleeps only where it has to, the ends of pipes and their entries are in step, and no pipe has
-- the name of an event to come
pub record IsConsistent (k : KernelState User) : Type 0 where
  pub sound : IsSound k.table k.entries
  pub rests : Rests k.table k.pipes
  pub ends : EndsAgree k.entries k.pipes
  pub names : (id : ℕ) → k.events < id → pipe_of k.pipes id ≡ None
