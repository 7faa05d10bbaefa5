-- What is kept of a kernel until the next event has happened. No public clause cites this module.
use Rattle.std.specs.Prelude.{◌≡◌, ℕ, ◌<◌, List, length, slice_index_or}
use Rattle.proc_table.specs.declared.pid.TheConstants.{PROCS}
use Rattle.proc_table.specs.declared.states.State.{State}
use Rattle.proc_table.specs.declared.states.State.TheVariants.{Free}
use Rattle.proc_table.specs.Slots.{Table, at, state_of}
use Rattle.kernel_model.specs.KernelState.{KernelState}
use Rattle.run_trace.specs.declared.before.Before.{Before}

-- the states are those of the slots, in the order of their numbers
abbrev pub AreStates : {S : Type 0} → Table S → List State → Type 0
AreStates t states = (pid : ℕ) → pid < PROCS → slice_index_or states pid Free ≡ state_of (at t pid)

-- this is what was kept of the kernel
pub record Recalls {S : Type 0} (old : KernelState S) (before : Before) : Type 0 where
  pub states : AreStates old.table before.states
  pub out : before.out ≡ length old.out
  pub diag : before.diag ≡ length old.diag
  pub full : before.full ≡ old.full
