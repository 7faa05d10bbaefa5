-- A run that was given up, and in which something was full.
use Rattle.std.specs.Prelude.{◌≡◌, ◌≢◌, ℕ, Some, None}
use Rattle.kernel_model.specs.declared.events.Full.TheVariants.{Memory}
use Rattle.kernel_model.specs.KernelState.{KernelState}
use Rattle.sh_machine.specs.State.{User}
use Rattle.run_model.specs.ScriptRun.{IsSpentFrom}

-- some run from this kernel spends its turns, and something was full in it
pub record IsFilledFrom (start : KernelState User) : Type 0 where
  pub turns : ℕ
  pub spends : IsSpentFrom start turns
  pub filled : spends.last.full ≢ None

-- some run from this kernel spends its turns, and memory was refused in it before anything else was full
pub record IsRefusedFrom (start : KernelState User) : Type 0 where
  pub turns : ℕ
  pub spends : IsSpentFrom start turns
  pub refused : spends.last.full ≡ Some Memory
