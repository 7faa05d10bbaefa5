-- What contracts see of a tracer.
use Rattle.user_calls.specs.declared.calls.Call.{Call}
use Rattle.kernel_model.specs.History.{History}
use Rattle.kernel_model.specs.KernelState.{KernelState}

-- the kernel's state before the last event, the call that this event carried out, if it was a trap, and the kernel after it
pub record Traced (S : Type 0) : Type 0 where
  pub before : KernelState S
  pub call : Call
  pub kernel : History S
