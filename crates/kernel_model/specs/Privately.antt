-- Turns that nobody else sees: an exec, a dup, and a close of a descriptor whose entry another one of the process holds too.
use Rattle.std.specs.Prelude.{◌≡◌, ◌≢◌, ℕ, ◌≤◌, Bool, Some}
use Rattle.user_calls.specs.declared.calls.Call.{Call}
use Rattle.user_calls.specs.declared.calls.Call.TheVariants.{Exec, Close, Dup}
use Rattle.user_calls.specs.declared.calls.Reply.{Reply}
use Rattle.fd_table.specs.Descriptors.{Descriptors, entry_of, lowest_free, holders_in}
use Rattle.proc_table.specs.declared.states.Status.TheVariants.{Runnable}
use Rattle.proc_table.specs.Slots.{Process, at}
use Rattle.kernel_model.specs.KernelState.{KernelState}

-- such a call of a process with these descriptors
pub data IsPrivateCall (fds : Descriptors) (call : Call) : Type 0 where
  executes : (found : Bool) → call ≡ Exec found → IsPrivateCall fds call
  dups : (fd entry place : ℕ) → call ≡ Dup fd → entry_of fds fd ≡ Some entry → lowest_free fds ≡ Some place → IsPrivateCall fds call
  closes : (fd entry : ℕ) → call ≡ Close fd → entry_of fds fd ≡ Some entry → 2 ≤ holders_in fds entry → IsPrivateCall fds call

-- the process p, not init, is Runnable and makes such a call next
pub record Privately {S : Type 0} (call : S → Reply → Call) (k : KernelState S) (p : ℕ) : Type 0 where
  pub child : p ≢ 0
  pub process : Process S
  pub there : at k.table p ≡ Some process
  pub ready : process.status ≡ Runnable
  pub calls : IsPrivateCall process.fds (call process.machine process.reply)
