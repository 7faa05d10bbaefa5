-- An exit of a process, and what the other processes hold (`kexit` of `kernel/proc.c`).
use Rattle.std.specs.Prelude.{◌≡◌, ◌≢◌, ℕ, Bool, true, Some, IfSome}
use Rattle.user_calls.specs.declared.calls.Call.{Call}
use Rattle.user_calls.specs.declared.calls.Call.TheVariants.{Exit}
use Rattle.user_calls.specs.declared.calls.Reply.{Reply}
use Rattle.fd_table.specs.declared.names.Object.{Object}
use Rattle.fd_table.specs.Entries.{entry_at}
use Rattle.fd_table.specs.Descriptors.{entry_of}
use Rattle.proc_table.specs.Slots.{at}
use Rattle.kernel_model.specs.declared.events.Event.TheVariants.{Trap}
use Rattle.kernel_model.specs.KernelState.{KernelState, fds_at}
use Rattle.kernel_model.specs.Events.{happens}
use Rattle.law_kernel.specs.Ends.{has_object}

-- the kernel `now` is the one after an exit of pid, which isn't init
pub record IsExit {S : Type 0} (call : S → Reply → Call) (next : S → Reply → S) (k : KernelState S) (pid : ℕ) (now : KernelState S) : Type 0 where
  pub hart : ℕ
  pub refused : Bool
  pub happened : happens call next k (Trap hart pid) refused ≡ Some now
  pub asked : IfSome (at k.table pid) (λ p. call p.machine p.reply ≡ Exit)
  pub child : pid ≢ 0

-- a descriptor of another process than pid holds the entry e
pub record HasOtherHolder {S : Type 0} (k : KernelState S) (pid e : ℕ) : Type 0 where
  pub other : ℕ
  pub fd : ℕ
  pub apart : other ≢ pid
  pub holds : entry_of (fds_at k other) fd ≡ Some e

-- a descriptor of another process than pid holds an entry that has such an object open
pub record IsHeldByOther {S : Type 0} (k : KernelState S) (pid : ℕ) (test : Object → Bool) : Type 0 where
  pub entry : ℕ
  pub holder : HasOtherHolder k pid entry
  pub has : has_object test (entry_at k.entries entry) ≡ true
