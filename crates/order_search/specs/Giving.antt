-- Whose turn gives way to nobody's. No public clause cites this module.
use Rattle.std.specs.Prelude.{◌≡◌, ◌≢◌, ℕ, true, Some}
use Rattle.user_calls.specs.declared.calls.Call.{Call}
use Rattle.user_calls.specs.declared.calls.Reply.{Reply}
use Rattle.fd_table.specs.Entries.{OpenFile}
use Rattle.fd_table.specs.Descriptors.{Descriptors, entry_of}
use Rattle.proc_table.specs.Slots.{Table, at, is_zombie_child_of}
use Rattle.kernel_model.specs.KernelState.{KernelState, file_at}
use Rattle.kernel_model.specs.Closes.{IsClosedAtOnce, ClosesNext}
use Rattle.kernel_model.specs.Giving.{ForksNext, ReapsNext, ExitsNext}
use Rattle.order_search.specs.declared.origin.Ahead.{Ahead}
use Rattle.order_search.specs.Shown.{IsPrivateSlot}

-- some zombie's parent is the process pid
abbrev pub HasZombieChild : {S : Type 0} → Table S → ℕ → Type 0
HasZombieChild t pid = (zombie : ℕ) × (is_zombie_child_of pid (at t zombie) ≡ true)

-- the process pid can close at once what these descriptors hold
abbrev pub AreClosedAtOnce : {S : Type 0} → KernelState S → ℕ → Descriptors → Type 0
AreClosedAtOnce k pid fds = (fd : ℕ) (file : OpenFile) → file_at k.entries (entry_of fds fd) ≡ Some file → IsClosedAtOnce k pid file.object

-- the next call of the process pid is private, or, where so much is free ahead, one that can be made at once
pub data IsGiving {S : Type 0} (call : S → Reply → Call) (next : S → Reply → S) (ahead : Ahead) (k : KernelState S) (pid : ℕ) : Type 0 where
  privately : pid ≢ 0 → IsPrivateSlot call (at k.table pid) → IsGiving call next ahead k pid
  closes : pid ≢ 0 → ahead.entries ≡ true → ClosesNext call next (IsClosedAtOnce k pid) k pid → IsGiving call next ahead k pid
  forks : pid ≢ 0 → ahead.slots ≡ true → ForksNext call k pid → IsGiving call next ahead k pid
  reaps : ahead.slots ≡ true → ReapsNext call next k pid → IsGiving call next ahead k pid
  exits : pid ≢ 0 → ahead.entries ≡ true → ExitsNext call next k pid → IsGiving call next ahead k pid
