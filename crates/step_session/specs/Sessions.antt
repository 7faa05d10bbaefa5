-- What a session shows, and what is done in it.
use Rattle.std.specs.Prelude.{◌≡◌, ℕ, ◌-◌, ◌*◌, Bool, List, Some, None, count_by, length, take, true}
use Rattle.mem_files.specs.Name.{Name, Bytes}
use Rattle.user_calls.specs.declared.calls.Call.{Call}
use Rattle.user_calls.specs.declared.calls.Reply.{Reply}
use Rattle.proc_table.specs.Slots.{Slot, is_running, is_running_on_status}
use Rattle.kernel_model.specs.declared.events.Event.{Event}
use Rattle.kernel_model.specs.declared.events.Event.TheVariants.{Dispatch, Trap}
use Rattle.kernel_model.specs.KernelState.{KernelState}
use Rattle.kernel_model.specs.Boot.{boot_kernel}
use Rattle.kernel_model.specs.Events.{run}
use Rattle.kernel_model.specs.History.{History, GoesOn}
use Rattle.kernel_model.specs.Turns.{callers, quiet_turns, turn_events}

-- the kernel at its start
unfoldable pub first_kernel : {S : Type 0} → S → S → Bytes → List (Name × Bytes) → KernelState S
first_kernel init shell input files = boot_kernel init shell input files

-- the schedule is one of turns of hart 0: each dispatch is followed by the trap of the same process
abbrev pub AreTurns : List Event → Type 0
AreTurns events = events ≡ turn_events (quiet_turns (callers events))

-- a session that began with this kernel: turns led to where it is, and nobody runs
pub record IsSession {S : Type 0} (start : KernelState S) (h : History S) : Type 0 where
  pub begun : h.boot ≡ start
  pub turns : AreTurns h.schedule
  pub idle : count_by is_running h.now.table ≡ 0

-- a process that was just given to hart 0, with its machine and its reply
abbrev pub IsBegun : {S : Type 0} → Slot S → S → Reply → Type 0
IsBegun None machine reply = ⊥
IsBegun (Some p) machine reply = (is_running_on_status 0 p.status ≡ true) × (p.machine ≡ machine) × (p.reply ≡ reply)

-- a turn of the process pid: it is given to hart 0, and at once makes its call
pub record Takes {S : Type 0} (call : S → Reply → Call) (next : S → Reply → S) (old : History S) (pid : ℕ) (new : History S) : Type 0 where
  pub given : History S
  pub begins : GoesOn call next old (Dispatch 0 pid) given
  pub calls : GoesOn call next given (Trap 0 pid) new

-- the last turns, so many, were taken back: the schedule is the old one without them
pub record IsBack {S : Type 0} (turns : ℕ) (old new : History S) : Type 0 where
  pub boot : new.boot ≡ old.boot
  pub schedule : new.schedule ≡ take (length old.schedule - 2 * turns) old.schedule

-- where nothing was full, the state is the only one to which the schedule leads without anything full
abbrev pub IsDetermined : {S : Type 0} → (S → Reply → Call) → (S → Reply → S) → History S → Type 0
IsDetermined call next h = (m : KernelState _) (notes : List Bool) → run call next (Some h.boot) h.schedule notes ≡ Some m → m.full ≡ None → h.now.full ≡ None → h.now ≡ m
