-- What contracts see of a kernel that knows what happened in it.
use Rattle.std.specs.Prelude.{◌≡◌, ℕ, ◌+◌, ◌*◌, ◌≤◌, Bool, true, List, [], ◌∷◌, ◌++◌, length, Some, None, count_by}
use Rattle.user_calls.specs.declared.calls.Call.{Call}
use Rattle.user_calls.specs.declared.calls.Reply.{Reply}
use Rattle.user_calls.specs.RanOnce.{RanOnce}
use Rattle.proc_table.specs.Slots.{Slot, is_running_on_status, is_running}
use Rattle.kernel_model.specs.declared.events.Event.{Event}
use Rattle.kernel_model.specs.declared.events.Event.TheVariants.{Dispatch, Trap}
use Rattle.kernel_model.specs.KernelState.{KernelState}
use Rattle.kernel_model.specs.Events.{run, happens, is_dispatch}
use Rattle.kernel_model.specs.Sound.{IsSound}
use Rattle.kernel_model.specs.Booted.{IsBooted}

-- the state that a kernel was booted with and the one that it is in, the events between the two, and beside each a note: whether memory was refused
pub record History (S : Type 0) : Type 0 where
  pub boot : KernelState S
  pub now : KernelState S
  pub schedule : List Event
  pub notes : List Bool

-- nothing has happened yet
abbrev pub booted : {S : Type 0} → KernelState S → History S
booted k = record { boot = k; now = k; schedule = []; notes = [] }

-- the events with the note beside each, and how many more there is room for
pub record Written : Type 0 where
  pub events : List Event
  pub notes : List Bool
  pub room : ℕ

-- the state is the one that the events lead to from a kernel at its start, each running process has room for its trap, and each
-- dispatch was followed by a trap, or its process runs
pub record IsKept {S : Type 0} (call : S → Reply → Call) (next : S → Reply → S) (boot now : KernelState S) (log : Written) : Type 0 where
  pub begun : IsBooted boot
  pub runs : run call next (Some boot) log.events log.notes ≡ Some now
  pub owed : count_by is_running now.table ≤ log.room
  pub counted : now.events ≡ length log.events
  pub paired : length log.events + count_by is_running now.table ≡ 2 * count_by is_dispatch log.events
  pub sound : IsSound now.table now.entries

-- a kernel goes on by one event
pub record GoesOn {S : Type 0} (call : S → Reply → Call) (next : S → Reply → S) (old : History S) (e : Event) (new : History S) : Type 0 where
  pub boot : new.boot ≡ old.boot
  pub schedule : new.schedule ≡ old.schedule ++ e ∷ []
  pub note : (refused : Bool) × (new.notes ≡ old.notes ++ refused ∷ []) × (happens call next old.now e refused ≡ Some new.now)

-- the machine and the reply of a run are those of a process that runs on the hart
abbrev pub IsOwed : {S : Type 0} → ℕ → Slot S → RanOnce S → Type 0
IsOwed h None ran = ⊥
IsOwed h (Some p) ran = (is_running_on_status h p.status ≡ true) × (p.machine ≡ ran.before) × (p.reply ≡ ran.reply)

-- a task holds the machine and the reply of its process
abbrev pub IsTask : {S : Type 0} → Slot S → S → Reply → Type 0
IsTask None machine reply = ⊥
IsTask (Some p) machine reply = (machine ≡ p.machine) × (reply ≡ p.reply)

-- a kernel goes on by a dispatch of some process on the hart, and the trap of that process
abbrev pub Steps : {S : Type 0} → (S → Reply → Call) → (S → Reply → S) → History S → ℕ → History S → Type 0
Steps call next old h new = (pid : ℕ) × (mid : History _) × GoesOn call next old (Dispatch h pid) mid × GoesOn call next mid (Trap h pid) new
