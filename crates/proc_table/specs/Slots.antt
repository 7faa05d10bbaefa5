-- What contracts see of the table of processes.
use Rattle.std.specs.Prelude.{◌≡◌, ◌≢◌, ℕ, Bool, true, false, ◌==◌, ◌&&◌, List, Option, Some, None, slice_index_or}
use Rattle.user_calls.specs.declared.calls.Reply.{Reply}
use Rattle.fd_table.specs.Descriptors.{Descriptors}
use Rattle.proc_table.specs.declared.states.Channel.{Channel}
use Rattle.proc_table.specs.declared.states.Channel.TheVariants.{PipeBytes, PipeRoom, Children}
use Rattle.proc_table.specs.declared.states.Status.{Status}
use Rattle.proc_table.specs.declared.states.Status.TheVariants.{Runnable, Running, Asleep, Zombie}
use Rattle.proc_table.specs.declared.states.State.{State}
use Rattle.proc_table.specs.declared.states.State.TheVariants.{Free, Runnable as SlotRunnable, Running as SlotRunning, Asleep as SlotAsleep, Zombie as SlotZombie}

-- a process whose machine has states S: the parent of init is None; `put` is how many bytes a sleeping write has put so far
pub record Process (S : Type 0) : Type 0 where
  pub status : Status
  pub parent : Option ℕ
  pub machine : S
  pub reply : Reply
  pub fds : Descriptors
  pub put : ℕ

-- a slot with the process that is in it: None where it is free
abbrev pub Slot : Type 0 → Type 0
Slot S = Option (Process S)

-- the slots in the order of their numbers
abbrev pub Table : Type 0 → Type 0
Table S = List (Slot S)

-- the slot of a number, free also past the last one
abbrev pub at : {S : Type 0} → Table S → ℕ → Slot S
at t pid = slice_index_or t pid None

-- the two are one channel
abbrev pub same_channel : Channel → Channel → Bool
same_channel (PipeBytes p) (PipeBytes q) = p == q
same_channel (PipeRoom p) (PipeRoom q) = p == q
same_channel (Children p) (Children q) = p == q
same_channel (PipeBytes p) (PipeRoom q) = false
same_channel (PipeBytes p) (Children q) = false
same_channel (PipeRoom p) (PipeBytes q) = false
same_channel (PipeRoom p) (Children q) = false
same_channel (Children p) (PipeBytes q) = false
same_channel (Children p) (PipeRoom q) = false

-- the state of a slot whose process has this one
abbrev pub state_by : Status → State
state_by Runnable = SlotRunnable
state_by (Running h) = SlotRunning h
state_by (Asleep c) = SlotAsleep c
state_by Zombie = SlotZombie

-- the state of a slot
abbrev pub state_of : {S : Type 0} → Slot S → State
state_of None = Free
state_of (Some p) = state_by p.status

-- a status is Runnable
abbrev pub is_runnable_status : Status → Bool
is_runnable_status Runnable = true
is_runnable_status (Running h) = false
is_runnable_status (Asleep c) = false
is_runnable_status Zombie = false

-- a status is Running, on whatever hart
abbrev pub is_running_status : Status → Bool
is_running_status Runnable = false
is_running_status (Running h) = true
is_running_status (Asleep c) = false
is_running_status Zombie = false

-- a status is Running on hart h
abbrev pub is_running_on_status : ℕ → Status → Bool
is_running_on_status h Runnable = false
is_running_on_status h (Running other) = h == other
is_running_on_status h (Asleep c) = false
is_running_on_status h Zombie = false

-- a status is Asleep, on whatever channel
abbrev pub is_asleep_status : Status → Bool
is_asleep_status Runnable = false
is_asleep_status (Running h) = false
is_asleep_status (Asleep c) = true
is_asleep_status Zombie = false

-- a status is Asleep on the channel
abbrev pub is_asleep_on_status : Channel → Status → Bool
is_asleep_on_status channel Runnable = false
is_asleep_on_status channel (Running h) = false
is_asleep_on_status channel (Asleep other) = same_channel channel other
is_asleep_on_status channel Zombie = false

-- a status is Zombie
abbrev pub is_zombie_status : Status → Bool
is_zombie_status Runnable = false
is_zombie_status (Running h) = false
is_zombie_status (Asleep c) = false
is_zombie_status Zombie = true

-- a slot is free
abbrev pub is_free : {S : Type 0} → Slot S → Bool
is_free None = true
is_free (Some p) = false

-- a slot's process passes a test of its status; a free slot passes none
abbrev pub has_status : {S : Type 0} → (Status → Bool) → Slot S → Bool
has_status test None = false
has_status test (Some p) = test p.status

-- a slot's process is Runnable
abbrev pub is_runnable : {S : Type 0} → Slot S → Bool
is_runnable x = has_status is_runnable_status x

-- a slot's process is Running, on whatever hart
abbrev pub is_running : {S : Type 0} → Slot S → Bool
is_running x = has_status is_running_status x

-- a slot's process is Running on hart h
abbrev pub is_running_on : {S : Type 0} → ℕ → Slot S → Bool
is_running_on h x = has_status (is_running_on_status h) x

-- a slot's process is Asleep, on whatever channel
abbrev pub is_asleep : {S : Type 0} → Slot S → Bool
is_asleep x = has_status is_asleep_status x

-- a slot's process is Asleep on the channel
abbrev pub is_asleep_on : {S : Type 0} → Channel → Slot S → Bool
is_asleep_on channel x = has_status (is_asleep_on_status channel) x

-- a slot's process is a Zombie
abbrev pub is_zombie : {S : Type 0} → Slot S → Bool
is_zombie x = has_status is_zombie_status x

-- the number is the one that is there
abbrev pub is_number : ℕ → Option ℕ → Bool
is_number n None = false
is_number n (Some m) = n == m

-- a slot's process is a child of pid
abbrev pub is_child_of : {S : Type 0} → ℕ → Slot S → Bool
is_child_of pid None = false
is_child_of pid (Some p) = is_number pid p.parent

-- a slot's process is a child of pid and a zombie
abbrev pub is_zombie_child_of : {S : Type 0} → ℕ → Slot S → Bool
is_zombie_child_of pid x = is_child_of pid x && is_zombie x

-- the number of a process's parent: init is its own
abbrev pub parent_or_init : Option ℕ → ℕ
parent_or_init None = 0
parent_or_init (Some parent) = parent

-- the parent of a slot's process
abbrev pub parent_of : {S : Type 0} → Slot S → ℕ
parent_of None = 0
parent_of (Some p) = parent_or_init p.parent

-- every slot but init's is free
abbrev pub IsAlone : {S : Type 0} → Table S → Type 0
IsAlone t = (pid : ℕ) → pid ≢ 0 → at t pid ≡ None

-- how many bytes a sleeping write of a slot's process has put so far
abbrev pub put_of : {S : Type 0} → Slot S → ℕ
put_of None = 0
put_of (Some p) = p.put

-- one if the test holds, else none
abbrev pub tally : Bool → ℕ
tally true = 1
tally false = 0
