-- The bytes that pass through a pipe: what the calls of a run put into it, and what they took from it, in order.
use Rattle.std.specs.Prelude.{ℕ, ◌-◌, Bool, true, false, if◌then◌else◌, List, [], ◌∷◌, ◌++◌, take, Option, Some, None}
use Rattle.user_calls.specs.declared.calls.Call.{Call}
use Rattle.user_calls.specs.declared.calls.Call.TheVariants.{Fork, Exec, Exit, Wait, MakePipe, Read, Write, OpenFile, Close, Dup}
use Rattle.user_calls.specs.declared.calls.Reply.{Reply}
use Rattle.user_calls.specs.declared.calls.Reply.TheVariants.{Start, Child, Done, Bytes as Given, Fd, Ends, Refused}
use Rattle.fd_table.specs.declared.names.Object.{Object}
use Rattle.mem_files.specs.Name.{Bytes}
use Rattle.proc_table.specs.Slots.{Slot, at, put_of, is_runnable_status, is_asleep_status}
use Rattle.kernel_model.specs.declared.events.Event.{Event}
use Rattle.kernel_model.specs.declared.events.Event.TheVariants.{Dispatch, Trap}
use Rattle.kernel_model.specs.KernelState.{KernelState}
use Rattle.kernel_model.specs.Events.{happens}
use Rattle.kernel_model.specs.KernelRun.{KernelRun, start_of}
use Rattle.law_kernel.specs.Ends.{reads_pipe, writes_pipe}
use Rattle.law_kernel.specs.Outcome.{object_at, left_of}

-- the bytes of a reply
abbrev pub bytes_in : Reply → Bytes
bytes_in Start = []
bytes_in Child = []
bytes_in Done = []
bytes_in (Given b) = b
bytes_in (Fd fd) = []
bytes_in (Ends reader writer) = []
bytes_in Refused = []

-- a reply says that the call was carried out
abbrev pub is_done : Reply → Bool
is_done Start = false
is_done Child = false
is_done Done = true
is_done (Given b) = false
is_done (Fd fd) = false
is_done (Ends reader writer) = false
is_done Refused = false

-- the bytes that a process got from a read, by its slot after it: none while it sleeps
abbrev pub got : {S : Type 0} → Slot S → Bytes
got None = []
got (Some p) = if is_runnable_status p.status then bytes_in p.reply else []

-- the bytes that went of those that a write had left, by the slot of its process after it: all where it is done, and where
-- it sleeps, as many as it has put by now and hadn't before
abbrev pub went : {S : Type 0} → ℕ → Bytes → Slot S → Bytes
went before left None = []
went before left (Some p) = if is_asleep_status p.status then take (p.put - before) left else (if is_done p.reply then left else [])

-- an object, if there is one, passes a test
abbrev pub passes : (Object → Bool) → Option Object → Bool
passes test None = false
passes test (Some object) = test object

-- the bytes that a call of pid put into the pipe of that name, by the kernels before and after it
abbrev pub put_by : {S : Type 0} → ℕ → KernelState S → ℕ → Call → KernelState S → Bytes
put_by id k pid Fork new = []
put_by id k pid (Exec found) new = []
put_by id k pid Exit new = []
put_by id k pid Wait new = []
put_by id k pid MakePipe new = []
put_by id k pid (Read fd n) new = []
put_by id k pid (Write fd b) new =
    if passes (writes_pipe id) (object_at k pid fd) then went (put_of (at k.table pid)) (left_of k pid b) (at new.table pid) else []
put_by id k pid (OpenFile name mode) new = []
put_by id k pid (Close fd) new = []
put_by id k pid (Dup fd) new = []

-- the bytes that it took from that pipe
abbrev pub taken_by : {S : Type 0} → ℕ → KernelState S → ℕ → Call → KernelState S → Bytes
taken_by id k pid Fork new = []
taken_by id k pid (Exec found) new = []
taken_by id k pid Exit new = []
taken_by id k pid Wait new = []
taken_by id k pid MakePipe new = []
taken_by id k pid (Read fd n) new = if passes (reads_pipe id) (object_at k pid fd) then got (at new.table pid) else []
taken_by id k pid (Write fd b) new = []
taken_by id k pid (OpenFile name mode) new = []
taken_by id k pid (Close fd) new = []
taken_by id k pid (Dup fd) new = []

-- what a call moves, by the kernels before and after it
abbrev pub Moved : Type 0 → Type 0
Moved S = KernelState S → ℕ → Call → KernelState S → Bytes

module _ {S : Type 0} (call : S → Reply → Call) (next : S → Reply → S) (moved : Moved S) where
  -- what an event moves: nothing where it can't happen
  abbrev pub moved_in_trap : KernelState S → ℕ → Slot S → Option (KernelState S) → Bytes
  moved_in_trap k pid None new = []
  moved_in_trap k pid (Some p) None = []
  moved_in_trap k pid (Some p) (Some new) = moved k pid (call p.machine p.reply) new

  abbrev pub moved_at : KernelState S → Event → Option (KernelState S) → Bytes
  moved_at k (Dispatch h pid) new = []
  moved_at k (Trap h pid) new = moved_in_trap k pid (at k.table pid) new

  -- what the events of a run move, in order
  abbrev pub all_moved : Option (KernelState S) → List Event → List Bool → Bytes
  all_moved None events notes = []
  all_moved (Some k) [] notes = []
  all_moved (Some k) (e ∷ es) [] = []
  all_moved (Some k) (e ∷ es) (refused ∷ notes) =
      moved_at k e (happens call next k e refused) ++ all_moved (happens call next k e refused) es notes

  -- what the events of a run from the start move
  abbrev pub moved_in : KernelRun call next → Bytes
  moved_in r = all_moved (Some (start_of r)) r.schedule r.notes
