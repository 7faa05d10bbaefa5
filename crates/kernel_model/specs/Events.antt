-- What an event does, and runs: lists of events from a first state on.
use Rattle.std.specs.Prelude.{ℕ, ◌+◌, Bool, true, false, ◌&&◌, not, nat_lt, if◌then◌else◌, List, [], ◌∷◌, Option, Some, None, is_some, position}
use Rattle.user_calls.specs.declared.calls.Call.{Call}
use Rattle.user_calls.specs.declared.calls.Call.TheVariants.{Fork, Exec, Exit, Wait, MakePipe, Read, Write, OpenFile, Close, Dup}
use Rattle.user_calls.specs.declared.calls.Reply.{Reply}
use Rattle.proc_table.specs.declared.table.TheConstants.{HARTS}
use Rattle.proc_table.specs.Slots.{Slot, Table, IsAlone, at, is_runnable, is_running_on}
use Rattle.proc_table.specs.Calls.{dispatched}
use Rattle.kernel_model.specs.declared.events.Event.{Event}
use Rattle.kernel_model.specs.declared.events.Event.TheVariants.{Dispatch, Trap}
use Rattle.kernel_model.specs.KernelState.{KernelState}
use Rattle.kernel_model.specs.Processes.{fork, exec, exit, wait}
use Rattle.kernel_model.specs.Descriptors.{make_pipe, close, dup}
use Rattle.kernel_model.specs.Opening.{open_file}
use Rattle.kernel_model.specs.Reading.{read}
use Rattle.kernel_model.specs.Writing.{write}

-- the kernel after the call of pid, whose machine after it is this one; the note says whether memory was refused (`syscall`)
abbrev pub acted : {S : Type 0} → KernelState S → ℕ → S → Call → Bool → KernelState S
acted k pid after Fork refused = fork k pid after
acted k pid after (Exec found) refused = exec k pid after found
acted k pid after Exit refused = exit k pid after
acted k pid after Wait refused = wait k pid after
acted k pid after MakePipe refused = make_pipe k pid after refused
acted k pid after (Read fd n) refused = read k pid after fd n
acted k pid after (Write fd b) refused = write k pid after fd b refused
acted k pid after (OpenFile name mode) refused = open_file k pid after name mode refused
acted k pid after (Close fd) refused = close k pid after fd
acted k pid after (Dup fd) refused = dup k pid after fd

-- the event is a dispatch
abbrev pub is_dispatch : Event → Bool
is_dispatch (Dispatch h pid) = true
is_dispatch (Trap h pid) = false

-- one more event happens
abbrev pub counted : {S : Type 0} → KernelState S → KernelState S
counted k = record k { events = k.events + 1 }

-- pid can be given to the hart h: there is such a hart, it runs nothing, and pid is Runnable
abbrev pub can_dispatch : {S : Type 0} → Table S → ℕ → ℕ → Bool
can_dispatch t h pid = nat_lt h HARTS && not (is_some (position (is_running_on h) t)) && is_runnable (at t pid)

module _ {S : Type 0} (call : S → Reply → Call) (next : S → Reply → S) where
  -- the kernel after the trap of pid, by its slot
  abbrev pub trapped : KernelState S → ℕ → Slot S → Bool → Option (KernelState S)
  trapped k pid None refused = None
  trapped k pid (Some p) refused = Some (acted (counted k) pid (next p.machine p.reply) (call p.machine p.reply) refused)

  -- the kernel after an event, or None where no such event can happen
  abbrev pub happens : KernelState S → Event → Bool → Option (KernelState S)
  happens k (Dispatch h pid) refused =
      if can_dispatch k.table h pid then Some (record (counted k) { table = dispatched k.table pid h }) else None
  happens k (Trap h pid) refused =
      if is_running_on h (at k.table pid) then trapped k pid (at k.table pid) refused else None

  -- the same, where there may be no kernel
  abbrev pub then_happens : Option (KernelState S) → Event → Bool → Option (KernelState S)
  then_happens None e refused = None
  then_happens (Some k) e refused = happens k e refused

  -- the kernel after a schedule, with a note for each event: whether memory was refused
  abbrev pub run : Option (KernelState S) → List Event → List Bool → Option (KernelState S)
  run k [] [] = k
  run k (e ∷ es) (refused ∷ notes) = run (then_happens k e refused) es notes
  run k [] (refused ∷ notes) = None
  run k (e ∷ es) [] = None

-- every slot but init's is free
abbrev pub IsFinished : {S : Type 0} → KernelState S → Type 0
IsFinished k = IsAlone k.table
