-- A kernel as it would be if no hart ran anybody and its pipes had other names.
use Rattle.std.specs.Prelude.{ℕ, Option, Some, None, map}
use Rattle.byte_pipe.specs.PipeState.{PipeState}
use Rattle.fd_table.specs.declared.names.Object.{Object}
use Rattle.fd_table.specs.declared.names.Object.TheVariants.{Input, Out, Diag, File, PipeRead, PipeWrite}
use Rattle.fd_table.specs.Entries.{OpenFile}
use Rattle.proc_table.specs.declared.states.Channel.{Channel}
use Rattle.proc_table.specs.declared.states.Channel.TheVariants.{PipeBytes, PipeRoom, Children}
use Rattle.proc_table.specs.declared.states.Status.{Status}
use Rattle.proc_table.specs.declared.states.Status.TheVariants.{Runnable, Running, Asleep, Zombie}
use Rattle.proc_table.specs.Slots.{Slot}
use Rattle.kernel_model.specs.KernelState.{KernelState}

-- a channel, an object, an entry, and a pipe with its name, after each pipe got another name
abbrev pub renamed_channel : (ℕ → ℕ) → Channel → Channel
renamed_channel name (PipeBytes pipe) = PipeBytes (name pipe)
renamed_channel name (PipeRoom pipe) = PipeRoom (name pipe)
renamed_channel name (Children pid) = Children pid

abbrev pub renamed_object : (ℕ → ℕ) → Object → Object
renamed_object name Input = Input
renamed_object name Out = Out
renamed_object name Diag = Diag
renamed_object name (File file mode) = File file mode
renamed_object name (PipeRead pipe) = PipeRead (name pipe)
renamed_object name (PipeWrite pipe) = PipeWrite (name pipe)

abbrev pub renamed_entry : (ℕ → ℕ) → Option OpenFile → Option OpenFile
renamed_entry name None = None
renamed_entry name (Some f) = Some (record f { object = renamed_object name f.object })

abbrev pub renamed_pipe : (ℕ → ℕ) → ℕ × PipeState → ℕ × PipeState
renamed_pipe name p = (name p.0, p.1)

-- a status: who runs is Runnable
abbrev pub idle_status : (ℕ → ℕ) → Status → Status
idle_status name Runnable = Runnable
idle_status name (Running h) = Runnable
idle_status name (Asleep channel) = Asleep (renamed_channel name channel)
idle_status name Zombie = Zombie

-- a slot
abbrev pub idle_slot : {S : Type 0} → (ℕ → ℕ) → Slot S → Slot S
idle_slot name None = None
idle_slot name (Some p) = Some (record p { status = idle_status name p.status })

-- the kernel if nobody ran, its pipes had these names, and so many events had happened
abbrev pub idle_kernel : {S : Type 0} → (ℕ → ℕ) → ℕ → KernelState S → KernelState S
idle_kernel name events k =
    record k {
      table = map (idle_slot name) k.table;
      entries = map (renamed_entry name) k.entries;
      pipes = map (renamed_pipe name) k.pipes;
      events = events;
    }
