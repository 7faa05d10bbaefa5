-- The call write (`filewrite` of `kernel/file.c` and `pipewrite` of `kernel/pipe.c`).
use Rattle.std.specs.Prelude.{ℕ, Bool, ◌+◌, ◌==◌, ◌&&◌, nat_lt, if◌then◌else◌, ◌++◌, length, drop, Option, Some, None}
use Rattle.user_calls.specs.declared.calls.Reply.TheVariants.{Done, Refused}
use Rattle.fd_table.specs.declared.names.Mode.{Mode}
use Rattle.fd_table.specs.declared.names.Mode.TheVariants.{Input as ForReading, Fresh, Over, Append}
use Rattle.fd_table.specs.declared.names.Object.{Object}
use Rattle.fd_table.specs.declared.names.Object.TheVariants.{Input, Out, Diag, File, PipeRead, PipeWrite}
use Rattle.fd_table.specs.Entries.{OpenFile, advanced, moved_to}
use Rattle.fd_table.specs.Descriptors.{entry_of}
use Rattle.byte_pipe.specs.declared.Put.{Put}
use Rattle.byte_pipe.specs.declared.Put.TheVariants.{Took, Full, Closed}
use Rattle.byte_pipe.specs.PipeState.{PipeState, put_answer}
use Rattle.mem_files.specs.Name.{Name, Bytes}
use Rattle.mem_files.specs.Files.{files}
use Rattle.mem_files.specs.Overlay.{written}
use Rattle.mem_files.specs.Listing.{with_entry, max_size}
use Rattle.proc_table.specs.Slots.{at, put_of}
use Rattle.proc_table.specs.declared.states.Channel.TheVariants.{PipeBytes, PipeRoom}
use Rattle.kernel_model.specs.declared.events.Full.TheVariants.{Size, Memory}
use Rattle.kernel_model.specs.KernelState.{KernelState, fds_at, file_at}
use Rattle.kernel_model.specs.Pipes.{pipe_of, put_into}
use Rattle.kernel_model.specs.Replies.{answered, refused_for, sleeps, wakes}

-- whether memory is refused to what has `held` bytes and shall have `wanted`: the note counts only where it grows
abbrev pub lacks_memory : Bool → ℕ → ℕ → Bool
lacks_memory refused held wanted = refused && nat_lt held wanted

-- a write of b at the offset, which moves on, to the file that the entry e has open
abbrev pub write_file : {S : Type 0} → KernelState S → ℕ → S → ℕ → Name → ℕ → Bytes → Bool → Option Bytes → KernelState S
write_file k pid after e name offset b refused None = answered k pid after Refused
write_file k pid after e name offset b refused (Some bytes) =
    if nat_lt (length bytes) offset then answered k pid after Refused
    else (if nat_lt max_size (offset + length b) then refused_for k pid after Size
    else (if lacks_memory refused (length bytes) (offset + length b) then refused_for k pid after Memory
    else answered (record k { files = with_entry k.files name (written bytes offset b); entries = advanced k.entries e (length b) }) pid after Done))

-- a write of b to the end of the file that the entry e has open, whose offset becomes the new end (own)
abbrev pub append_file : {S : Type 0} → KernelState S → ℕ → S → ℕ → Name → Bytes → Bool → Option Bytes → KernelState S
append_file k pid after e name b refused None = answered k pid after Refused
append_file k pid after e name b refused (Some bytes) =
    if nat_lt max_size (length bytes + length b) then refused_for k pid after Size
    else (if lacks_memory refused (length bytes) (length bytes + length b) then refused_for k pid after Memory
    else answered (record k { files = with_entry k.files name (bytes ++ b); entries = moved_to k.entries e (length bytes + length b) }) pid after Done)

-- a write to the file by the mode of its entry
abbrev pub write_mode : {S : Type 0} → KernelState S → ℕ → S → ℕ → Name → ℕ → Bytes → Bool → Mode → KernelState S
write_mode k pid after e name offset b refused ForReading = answered k pid after Refused
write_mode k pid after e name offset b refused Fresh = write_file k pid after e name offset b refused (files k.files name)
write_mode k pid after e name offset b refused Over = write_file k pid after e name offset b refused (files k.files name)
write_mode k pid after e name offset b refused Append = append_file k pid after e name b refused (files k.files name)

-- a write to a pipe of which `put` bytes went before and `left` are left, by the result of the put of these
abbrev pub write_by : {S : Type 0} → KernelState S → ℕ → S → ℕ → ℕ → ℕ → Put → KernelState S
write_by k pid after id put left (Took n) =
    if n == left then wakes (PipeBytes id) (answered k pid after Done) else wakes (PipeBytes id) (sleeps k pid (PipeRoom id) (put + n))
write_by k pid after id put left Full = wakes (PipeBytes id) (sleeps k pid (PipeRoom id) put)
write_by k pid after id put left Closed = answered k pid after Refused

-- a write of the bytes xs, before which `put` bytes went, to the pipe of that name, if there is one (`pipewrite`)
abbrev pub write_pipe : {S : Type 0} → KernelState S → ℕ → S → ℕ → ℕ → Bytes → Option PipeState → KernelState S
write_pipe k pid after id put xs None = answered k pid after Refused
write_pipe k pid after id put xs (Some p) =
    write_by (record k { pipes = put_into k.pipes id xs (Some p) }) pid after id put (length xs) (put_answer p xs)

-- a write of b to the object that the entry e has open (`filewrite`)
abbrev pub write_object : {S : Type 0} → KernelState S → ℕ → S → ℕ → ℕ → Bytes → Bool → Object → KernelState S
write_object k pid after e offset b refused Input = answered k pid after Refused
write_object k pid after e offset b refused Out =
    if lacks_memory refused (length k.out) (length k.out + length b) then refused_for k pid after Memory else answered (record k { out = k.out ++ b }) pid after Done
write_object k pid after e offset b refused Diag =
    if lacks_memory refused (length k.diag) (length k.diag + length b) then refused_for k pid after Memory else answered (record k { diag = k.diag ++ b }) pid after Done
write_object k pid after e offset b refused (File name mode) = write_mode k pid after e name offset b refused mode
write_object k pid after e offset b refused (PipeRead id) = answered k pid after Refused
write_object k pid after e offset b refused (PipeWrite id) =
    write_pipe k pid after id (put_of (at k.table pid)) (drop (put_of (at k.table pid)) b) (pipe_of k.pipes id)

-- a write of b to what the entry e, if there is one, has open
abbrev pub write_entry : {S : Type 0} → KernelState S → ℕ → S → ℕ → Bytes → Bool → Option OpenFile → KernelState S
write_entry k pid after e b refused None = answered k pid after Refused
write_entry k pid after e b refused (Some f) = write_object k pid after e f.offset b refused f.object

-- a write through a descriptor that holds this entry, if it is open
abbrev pub write_held : {S : Type 0} → KernelState S → ℕ → S → Bytes → Bool → Option ℕ → KernelState S
write_held k pid after b refused None = answered k pid after Refused
write_held k pid after b refused (Some e) = write_entry k pid after e b refused (file_at k.entries (Some e))

-- write
abbrev pub write : {S : Type 0} → KernelState S → ℕ → S → ℕ → Bytes → Bool → KernelState S
write k pid after fd b refused = write_held k pid after b refused (entry_of (fds_at k pid) fd)
