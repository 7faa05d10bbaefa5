-- The call read (`fileread` of `kernel/file.c` and `piperead` of `kernel/pipe.c`).
use Rattle.std.specs.Prelude.{ℕ, min, List, [], length, take, drop, Option, Some, None}
use Rattle.user_calls.specs.Limits.{block_size}
use Rattle.user_calls.specs.declared.calls.Reply.TheVariants.{Bytes, Refused}
use Rattle.fd_table.specs.declared.names.Mode.{Mode}
use Rattle.fd_table.specs.declared.names.Mode.TheVariants.{Input as ForReading, Fresh, Over, Append}
use Rattle.fd_table.specs.declared.names.Object.{Object}
use Rattle.fd_table.specs.declared.names.Object.TheVariants.{Input, Out, Diag, File, PipeRead, PipeWrite}
use Rattle.fd_table.specs.Entries.{OpenFile, advanced}
use Rattle.fd_table.specs.Descriptors.{entry_of}
use Rattle.byte_pipe.specs.declared.Take.{Take}
use Rattle.byte_pipe.specs.declared.Take.TheVariants.{Got, Empty, End}
use Rattle.byte_pipe.specs.PipeState.{PipeState, take_answer}
use Rattle.mem_files.specs.Name.{Bytes as FileBytes}
use Rattle.mem_files.specs.Files.{files}
use Rattle.proc_table.specs.declared.states.Channel.TheVariants.{PipeBytes, PipeRoom}
use Rattle.kernel_model.specs.KernelState.{KernelState, fds_at, file_at}
use Rattle.kernel_model.specs.Pipes.{pipe_of, taken_from}
use Rattle.kernel_model.specs.Replies.{answered, sleeps, wakes}

-- a read of at most n bytes of the file that the entry e has open, from the offset on, which moves on
abbrev pub read_file : {S : Type 0} → KernelState S → ℕ → S → ℕ → ℕ → ℕ → Option FileBytes → KernelState S
read_file k pid after e offset n None = answered k pid after Refused
read_file k pid after e offset n (Some bytes) =
    answered (record k { entries = advanced k.entries e (length (take n (drop offset bytes))) }) pid after (Bytes (take n (drop offset bytes)))

-- a read of the file by the mode of its entry
abbrev pub read_mode : {S : Type 0} → KernelState S → ℕ → S → ℕ → ℕ → ℕ → Option FileBytes → Mode → KernelState S
read_mode k pid after e offset n file ForReading = read_file k pid after e offset n file
read_mode k pid after e offset n file Fresh = answered k pid after Refused
read_mode k pid after e offset n file Over = answered k pid after Refused
read_mode k pid after e offset n file Append = answered k pid after Refused

-- a read of a pipe that gives these bytes, by the result of the take
abbrev pub read_by : {S : Type 0} → KernelState S → ℕ → S → ℕ → List ℕ → Take → KernelState S
read_by k pid after id got (Got n) = wakes (PipeRoom id) (answered k pid after (Bytes got))
read_by k pid after id got Empty = sleeps k pid (PipeBytes id) 0
read_by k pid after id got End = answered k pid after (Bytes [])

-- a read of at most n bytes of the pipe of that name, if there is one (`piperead`)
abbrev pub read_pipe : {S : Type 0} → KernelState S → ℕ → S → ℕ → ℕ → Option PipeState → KernelState S
read_pipe k pid after id n None = answered k pid after Refused
read_pipe k pid after id n (Some p) =
    read_by (record k { pipes = taken_from k.pipes id n (Some p) }) pid after id (take n p.bytes) (take_answer p n)

-- a read of at most n bytes of the object that the entry e has open (`fileread`)
abbrev pub read_object : {S : Type 0} → KernelState S → ℕ → S → ℕ → ℕ → ℕ → Object → KernelState S
read_object k pid after e offset n Input = answered (record k { input = drop n k.input }) pid after (Bytes (take n k.input))
read_object k pid after e offset n Out = answered k pid after Refused
read_object k pid after e offset n Diag = answered k pid after Refused
read_object k pid after e offset n (File name mode) = read_mode k pid after e offset n (files k.files name) mode
read_object k pid after e offset n (PipeRead id) = read_pipe k pid after id n (pipe_of k.pipes id)
read_object k pid after e offset n (PipeWrite id) = answered k pid after Refused

-- a read of what the entry e, if there is one, has open
abbrev pub read_entry : {S : Type 0} → KernelState S → ℕ → S → ℕ → ℕ → Option OpenFile → KernelState S
read_entry k pid after e n None = answered k pid after Refused
read_entry k pid after e n (Some f) = read_object k pid after e f.offset n f.object

-- a read through a descriptor that holds this entry, if it is open
abbrev pub read_held : {S : Type 0} → KernelState S → ℕ → S → ℕ → Option ℕ → KernelState S
read_held k pid after n None = answered k pid after Refused
read_held k pid after n (Some e) = read_entry k pid after e n (file_at k.entries (Some e))

-- read; a call for more bytes than a block reads a block at most (own)
abbrev pub read : {S : Type 0} → KernelState S → ℕ → S → ℕ → ℕ → KernelState S
read k pid after fd n = read_held k pid after (min n block_size) (entry_of (fds_at k pid) fd)
