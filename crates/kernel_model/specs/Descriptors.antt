-- The calls close, dup and pipe (`sys_close`, `sys_dup` and `sys_pipe` of `kernel/sysfile.c`).
use Rattle.std.specs.Prelude.{ℕ, zero, suc, Bool, nat_lt, if◌then◌else◌, Option, Some, None, Result, Ok, Err}
use Rattle.user_calls.specs.declared.calls.Reply.{Reply}
use Rattle.user_calls.specs.declared.calls.Reply.TheVariants.{Done, Fd, Ends, Refused}
use Rattle.fd_table.specs.declared.names.Object.{Object}
use Rattle.fd_table.specs.declared.names.Object.TheVariants.{Input, Out, Diag, File, PipeRead, PipeWrite}
use Rattle.fd_table.specs.declared.faults.FdFault.{FdFault}
use Rattle.fd_table.specs.declared.faults.FdFault.TheVariants.{BadFd, FullFds, FullOpen}
use Rattle.fd_table.specs.Entries.{added, lowest_free_entry, free_count}
use Rattle.fd_table.specs.Descriptors.{entry_of, lowest_free, installed, dup_answer, after_dup, held_by_dup, close_answer, after_close, released_by_close}
use Rattle.proc_table.specs.declared.states.Channel.TheVariants.{PipeBytes, PipeRoom}
use Rattle.proc_table.specs.Calls.{fds_set}
use Rattle.kernel_model.specs.declared.events.Full.TheVariants.{Open, Fds, Memory}
use Rattle.kernel_model.specs.KernelState.{KernelState, fds_at}
use Rattle.kernel_model.specs.Pipes.{pipe_of, with_new, reader_gone, writer_gone}
use Rattle.kernel_model.specs.Replies.{answered, refused_for, wakes}

-- the kernel after no descriptor holds the object any more: a pipe's end is closed, and the sleepers of the other are woken (`pipeclose`)
abbrev pub let_go : {S : Type 0} → KernelState S → Object → KernelState S
let_go k Input = k
let_go k Out = k
let_go k Diag = k
let_go k (File name mode) = k
let_go k (PipeRead id) = wakes (PipeRoom id) (record k { pipes = reader_gone k.pipes id (pipe_of k.pipes id) })
let_go k (PipeWrite id) = wakes (PipeBytes id) (record k { pipes = writer_gone k.pipes id (pipe_of k.pipes id) })

-- the kernel after the object that a close returned, if any, was let go (`fileclose`)
abbrev pub let_go_of : {S : Type 0} → KernelState S → Result (Option Object) FdFault → KernelState S
let_go_of k (Err fault) = k
let_go_of k (Ok None) = k
let_go_of k (Ok (Some object)) = let_go k object

-- the kernel after the descriptor fd of pid no longer holds this entry, if it held one
abbrev pub taken_away : {S : Type 0} → KernelState S → ℕ → ℕ → Option ℕ → KernelState S
taken_away k pid fd entry =
    record k { table = fds_set k.table pid (after_close (fds_at k pid) fd entry); entries = released_by_close k.entries entry }

-- the kernel after the descriptor fd of pid, which holds this entry, was closed
abbrev pub closed_by : {S : Type 0} → KernelState S → ℕ → ℕ → Option ℕ → KernelState S
closed_by k pid fd entry = let_go_of (taken_away k pid fd entry) (close_answer k.entries entry)

-- the kernel after the descriptor fd of pid was closed; the same where it isn't open
abbrev pub closed : {S : Type 0} → KernelState S → ℕ → ℕ → KernelState S
closed k pid fd = closed_by k pid fd (entry_of (fds_at k pid) fd)

-- the kernel after the first n descriptors of pid were closed, the lowest first
unfoldable pub closed_below : {S : Type 0} → KernelState S → ℕ → ℕ → KernelState S
closed_below k pid zero = k
closed_below k pid (suc n) = closed (closed_below k pid n) pid n

-- the reply to a close
abbrev pub close_reply : Result (Option Object) FdFault → Reply
close_reply (Ok object) = Done
close_reply (Err fault) = Refused

-- close: the entry is let go with its last descriptor. That its count is the number of descriptors that hold it is the law
-- `an_entry_is_open_while_a_descriptor_holds_it` of law_kernel/src/kernel.rt
abbrev pub close : {S : Type 0} → KernelState S → ℕ → S → ℕ → KernelState S
close k pid after fd = answered (closed k pid fd) pid after (close_reply (close_answer k.entries (entry_of (fds_at k pid) fd)))

-- a dup, by its result
abbrev pub dup_by : {S : Type 0} → KernelState S → ℕ → S → Result ℕ FdFault → KernelState S
dup_by k pid after (Ok fd) = answered k pid after (Fd fd)
dup_by k pid after (Err BadFd) = answered k pid after Refused
dup_by k pid after (Err FullFds) = refused_for k pid after Fds
dup_by k pid after (Err FullOpen) = refused_for k pid after Open

-- the kernel after pid has this entry, if there is one, also at this place
abbrev pub copied : {S : Type 0} → KernelState S → ℕ → Option ℕ → Option ℕ → KernelState S
copied k pid entry place =
    record k { table = fds_set k.table pid (after_dup (fds_at k pid) entry place); entries = held_by_dup k.entries entry place }

-- dup
abbrev pub dup : {S : Type 0} → KernelState S → ℕ → S → ℕ → KernelState S
dup k pid after fd =
    dup_by (copied k pid (entry_of (fds_at k pid) fd) (lowest_free (fds_at k pid))) pid after
    (dup_answer (entry_of (fds_at k pid) fd) (lowest_free (fds_at k pid)))

-- the kernel after pid opened the object at this entry, if there is one, and its lowest free descriptor
abbrev pub opened_at : {S : Type 0} → KernelState S → ℕ → Object → Option ℕ → KernelState S
opened_at k pid object None = k
opened_at k pid object (Some e) =
    record k { table = fds_set k.table pid (installed (fds_at k pid) e); entries = added k.entries object }

-- the kernel after pid opened the object (`filealloc` and `fdalloc`)
abbrev pub with_open : {S : Type 0} → KernelState S → ℕ → Object → KernelState S
with_open k pid object = opened_at k pid object (lowest_free_entry k.entries)

-- the reply to a pipe call, by its two descriptors
abbrev pub ends_reply : Option ℕ → Option ℕ → Reply
ends_reply (Some reader) (Some writer) = Ends reader writer
ends_reply (Some reader) None = Refused
ends_reply None writer = Refused

-- the kernel after pid made a pipe of this name, and opened its read end
abbrev pub with_reader : {S : Type 0} → KernelState S → ℕ → ℕ → KernelState S
with_reader k pid id = with_open (record k { pipes = with_new k.pipes id }) pid (PipeRead id)

-- the kernel after pid opened the write end too
abbrev pub with_ends : {S : Type 0} → KernelState S → ℕ → ℕ → KernelState S
with_ends k pid id = with_open (with_reader k pid id) pid (PipeWrite id)

-- pipe: the new one is named by this event
abbrev pub make_pipe : {S : Type 0} → KernelState S → ℕ → S → Bool → KernelState S
make_pipe k pid after refused =
    if nat_lt (free_count k.entries) 2 then refused_for k pid after Open
    else (if nat_lt (free_count (fds_at k pid)) 2 then refused_for k pid after Fds
    else (if refused then refused_for k pid after Memory
    else answered (with_ends k pid k.events) pid after
    (ends_reply (lowest_free (fds_at k pid)) (lowest_free (fds_at (with_reader k pid k.events) pid)))))
