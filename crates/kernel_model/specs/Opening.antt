-- The call open (`sys_open` of `kernel/sysfile.c`). That an entry and a descriptor are looked for first is own: xv6 finds or makes the file before.
use Rattle.std.specs.Prelude.{ℕ, Bool, true, false, nat_le, ◌==◌, if◌then◌else◌, Option, Some, None, is_none, length, []}
use Rattle.user_calls.specs.declared.calls.Mode.{Mode}
use Rattle.user_calls.specs.declared.calls.Reply.{Reply}
use Rattle.user_calls.specs.declared.calls.Reply.TheVariants.{Fd, Refused}
use Rattle.fd_table.specs.declared.names.Object.TheVariants.{File}
use Rattle.fd_table.specs.Entries.{free_count}
use Rattle.fd_table.specs.Descriptors.{lowest_free}
use Rattle.mem_files.specs.Name.{Name, Bytes, is_openable}
use Rattle.mem_files.specs.Files.{files}
use Rattle.mem_files.specs.Listing.{with_entry, max_files}
use Rattle.kernel_model.specs.declared.events.Full.TheVariants.{Open, Fds, Files, Memory}
use Rattle.kernel_model.specs.KernelState.{KernelState, fds_at}
use Rattle.kernel_model.specs.Modes.{entry_mode, reads, empties}
use Rattle.kernel_model.specs.Replies.{answered, refused_for}
use Rattle.kernel_model.specs.Descriptors.{with_open}

-- the reply to an open, by the lowest free descriptor
abbrev pub open_reply : Option ℕ → Reply
open_reply (Some fd) = Fd fd
open_reply None = Refused

-- the file, which is there, is opened: an entry and a descriptor are free for it
abbrev pub open_here : {S : Type 0} → KernelState S → ℕ → S → Name → Mode → KernelState S
open_here k pid after name mode =
    answered (with_open k pid (File name (entry_mode mode))) pid after (open_reply (lowest_free (fds_at k pid)))

-- the kernel after the file of that name holds these bytes
abbrev pub with_bytes : {S : Type 0} → KernelState S → Name → Bytes → KernelState S
with_bytes k name bytes = record k { files = with_entry k.files name bytes }

-- an open for reading, by the file of that name
abbrev pub open_for_reading : {S : Type 0} → KernelState S → ℕ → S → Name → Mode → Option Bytes → KernelState S
open_for_reading k pid after name mode None = answered k pid after Refused
open_for_reading k pid after name mode (Some bytes) = open_here k pid after name mode

-- the kernel after the file of that name was emptied, if it is to be (`itrunc`)
abbrev pub emptied_if : {S : Type 0} → Bool → KernelState S → Name → KernelState S
emptied_if true k name = with_bytes k name []
emptied_if false k name = k

-- an open for writing, by the file of that name: a missing one is made, where there is room and memory for it (`create`)
abbrev pub open_for_writing : {S : Type 0} → KernelState S → ℕ → S → Name → Mode → Bool → Option Bytes → KernelState S
open_for_writing k pid after name mode refused (Some bytes) = open_here (emptied_if (empties mode) k name) pid after name mode
open_for_writing k pid after name mode refused None =
    if nat_le max_files (length k.files) then refused_for k pid after Files
    else (if refused then refused_for k pid after Memory
    else open_here (with_bytes k name []) pid after name mode)

-- an open of a name that can be opened
abbrev pub open_named : {S : Type 0} → KernelState S → ℕ → S → Name → Mode → Bool → KernelState S
open_named k pid after name mode refused =
    if reads mode then open_for_reading k pid after name mode (files k.files name)
    else open_for_writing k pid after name mode refused (files k.files name)

-- open
abbrev pub open_file : {S : Type 0} → KernelState S → ℕ → S → Name → Mode → Bool → KernelState S
open_file k pid after name mode refused =
    if free_count k.entries == 0 then refused_for k pid after Open
    else (if is_none (lowest_free (fds_at k pid)) then refused_for k pid after Fds
    else (if is_openable name then open_named k pid after name mode refused
    else answered k pid after Refused))
