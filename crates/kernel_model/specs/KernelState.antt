-- The state of a kernel, as plain data.
use Rattle.std.specs.Prelude.{ℕ, List, Option, Some, None, replicate}
use Rattle.proc_table.specs.Slots.{Table, Slot, at}
use Rattle.fd_table.specs.Entries.{Entries, OpenFile, entry_at}
use Rattle.fd_table.specs.Descriptors.{Descriptors}
use Rattle.fd_table.specs.declared.descriptors.TheConstants.{DESCRIPTORS}
use Rattle.mem_files.specs.Name.{Name, Bytes}
use Rattle.kernel_model.specs.declared.events.Full.{Full}
use Rattle.kernel_model.specs.Pipes.{Pipes}

-- the state of a kernel whose programs, as machines, have states S
pub record KernelState (S : Type 0) : Type 0 where
  -- the processes, each in its slot (`proc`)
  pub table : Table S
  -- the open-file entries (`ftable`)
  pub entries : Entries
  pub pipes : Pipes
  -- in byte order of their names
  pub files : List (Name × Bytes)
  -- the standard input that wasn't read yet; its entry keeps offset 0
  pub input : Bytes
  -- what was written to the standard output, and as diagnostics
  pub out : Bytes
  pub diag : Bytes
  -- how many events have happened
  pub events : ℕ
  -- what had no room at the first call that was refused because something was full
  pub full : Option Full

-- the descriptors of a slot's process (`ofile`); a free slot has none open
abbrev pub fds_of : {S : Type 0} → Slot S → Descriptors
fds_of None = replicate DESCRIPTORS None
fds_of (Some p) = p.fds

-- the descriptors of the process pid
abbrev pub fds_at : {S : Type 0} → KernelState S → ℕ → Descriptors
fds_at k pid = fds_of (at k.table pid)

-- what an entry, if there is one, has open
abbrev pub file_at : Entries → Option ℕ → Option OpenFile
file_at t None = None
file_at t (Some e) = entry_at t e
