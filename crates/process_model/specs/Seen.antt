-- A kernel as a tree of processes is read from it: without what only the scheduler uses, but for which processes sleep, and with
-- names where the kernel has numbers of entries, which are used again (own: xv6 has pointers).
use Rattle.std.specs.Prelude.{ℕ, zero, suc, ◌+◌, Bool, true, false, List, map, option_map, Option, Some, None, slice_index_or}
use Rattle.mem_files.specs.Name.{Name, Bytes}
use Rattle.mem_files.specs.Files.{FileMap, files}
use Rattle.user_calls.specs.declared.calls.Call.{Call}
use Rattle.user_calls.specs.declared.calls.Mode.{Mode}
use Rattle.user_calls.specs.declared.calls.Reply.{Reply}
use Rattle.fd_table.specs.Descriptors.{Descriptors}
use Rattle.proc_table.specs.Slots.{Process, Slot, Table, at, parent_or_init, is_zombie_status, is_asleep}
use Rattle.kernel_model.specs.KernelState.{KernelState}
use Rattle.sh_machine.specs.State.{User}
use Rattle.sh_machine.specs.Turn.{call_of, next_of}

-- what a descriptor is open on: a pipe's end, and the entry of a file, by the number of the event that made it
pub data Entry : Type 0 where
  input : Entry
  out : Entry
  diag : Entry
  reader : ℕ → Entry
  writer : ℕ → Entry
  file : ℕ → Entry

-- the descriptors of a process
abbrev pub Fds : Type 0
Fds = List (Option Entry)

-- what a descriptor is open on, None also past the last place
abbrev pub fd_at : Fds → ℕ → Option Entry
fd_at fds fd = slice_index_or fds fd None

-- a call that a process makes, and its machine once it is answered
pub record Act : Type 0 where
  pub call : Call
  pub next : User

-- what a process with this machine does with this reply
abbrev pub act_of : User → Reply → Act
act_of user reply = record { call = call_of user reply; next = next_of user reply }

-- a slot: a process that lives has its parent, the call that it makes, so many bytes of it put, and its descriptors
pub data Seen : Type 0 where
  free : Seen
  zombie : ℕ → Seen
  live : ℕ → Act → ℕ → Fds → Seen

-- descriptors, where each number of an entry has a name
abbrev pub fds_seen : (ℕ → Entry) → Descriptors → Fds
fds_seen name fds = map (option_map name) fds

-- a process as it is seen: a zombie, or one that lives
abbrev pub seen_by : Bool → (ℕ → Entry) → Process User → Seen
seen_by true name process = zombie (parent_or_init process.parent)
seen_by false name process =
    live (parent_or_init process.parent) (act_of process.machine process.reply) process.put (fds_seen name process.fds)

abbrev pub seen_slot : (ℕ → Entry) → Slot User → Seen
seen_slot name None = free
seen_slot name (Some process) = seen_by (is_zombie_status process.status) name process

-- the slots, of which init's is left out
abbrev pub seen : (ℕ → Entry) → Table User → ℕ → Seen
seen name table zero = free
seen name table (suc pid) = seen_slot name (at table (suc pid))

-- the file of an entry, how it was opened, and the byte at which it goes on
pub record Place : Type 0 where
  pub name : Name
  pub mode : Mode
  pub at : ℕ

-- what the tree of processes is read from
pub record View : Type 0 where
  pub slots : ℕ → Seen
  -- which processes sleep
  pub asleep : ℕ → Bool
  -- what each pipe holds, or held when it was given up
  pub pipes : ℕ → Bytes
  -- where each file's entry goes on, or went on when it was closed
  pub places : ℕ → Place
  pub files : FileMap
  pub input : Bytes
  pub out : Bytes
  -- the number of the next event, which names what it makes
  pub next : ℕ

-- what is not in the kernel's state: the name of each entry, and what pipes and entries that are gone had at last
pub record Names : Type 0 where
  pub name : ℕ → Entry
  pub pipes : ℕ → Bytes
  pub places : ℕ → Place

-- a kernel under these names
abbrev pub view : Names → KernelState User → View
view g k =
    record {
      slots = seen g.name k.table;
      asleep = λ p. is_asleep (at k.table p);
      pipes = g.pipes;
      places = g.places;
      files = files k.files;
      input = k.input;
      out = k.out;
      next = k.events + 1;
    }
