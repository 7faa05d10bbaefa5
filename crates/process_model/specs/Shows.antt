-- When names are right for a kernel: each entry in use has the name of what it has open.
use Rattle.std.specs.Prelude.{◌≡◌, ℕ, zero, suc, ◌+◌, ◌<◌, true, [], Some}
use Rattle.std.specs.Option.{is_some}
use Rattle.mem_files.specs.Name.{Name}
use Rattle.mem_files.specs.Files.{FileMap, files}
use Rattle.byte_pipe.specs.PipeState.{PipeState}
use Rattle.user_calls.specs.declared.calls.Mode.{Mode}
use Rattle.user_calls.specs.declared.calls.Mode.TheVariants.{Input as ToRead, Fresh, Over, Append}
use Rattle.fd_table.specs.declared.names.Mode.{Mode as EntryMode}
use Rattle.fd_table.specs.declared.names.Object.{Object}
use Rattle.fd_table.specs.declared.names.Object.TheVariants.{Input, Out, Diag, File, PipeRead, PipeWrite}
use Rattle.fd_table.specs.Entries.{Entries, OpenFile, entry_at}
use Rattle.kernel_model.specs.Modes.{entry_mode}
use Rattle.kernel_model.specs.Pipes.{Pipes, pipe_of}
use Rattle.kernel_model.specs.KernelState.{KernelState}
use Rattle.sh_machine.specs.State.{User}
use Rattle.process_model.specs.Seen.{Entry, input, out, diag, reader, writer, file, Names}

-- the place goes on at the entry's offset; one that appends has no use for its offset
abbrev pub GoesOnAt : Mode → ℕ → ℕ → Type 0
GoesOnAt ToRead at offset = at ≡ offset
GoesOnAt Fresh at offset = at ≡ offset
GoesOnAt Over at offset = at ≡ offset
GoesOnAt Append at offset = Unit {0}

-- the name is that of an entry which has this file open, in this mode and at this offset; no file ever goes
pub record IsFile (g : Names) (F : FileMap) (next : ℕ) (x : Entry) (name : Name) (mode : EntryMode) (offset : ℕ) : Type 0 where
  pub id : ℕ
  pub is : x ≡ file id
  pub old : id < next
  pub named : (g.places id).name ≡ name
  pub moded : entry_mode (g.places id).mode ≡ mode
  pub goes_on : GoesOnAt (g.places id).mode (g.places id).at offset
  pub there : is_some (F name) ≡ true

-- the name is that of an entry which has this object open, at this offset
abbrev pub IsNamed : Names → FileMap → ℕ → Entry → Object → ℕ → Type 0
IsNamed g F next x Input offset = x ≡ input
IsNamed g F next x Out offset = x ≡ out
IsNamed g F next x Diag offset = x ≡ diag
IsNamed g F next x (File name mode) offset = IsFile g F next x name mode offset
IsNamed g F next x (PipeRead id) offset = (x ≡ reader id) × (id < next)
IsNamed g F next x (PipeWrite id) offset = (x ≡ writer id) × (id < next)

-- entries and pipes have these names, and none the name of an event to come
pub record Shows (g : Names) (entries : Entries) (pipes : Pipes) (F : FileMap) (next : ℕ) : Type 0 where
  pub named : (e : ℕ) (f : OpenFile) → entry_at entries e ≡ Some f → IsNamed g F next (g.name e) f.object f.offset
  -- no two entries in use have one name
  pub apart : (e d : ℕ) (f h : OpenFile) → entry_at entries e ≡ Some f → entry_at entries d ≡ Some h → g.name e ≡ g.name d → e ≡ d
  pub holds : (id : ℕ) (p : PipeState) → pipe_of pipes id ≡ Some p → g.pipes id ≡ p.bytes

-- the names are right for the kernel
abbrev pub ShowsIn : Names → KernelState User → Type 0
ShowsIn g k = Shows g k.entries k.pipes (files k.files) (k.events + 1)

-- at the start three entries have names
abbrev pub first_name : ℕ → Entry
first_name zero = input
first_name (suc zero) = out
first_name (suc (suc e)) = diag

abbrev pub first_names : Names
first_names = record { name = first_name; pipes = λ id. []; places = λ id. record { name = []; mode = ToRead; at = 0 } }
