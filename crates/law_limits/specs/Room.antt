-- When any script, with `&` or without, has room in xv6's tables, whatever the order in which its processes go on.
use Rattle.std.specs.Prelude.{◌<◌, ◌≤◌, List}
use Rattle.fd_table.specs.declared.descriptors.TheConstants.{DESCRIPTORS}
use Rattle.fd_table.specs.declared.entries.TheConstants.{ENTRIES}
use Rattle.proc_table.specs.declared.pid.TheConstants.{PROCS}
use Rattle.mem_files.specs.Name.{Name, Bytes}
use Rattle.mem_files.specs.Files.{files}
use Rattle.mem_files.specs.Listing.{max_files, max_size}
use Rattle.script_load.specs.Line.{ScriptLine}
use Rattle.tree_model.specs.FilesAhead.{Sizes}
use Rattle.room_model.specs.Descriptors.{script_descriptors}
use Rattle.room_model.specs.Files.{script_files}
use Rattle.room_model.specs.BehindOpens.{opens_in_all}
use Rattle.room_model.specs.BehindProcesses.{processes_at_once}
use Rattle.room_model.specs.Sizes.{KeepsWithin}

-- it needs no more processes, open-file entries and descriptors than there are, makes not too many files, and keeps within sizes of
-- which none is larger than a file can be
pub record HasRoomInAnyOrder (lines : List ScriptLine) (input : Bytes) (list : List (Name × Bytes)) : Type 0 where
  pub processes : processes_at_once lines ≤ PROCS
  pub entries : opens_in_all lines ≤ ENTRIES
  pub descriptors : script_descriptors lines ≤ DESCRIPTORS
  pub files_few : script_files lines list < max_files
  pub sizes : Sizes
  pub keeps : KeepsWithin lines input (files list) sizes
  pub small : (name : Name) → sizes name ≤ max_size
