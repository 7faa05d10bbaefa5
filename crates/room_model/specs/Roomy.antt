-- When a script has room in xv6's tables, whatever the order in which its processes go on.
use Rattle.std.specs.Prelude.{◌<◌, ◌≤◌, List}
use Rattle.fd_table.specs.declared.descriptors.TheConstants.{DESCRIPTORS}
use Rattle.fd_table.specs.declared.entries.TheConstants.{ENTRIES}
use Rattle.proc_table.specs.declared.pid.TheConstants.{PROCS}
use Rattle.mem_files.specs.Name.{Name, Bytes}
use Rattle.mem_files.specs.Listing.{max_files}
use Rattle.script_load.specs.Line.{ScriptLine}
use Rattle.room_model.specs.Processes.{script_processes}
use Rattle.room_model.specs.Entries.{script_entries}
use Rattle.room_model.specs.Descriptors.{script_descriptors}
use Rattle.room_model.specs.Files.{script_files}
use Rattle.room_model.specs.Bytes.{FilesStaySmall}

-- the script, on this input and these files, needs no more processes, open-file entries and descriptors than there are, and makes
-- neither too many files nor one that is too large
pub record IsRoomyScript (lines : List ScriptLine) (input : Bytes) (files : List (Name × Bytes)) : Type 0 where
  pub processes : script_processes lines ≤ PROCS
  pub entries : script_entries lines ≤ ENTRIES
  pub descriptors : script_descriptors lines ≤ DESCRIPTORS
  pub files_few : script_files lines files < max_files
  pub files_small : FilesStaySmall lines input files
