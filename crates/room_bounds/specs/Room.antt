-- What a script needs of each table at most, and the first of its lines with which that is too much.
use Rattle.std.specs.Prelude.{◌≡◌, ℕ, ◌+◌, ◌<◌, ◌≤◌, List, length, take, Option, Some, None}
use Rattle.mem_files.specs.Name.{Name, Bytes}
use Rattle.mem_files.specs.Files.{files}
use Rattle.script_load.specs.Line.{ScriptLine}
use Rattle.tree_model.specs.FilesAhead.{sizes}
use Rattle.tree_model.specs.Bound.{most_bytes}
use Rattle.room_model.specs.Processes.{script_processes}
use Rattle.room_model.specs.Entries.{script_entries}
use Rattle.room_model.specs.Descriptors.{script_descriptors}
use Rattle.room_model.specs.Files.{script_files}
use Rattle.room_model.specs.Roomy.{IsRoomyScript}
use Rattle.room_bounds.specs.Capped.{IsCapped}
use Rattle.room_bounds.specs.declared.table.Table.{Table}
use Rattle.room_bounds.specs.declared.table.Table.TheVariants.{Processes, Entries, Descriptors, Files, Size}
use Rattle.room_bounds.specs.declared.table.TheConstants.{MOST_PROCESSES, MOST_ENTRIES, MOST_DESCRIPTORS, MOST_FILES, MOST_BYTES}
use Rattle.room_bounds.specs.declared.room.Room.{Room}
use Rattle.room_bounds.specs.declared.lack.Lack.{Lack}

-- no file of these gets more bytes than this, by what the script writes at most, and one might get as many
pub record IsLargest (lines : List ScriptLine) (input : Bytes) (list : List (Name × Bytes)) (most : ℕ) : Type 0 where
  pub enough : (name : Name) → sizes (files list) name + most_bytes lines input (files list) ≤ most
  pub met : (name : Name) × (sizes (files list) name + most_bytes lines input (files list) ≡ most)

abbrev pub IsCappedSize : List ScriptLine → Bytes → List (Name × Bytes) → Option ℕ → Type 0
IsCappedSize lines input list size = (most : ℕ) × IsLargest lines input list most × IsCapped most size

-- what the script needs of a table, on this input and these files
abbrev pub IsNeedOf : Table → List ScriptLine → Bytes → List (Name × Bytes) → Option ℕ → Type 0
IsNeedOf Processes lines input list need = IsCapped (script_processes lines) need
IsNeedOf Entries lines input list need = IsCapped (script_entries lines) need
IsNeedOf Descriptors lines input list need = IsCapped (script_descriptors lines) need
IsNeedOf Files lines input list need = IsCapped (script_files lines list) need
IsNeedOf Size lines input list need = IsCappedSize lines input list need

-- of all
pub record IsRoom (lines : List ScriptLine) (input : Bytes) (list : List (Name × Bytes)) (room : Room) : Type 0 where
  pub processes : IsNeedOf Processes lines input list room.processes
  pub entries : IsNeedOf Entries lines input list room.entries
  pub descriptors : IsNeedOf Descriptors lines input list room.descriptors
  pub files : IsNeedOf Files lines input list room.files
  pub size : IsNeedOf Size lines input list room.size

-- how much a table has
abbrev pub most_of : Table → ℕ
most_of Processes = MOST_PROCESSES
most_of Entries = MOST_ENTRIES
most_of Descriptors = MOST_DESCRIPTORS
most_of Files = MOST_FILES
most_of Size = MOST_BYTES

-- that is less than this
abbrev pub IsTooMuch : Table → Option ℕ → Type 0
IsTooMuch table None = Unit {0}
IsTooMuch table (Some need) = most_of table < need

-- the first lines that need too much: fewer have room, and so many need so much of a table, which is more than that has. They are
-- none where the files that are there are too many already
pub record IsFirstLack (lines : List ScriptLine) (input : Bytes) (list : List (Name × Bytes)) (lack : Lack) : Type 0 where
  pub within : lack.line ≤ length lines
  pub before : (fewer : ℕ) → fewer < lack.line → IsRoomyScript (take fewer lines) input list
  pub need : IsNeedOf lack.table (take lack.line lines) input list lack.need
  pub much : IsTooMuch lack.table lack.need
