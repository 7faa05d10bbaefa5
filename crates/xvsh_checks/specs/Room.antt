-- What a check finds of the room that a script needs (own).
use Rattle.std.specs.Prelude.{◌<◌, ◌↔◌, ℕ, Bool, false, IsTrue, List, Option, Some, None}
use Rattle.std.specs.Borrow.{Bor}
use Rattle.mem_files.specs.Name.{Name, Bytes}
use Rattle.script_load.specs.Line.{ScriptLine}
use Rattle.room_model.specs.Roomy.{IsRoomyScript}
use Rattle.mem_files.specs.Files.{files}
use Rattle.room_bounds.specs.Room.{IsRoom, IsFirstLack, IsNeedOf}
use Rattle.room_bounds.specs.Growth.{IsGrowth, IsLeastGrowth}
use Rattle.room_bounds.specs.declared.capped_growth.TheConstants.{MAX_GROWTH}
use Rattle.room_bounds.specs.Behind.{FitsBehind, IsBehind, IsFirstBehind}
use Rattle.room_bounds.specs.declared.lack.Lack.{Lack}
use Rattle.room_bounds.specs.declared.table.Table.TheVariants.{Files}
use Rattle.xvsh_read.specs.declared.fault.Fault.{Fault}
use Rattle.xvsh_read.specs.declared.fault.Fault.TheVariants.{Memory}
use Rattle.xvsh_read.specs.Path.{Path}
use Rattle.xvsh_read.specs.Starting.{Starts, IsStartFault}
use Rattle.xvsh_checks.specs.declared.found.Finding.{Finding}
use Rattle.xvsh_checks.specs.Check.{AreHarmless}
use Rattle.xvsh_checks.specs.Findings.{AreFindings}
use Rattle.xvsh_checks.specs.declared.room_found.Growth.{Growth}
use Rattle.xvsh_checks.specs.declared.room_found.RoomFound.{RoomFound}
use Rattle.xvsh_checks.specs.declared.room_found.RoomFound.TheVariants.{Part, Known}

-- the first line with which the script may not have room, or none where it has
abbrev pub IsLackOf : List ScriptLine → Bytes → List (Name × Bytes) → Option Lack → Type 0
IsLackOf lines input list None = IsRoomyScript lines input list
IsLackOf lines input list (Some lack) = IsFirstLack lines input list lack

-- the same of processes and descriptors alone
abbrev pub IsPartLack : List ScriptLine → Option Lack → Type 0
IsPartLack lines None = FitsBehind lines
IsPartLack lines (Some lack) = IsFirstBehind lines lack

-- how many files there may be, and by how many bytes each that the script writes grows at most: no number is smaller, of which it is so;
-- nothing, where it may grow by more than is reported, or nothing bounds it
abbrev pub IsGrowthFound : List ScriptLine → Bytes → List (Name × Bytes) → Option Growth → Type 0
IsGrowthFound lines input list None = (other : ℕ) → IsGrowth lines input (files list) other → MAX_GROWTH < other
IsGrowthFound lines input list (Some growth) = IsLeastGrowth lines input (files list) growth.bytes × IsNeedOf Files lines input list growth.files

-- what is known of a script's room: of one with a clash or a `&` how many processes, open files and descriptors it needs, and by how
-- much its files grow, where that is known
abbrev pub IsRoomFound : List ScriptLine → Bytes → List (Name × Bytes) → RoomFound → Type 0
IsRoomFound lines input list (Part behind growth lack) =
    (AreHarmless false lines → ⊥) × IsBehind lines behind × IsGrowthFound lines input list growth × IsPartLack lines lack
IsRoomFound lines input list (Known room lack) = AreHarmless false lines × IsRoom lines input list room × IsLackOf lines input list lack

-- what follows is by what the host states of standard input and of the files at paths
module _ (input : Option Bytes) (file : Path → Option Bytes) where
  -- these are found in the lines of the script at a path, and this of its room on the files at these paths, and whether the lines are
  -- harmless and have room
  pub record RanRoom (script : Path) (paths : List (Bor Path)) (strict is_fine : Bool) (findings : List Finding) (found : RoomFound) : Type 0 where
    pub lines : List ScriptLine
    pub given : List (Name × Bytes)
    pub stdin : Bytes
    pub starts : Starts input file false script paths lines given stdin
    pub of_lines : AreFindings 1 lines findings
    pub room : IsRoomFound lines stdin given found
    pub fine : IsTrue is_fine ↔ (AreHarmless strict lines × IsRoomyScript lines stdin given)

  -- why there is none: there is nothing to check, or no memory for the report
  pub data IsRoomFault (script : Path) (paths : List (Bor Path)) : Fault → Type 0 where
    no_room_start : {fault : Fault} → IsStartFault input file false script paths fault → IsRoomFault script paths fault
    room_not_told : IsRoomFault script paths Memory
