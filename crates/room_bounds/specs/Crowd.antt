-- What a script needs of the tables that its text alone decides: processes, open-file entries and descriptors.
use Rattle.std.specs.Prelude.{ℕ, ◌<◌, ◌≤◌, List, length, take, Option}
use Rattle.script_load.specs.Line.{ScriptLine}
use Rattle.room_model.specs.Processes.{script_processes}
use Rattle.room_model.specs.Entries.{script_entries}
use Rattle.room_model.specs.Descriptors.{script_descriptors}
use Rattle.room_bounds.specs.Capped.{IsCapped}
use Rattle.room_bounds.specs.Room.{IsTooMuch}
use Rattle.room_bounds.specs.declared.crowd.Held.{Held}
use Rattle.room_bounds.specs.declared.lack.Lack.{Lack}
use Rattle.room_bounds.specs.declared.table.Table.{Table}
use Rattle.room_bounds.specs.declared.table.Table.TheVariants.{Processes, Entries, Descriptors, Files, Size}
use Rattle.room_bounds.specs.declared.table.TheConstants.{MOST_PROCESSES, MOST_ENTRIES, MOST_DESCRIPTORS}

-- the script needs no more of them than there are, whatever its input and its files
pub record HasSlots (lines : List ScriptLine) : Type 0 where
  pub processes : script_processes lines ≤ MOST_PROCESSES
  pub entries : script_entries lines ≤ MOST_ENTRIES
  pub descriptors : script_descriptors lines ≤ MOST_DESCRIPTORS

-- how much it needs of one of them
abbrev pub IsSlotNeed : Table → List ScriptLine → Option ℕ → Type 0
IsSlotNeed Processes lines need = IsCapped (script_processes lines) need
IsSlotNeed Entries lines need = IsCapped (script_entries lines) need
IsSlotNeed Descriptors lines need = IsCapped (script_descriptors lines) need
IsSlotNeed Files lines need = ⊥
IsSlotNeed Size lines need = ⊥

-- of all three
pub record AreHeld (lines : List ScriptLine) (held : Held) : Type 0 where
  pub processes : IsSlotNeed Processes lines held.processes
  pub entries : IsSlotNeed Entries lines held.entries
  pub descriptors : IsSlotNeed Descriptors lines held.descriptors

-- the first lines that need too much of one: fewer have room in all three, and so many need so much of it, which is more than it has
pub record IsFirstCrowded (lines : List ScriptLine) (lack : Lack) : Type 0 where
  pub within : lack.line ≤ length lines
  pub before : (fewer : ℕ) → fewer < lack.line → HasSlots (take fewer lines)
  pub need : IsSlotNeed lack.table (take lack.line lines) lack.need
  pub much : IsTooMuch lack.table lack.need
