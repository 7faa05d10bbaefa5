-- What `explain` finds of the room that a script needs (own).
use Rattle.std.specs.Prelude.{◌⊎◌, false, List, Option, Some, None}
use Rattle.mem_files.specs.Name.{Bytes}
use Rattle.script_load.specs.Line.{ScriptLine}
use Rattle.script_load.specs.Script.{IsScript}
use Rattle.room_bounds.specs.Crowd.{HasSlots, IsFirstCrowded}
use Rattle.room_bounds.specs.Behind.{FitsBehind, IsFirstBehind}
use Rattle.room_bounds.specs.declared.lack.Lack.{Lack}
use Rattle.xvsh_checks.specs.Check.{AreHarmless}

-- the first line with which a script may need more processes, open files or descriptors than there are, or none; of a script with a
-- clash or a `&` the first with which it may need more processes or descriptors
abbrev pub IsLackNoted : List ScriptLine → Option Lack → Type 0
IsLackNoted lines None = (AreHarmless false lines × HasSlots lines) ⊎ ((AreHarmless false lines → ⊥) × FitsBehind lines)
IsLackNoted lines (Some lack) = (AreHarmless false lines × IsFirstCrowded lines lack) ⊎ ((AreHarmless false lines → ⊥) × IsFirstBehind lines lack)

-- the same of the script of these bytes
abbrev pub IsLackOfText : Bytes → Option Lack → Type 0
IsLackOfText bytes lack = (lines : List ScriptLine) × IsScript bytes lines × IsLackNoted lines lack
