-- Which lines of the script at a path are no command, and which do nothing.
use Rattle.std.specs.Prelude.{◌≡◌, ℕ, List, Option}
use Rattle.mem_files.specs.Name.{Bytes}
use Rattle.script_load.specs.Line.{ScriptLine}
use Rattle.dead_lines.specs.Dead.{bad_lines, dead_lines}
use Rattle.xvsh_read.specs.Path.{Path}
use Rattle.xvsh_read.specs.Starting.{AreLinesAt}

-- what follows is by what the host states of standard input and of the files at paths
module _ (input : Option Bytes) (file : Path → Option Bytes) (script : Path) where
  -- these are the numbers of the lines that are no command
  abbrev pub AreBadAt : List ℕ → Type 0
  AreBadAt numbers = (lines : List ScriptLine) × AreLinesAt input file script lines × (numbers ≡ bad_lines lines)

  -- these are the numbers of the lines that are no command or name no program
  abbrev pub AreDeadAt : List ℕ → Type 0
  AreDeadAt numbers = (lines : List ScriptLine) × AreLinesAt input file script lines × (numbers ≡ dead_lines lines)
