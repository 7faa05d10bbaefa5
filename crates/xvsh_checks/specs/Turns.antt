-- What a check finds of the turns that are enough for a script (own).
use Rattle.std.specs.Prelude.{◌≡◌, ◌+◌, ◌<◌, ◌≤◌, ◌↔◌, ℕ, Bool, false, IsTrue, List, Option, Some, None}
use Rattle.std.specs.Borrow.{Bor}
use Rattle.mem_files.specs.Name.{Name, Bytes}
use Rattle.mem_files.specs.Files.{FileMap, files}
use Rattle.script_load.specs.Line.{ScriptLine}
use Rattle.script_load.specs.declared.limits.TheConstants.{MAX_TURNS}
use Rattle.step_bounds.specs.Most.{most_events}
use Rattle.xvsh_read.specs.declared.fault.Fault.{Fault}
use Rattle.xvsh_read.specs.declared.fault.Fault.TheVariants.{Memory}
use Rattle.xvsh_read.specs.Path.{Path}
use Rattle.xvsh_read.specs.Starting.{Starts, IsStartFault}
use Rattle.xvsh_checks.specs.declared.found.Finding.{Finding}
use Rattle.xvsh_checks.specs.Check.{AreHarmless}
use Rattle.xvsh_checks.specs.Findings.{AreFindings}

-- the turns of a script that has so many events at most: two turns more, or nothing where these are more than a run may have
abbrev pub AreTurnsOf : ℕ → Option ℕ → Type 0
AreTurnsOf most None = MAX_TURNS < most + 2
AreTurnsOf most (Some turns) = (most + 2 ≤ MAX_TURNS) × (turns ≡ most + 2)

-- the same of a script, with its input and its files
abbrev pub AreTurnsFound : List ScriptLine → Bytes → FileMap → Option ℕ → Type 0
AreTurnsFound lines input F turns = AreTurnsOf (most_events lines input F) turns

-- what follows is by what the host states of standard input and of the files at paths
module _ (input : Option Bytes) (file : Path → Option Bytes) where
  -- these are found in the lines of the script at a path, and these are its turns on the files at these paths
  pub record RanTurns (script : Path) (paths : List (Bor Path)) (strict is_harmless : Bool) (findings : List Finding) (turns : Option ℕ) : Type 0 where
    pub lines : List ScriptLine
    pub given : List (Name × Bytes)
    pub stdin : Bytes
    pub starts : Starts input file false script paths lines given stdin
    pub of_lines : AreFindings 1 lines findings
    pub of_turns : AreTurnsFound lines stdin (files given) turns
    pub harmless : IsTrue is_harmless ↔ AreHarmless strict lines

  -- why there are none: there is nothing to check, or no memory for the report
  pub data IsTurnsFault (script : Path) (paths : List (Bor Path)) : Fault → Type 0 where
    no_start : {fault : Fault} → IsStartFault input file false script paths fault → IsTurnsFault script paths fault
    turns_not_told : IsTurnsFault script paths Memory
