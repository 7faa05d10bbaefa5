-- When two runs of the program on one host read the same, and when what they read is a settled script.
use Rattle.std.specs.Prelude.{◌≡◌, true, false, is_some, All, List, Option}
use Rattle.std.specs.Borrow.{Bor}
use Rattle.mem_files.specs.Name.{Name, Bytes}
use Rattle.mem_files.specs.Files.{files}
use Rattle.script_load.specs.declared.profile.Profile.{Profile}
use Rattle.script_load.specs.Line.{ScriptLine}
use Rattle.meaning_model.specs.Settled.{IsSettledScript}
use Rattle.xvsh_read.specs.Path.{Path, place_of}
use Rattle.xvsh_read.specs.Reading.{told_at}
use Rattle.xvsh_read.specs.Starting.{Starts}

-- the host states which bytes standard input has, the script at a path, and each file at these paths
pub record IsTold (input : Option Bytes) (file : Path → Option Bytes) (script : Path) (paths : List (Bor Path)) : Type 0 where
  pub of_input : is_some input ≡ true
  pub of_script : is_some (told_at input file script) ≡ true
  pub of_paths : All (λ path. is_some (file (place_of path.now)) ≡ true) paths

-- whatever a run of the script at a path begins with, where standard input wasn't taken before, the script is settled on it
abbrev pub IsSettledAt : Option Bytes → (Path → Option Bytes) → Profile → Path → List (Bor Path) → Type 0
IsSettledAt input file profile script paths =
    (lines : List ScriptLine) (given : List (Name × Bytes)) (stdin : Bytes) → Starts input file false script paths lines given stdin → IsSettledScript profile lines stdin (files given)
