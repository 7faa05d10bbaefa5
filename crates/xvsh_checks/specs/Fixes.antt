-- What `explain --fix` prints of a script on its files and its input (own).
use Rattle.std.specs.Prelude.{◌≡◌, ℕ, false, List, Option}
use Rattle.std.specs.Borrow.{Bor}
use Rattle.mem_files.specs.Name.{Name, Bytes}
use Rattle.mem_files.specs.Files.{FileMap, files}
use Rattle.script_load.specs.declared.fault.LoadFault.{LoadFault}
use Rattle.script_load.specs.declared.profile.Profile.{Profile}
use Rattle.script_load.specs.Line.{ScriptLine}
use Rattle.script_load.specs.Script.{HasLoadFault, IsScript}
use Rattle.meaning_model.specs.Limits.{Outgrows}
use Rattle.meaning_model.specs.Meaning.{script_tree}
use Rattle.script_mends.specs.Mended.{AreMends, IsSettledText, IsUnmended}
use Rattle.script_mends.specs.Rounds.{most_mends}
use Rattle.xvsh_read.specs.declared.fault.Fault.{Fault}
use Rattle.xvsh_read.specs.declared.fault.Fault.TheVariants.{TooLarge, Memory}
use Rattle.xvsh_read.specs.Path.{Path}
use Rattle.xvsh_read.specs.Starting.{Starts}
use Rattle.xvsh_read.specs.Status.{of_load}

-- what follows is of the script of these bytes under a profile, on this input and these files
module _ (profile : Profile) (stdin : Bytes) (F : FileMap) (bytes : Bytes) where
  -- the text is a settled script that comes of it by mends, and is the script itself where that is settled
  pub record IsFix (text : Bytes) : Type 0 where
    pub settled : IsSettledText profile stdin F text
    pub count : ℕ
    pub mends : AreMends profile stdin F count bytes text
    pub same : IsSettledText profile stdin F bytes → text ≡ bytes

  -- it isn't settled, and no mends make it so
  pub record HasNoFix : Type 0 where
    pub unsettled : IsSettledText profile stdin F bytes → ⊥
    pub unmended : IsUnmended profile stdin F most_mends bytes

  -- why neither is known: the script is refused, its meaning passes a limit, or there is no memory
  pub data IsFixFault : Fault → Type 0 where
    refused : (fault : LoadFault) → HasLoadFault bytes fault → IsFixFault (of_load fault)
    outgrown : (lines : List ScriptLine) → IsScript bytes lines → Outgrows profile (script_tree lines) stdin F → IsFixFault TooLarge
    not_fixed : IsFixFault Memory

-- what follows is by what the host states of standard input and of the files at paths, of the script at a path under a profile
-- and on the files at these paths
module _ (input : Option Bytes) (file : Path → Option Bytes) (profile : Profile) (script : Path) (paths : List (Bor Path)) where
  -- the text is the script that was read, mended
  pub record RanFix (text : Bytes) : Type 0 where
    pub lines : List ScriptLine
    pub given : List (Name × Bytes)
    pub stdin : Bytes
    pub starts : Starts input file false script paths lines given stdin
    pub fix : IsFix profile stdin (files given) starts.loaded.bytes text

  -- no mends of it are known
  pub record RanNoFix : Type 0 where
    pub lines : List ScriptLine
    pub given : List (Name × Bytes)
    pub stdin : Bytes
    pub starts : Starts input file false script paths lines given stdin
    pub none : HasNoFix profile stdin (files given) starts.loaded.bytes
