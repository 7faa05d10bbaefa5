-- What `explain` finds in a script on its files and its input (own).
use Rattle.std.specs.Prelude.{◌≡◌, ◌↔◌, All, false, IsTrue, List, [], Option, None, map}
use Rattle.std.specs.Borrow.{Bor}
use Rattle.mem_files.specs.Name.{Name, Bytes}
use Rattle.mem_files.specs.Files.{files}
use Rattle.script_load.specs.declared.profile.Profile.{Profile}
use Rattle.script_load.specs.Line.{ScriptLine}
use Rattle.script_notes.specs.Noted.{IsNoted, HasNoNotes}
use Rattle.script_notes.specs.Values.{values_of}
use Rattle.missing_names.specs.Missing.{missing_names}
use Rattle.missing_names.specs.Texts.{shown}
use Rattle.meaning_model.specs.Settled.{IsSettledScript}
use Rattle.plain_run.specs.Reasons.{IsReason}
use Rattle.xvsh_plain.specs.Running.{IsMeaningFault}
use Rattle.xvsh_read.specs.declared.fault.Fault.{Fault}
use Rattle.xvsh_read.specs.declared.fault.Fault.TheVariants.{Memory}
use Rattle.xvsh_read.specs.Path.{Path}
use Rattle.xvsh_read.specs.Starting.{Starts, IsStartFault, IsScriptAtFault}
use Rattle.xvsh_checks.specs.declared.whys.NotedWhys.{NotedWhys}
use Rattle.xvsh_checks.specs.Lacks.{IsLackNoted}

-- these are the notes on a script of these bytes, which has these lines, the names that none of these files has, with which line first
-- it may not have room, and why it isn't settled under a profile on this input; and whether there is none of these
pub record AreWhysOf (bytes : Bytes) (profile : Profile) (lines : List ScriptLine) (stdin : Bytes) (given : List (Name × Bytes)) (noted : NotedWhys) : Type 0 where
  pub notes : IsNoted bytes (values_of noted.notes.items)
  pub missing : map shown noted.missing.items ≡ missing_names lines given
  pub room : IsLackNoted lines noted.lack
  pub reasons : All (IsReason profile lines stdin (files given)) noted.reasons.items
  pub fine : IsTrue noted.is_fine ↔ (HasNoNotes bytes × (missing_names lines given ≡ []) × (noted.lack ≡ None) × IsSettledScript profile lines stdin (files given))

-- what follows is by what the host states of standard input and of the files at paths, of the script at a path under a profile
-- and on the files at these paths
module _ (input : Option Bytes) (file : Path → Option Bytes) (profile : Profile) (script : Path) (paths : List (Bor Path)) where
  -- this is what is found of it
  pub record RanWhys (noted : NotedWhys) : Type 0 where
    pub lines : List ScriptLine
    pub given : List (Name × Bytes)
    pub stdin : Bytes
    pub starts : Starts input file false script paths lines given stdin
    pub whys : AreWhysOf starts.loaded.bytes profile lines stdin given noted

  -- why nothing is reported: there is no script or it can't begin, its meaning passes a limit, or there is no memory for the report
  pub data IsWhysFault : Fault → Type 0 where
    no_notes : {fault : Fault} → IsScriptAtFault input file script fault → IsWhysFault fault
    no_whys_start : {fault : Fault} → IsStartFault input file false script paths fault → IsWhysFault fault
    no_whys : {fault : Fault} (lines : List ScriptLine) (given : List (Name × Bytes)) (stdin : Bytes) → Starts input file false script paths lines given stdin → IsMeaningFault profile lines stdin (files given) fault → IsWhysFault fault
    whys_not_told : IsWhysFault Memory
