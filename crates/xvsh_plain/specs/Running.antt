-- What a run of a script reads, writes and refuses.
use Rattle.std.specs.Prelude.{◌≡◌, ◌↔◌, Bool, true, false, IsTrue, List, ◌++◌, Option}
use Rattle.std.specs.Borrow.{Bor}
use Rattle.mem_files.specs.Name.{Name, Bytes}
use Rattle.mem_files.specs.Files.{FileMap, files}
use Rattle.mem_files.specs.Listing.{AreFiles}
use Rattle.script_load.specs.declared.profile.Profile.{Profile}
use Rattle.script_load.specs.Line.{ScriptLine}
use Rattle.meaning_model.specs.Limits.{Outgrows}
use Rattle.meaning_model.specs.Meaning.{script_tree, script_meaning}
use Rattle.meaning_model.specs.Settled.{IsSettledScript}
use Rattle.meaning_model.specs.Value.{Value}
use Rattle.plain_run.specs.declared.fault.PlainFault.{PlainFault}
use Rattle.plain_run.specs.declared.fault.PlainFault.TheVariants.{TooLarge as plain_large, Memory as plain_memory}
use Rattle.xvsh_read.specs.Listing.{list_text}
use Rattle.xvsh_read.specs.Path.{Path}
use Rattle.xvsh_read.specs.Starting.{Starts, IsStartFault}
use Rattle.xvsh_plain.specs.declared.request.PlainRequest.{PlainRequest}
use Rattle.xvsh_read.specs.declared.fault.Fault.{Fault}
use Rattle.xvsh_read.specs.declared.fault.Fault.TheVariants.{Unreadable, TooLong, LineTooLong, ByteZero, BadName, TakenName, TooManyFiles, TooLarge, Memory}

-- the text is the meaning's output, and then the list of its files where it is requested
abbrev pub IsRunText : Bool → Value → Bytes → Type 0
IsRunText false value text = text ≡ value.out
IsRunText true value text =
    (list : List (Name × Bytes)) × AreFiles list × ((name : Name) → files list name ≡ value.files name) × (text ≡ value.out ++ list_text value.soft list)

-- a fault of the run of a script: only where its meaning passes a limit is it too large
abbrev pub IsMeaningFault : Profile → List ScriptLine → Bytes → FileMap → Fault → Type 0
IsMeaningFault profile lines input F TooLarge = Outgrows profile (script_tree lines) input F
IsMeaningFault profile lines input F Memory = Unit {0}
IsMeaningFault profile lines input F (Unreadable path) = ⊥
IsMeaningFault profile lines input F (TooLong path) = ⊥
IsMeaningFault profile lines input F (LineTooLong n) = ⊥
IsMeaningFault profile lines input F (ByteZero n) = ⊥
IsMeaningFault profile lines input F (BadName path) = ⊥
IsMeaningFault profile lines input F (TakenName path) = ⊥
IsMeaningFault profile lines input F TooManyFiles = ⊥

abbrev pub of_plain : PlainFault → Fault
of_plain plain_large = TooLarge
of_plain plain_memory = Memory

-- what follows is by what the host states of standard input and of the files at paths
module _ (input : Option Bytes) (file : Path → Option Bytes) where
  -- the script at a path was run under a profile on the files at these paths, which gave this text
  pub record RanPlain (profile : Profile) (script : Path) (paths : List (Bor Path)) (lists is_settled : Bool) (text : Bytes) : Type 0 where
    pub lines : List ScriptLine
    pub given : List (Name × Bytes)
    pub stdin : Bytes
    pub starts : Starts input file false script paths lines given stdin
    pub gives : IsRunText lists (script_meaning profile lines stdin (files given)) text
    pub settled : IsTrue is_settled ↔ IsSettledScript profile lines stdin (files given)

  -- why it wasn't: it couldn't begin, or the run failed
  pub data IsPlainFault (profile : Profile) (script : Path) (paths : List (Bor Path)) : Fault → Type 0 where
    no_start : {fault : Fault} → IsStartFault input file false script paths fault → IsPlainFault profile script paths fault
    no_run : {fault : Fault} (lines : List ScriptLine) (given : List (Name × Bytes)) (stdin : Bytes) → Starts input file false script paths lines given stdin → IsMeaningFault profile lines stdin (files given) fault → IsPlainFault profile script paths fault

  -- why it wasn't
  abbrev pub IsPlainRefusal : PlainRequest → Fault → Type 0
  IsPlainRefusal request = IsPlainFault request.source.profile request.source.script.now request.source.files.now
