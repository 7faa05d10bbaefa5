-- What a run of a script begins with, and why it can't begin.
use Rattle.std.specs.Prelude.{◌≡◌, ◌≢◌, Bool, true, false, List, [], Option, codes}
use Rattle.std.specs.Borrow.{Bor}
use Rattle.mem_files.specs.Name.{Name, Bytes}
use Rattle.mem_files.specs.Listing.{AreFiles}
use Rattle.script_load.specs.declared.fault.LoadFault.TheVariants.{LineTooLong as load_long, ByteZero as load_zero, Memory as load_memory}
use Rattle.script_load.specs.Line.{ScriptLine}
use Rattle.script_load.specs.Script.{IsScript, HasLoadFault}
use Rattle.xvsh_read.specs.Path.{Path}
use Rattle.xvsh_read.specs.Reading.{max_input, Agree, told_at, ArePut, IsReadFault, IsFilesFault}
use Rattle.xvsh_read.specs.declared.fault.Fault.{Fault}
use Rattle.xvsh_read.specs.declared.fault.Fault.TheVariants.{Unreadable, TooLong, LineTooLong, ByteZero, BadName, TakenName, TooManyFiles, TooLarge, Memory}

-- bytes are refused as a script
abbrev pub IsScriptFault : Bytes → Fault → Type 0
IsScriptFault bytes (LineTooLong n) = HasLoadFault bytes (load_long n)
IsScriptFault bytes (ByteZero n) = HasLoadFault bytes (load_zero n)
IsScriptFault bytes Memory = HasLoadFault bytes load_memory
IsScriptFault bytes (Unreadable path) = ⊥
IsScriptFault bytes (TooLong path) = ⊥
IsScriptFault bytes (BadName path) = ⊥
IsScriptFault bytes (TakenName path) = ⊥
IsScriptFault bytes TooManyFiles = ⊥
IsScriptFault bytes TooLarge = ⊥

-- what follows is by what the host states of standard input and of the files at paths
module _ (input : Option Bytes) (file : Path → Option Bytes) where
  -- the lines of the script at a path
  pub record AreLinesAt (script : Path) (lines : List ScriptLine) : Type 0 where
    pub bytes : Bytes
    pub own : Agree (told_at input file script) bytes
    pub cut : IsScript bytes lines

  -- why there is no script at a path: it can't be read, or is refused
  pub data IsScriptAtFault (script : Path) : Fault → Type 0 where
    unread_script : {fault : Fault} → IsReadFault max_input (told_at input file script) script fault → IsScriptAtFault script fault
    bad_script : {fault : Fault} (bytes : Bytes) → Agree (told_at input file script) bytes → IsScriptFault bytes fault → IsScriptAtFault script fault

  -- the standard input of a script: none is left where it was taken before, or the script was read from it
  abbrev pub IsInputOf : Bool → Path → Bytes → Type 0
  IsInputOf true script stdin = stdin ≡ []
  IsInputOf false script stdin = (script ≡ codes "-" → stdin ≡ []) × (script ≢ codes "-" → Agree input stdin)

  -- what a run of the script at a path begins with: its lines, the files of the paths, which are what a set of files can be,
  -- and its standard input
  pub record Starts (is_taken : Bool) (script : Path) (paths : List (Bor Path)) (lines : List ScriptLine) (given : List (Name × Bytes)) (stdin : Bytes) : Type 0 where
    pub loaded : AreLinesAt script lines
    pub put : ArePut file paths given
    pub are : AreFiles given
    pub own : IsInputOf is_taken script stdin

  -- why it doesn't: there is no script, one of the files can't be added, or standard input can't be read, each where those before were read
  pub data IsStartFault (is_taken : Bool) (script : Path) (paths : List (Bor Path)) : Fault → Type 0 where
    no_script : {fault : Fault} → IsScriptAtFault script fault → IsStartFault is_taken script paths fault
    no_file : {fault : Fault} (lines : List ScriptLine) → AreLinesAt script lines → IsFilesFault file paths fault → IsStartFault is_taken script paths fault
    no_input : {fault : Fault} (lines : List ScriptLine) (given : List (Name × Bytes)) → AreLinesAt script lines → ArePut file paths given → is_taken ≡ false → script ≢ codes "-" → IsReadFault max_input input (codes "-") fault → IsStartFault is_taken script paths fault
