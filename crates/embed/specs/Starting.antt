-- What a run of a task begins with, and why it can't begin.
use Rattle.std.specs.Prelude.{◌≡◌, ◌≢◌, ℕ, ◌+◌, ◌<◌, ◌≤◌, false, List, [], ◌∷◌, ◌++◌, None, length}
use Rattle.mem_files.specs.Name.{Name, Bytes, is_openable}
use Rattle.mem_files.specs.Files.{files}
use Rattle.mem_files.specs.Listing.{AreFiles, IsFullFor, max_size, with_entry}
use Rattle.mem_files.specs.declared.fault.FilesFault.{FilesFault}
use Rattle.mem_files.specs.declared.fault.FilesFault.TheVariants.{BadName as bad_name, FullSize as full_size, FullFiles as full_files, Missing, Memory as refused, Gap}
use Rattle.script_load.specs.declared.fault.LoadFault.{LoadFault}
use Rattle.script_load.specs.declared.fault.LoadFault.TheVariants.{LineTooLong as load_long, ByteZero as load_zero, Memory as load_memory}
use Rattle.script_load.specs.Line.{ScriptLine}
use Rattle.script_load.specs.Script.{IsScript, HasLoadFault}
use Rattle.embed.specs.declared.task.Given.{Given}
use Rattle.embed.specs.declared.task.Task.{Task}
use Rattle.embed.specs.declared.fault.StartFault.{StartFault}
use Rattle.embed.specs.declared.fault.StartFault.TheVariants.{ScriptTooLong, InputTooLong, LineTooLong, ByteZero, BadName, TakenName, FileTooLong, TooManyFiles, Memory}

-- the most bytes of a script, and of a standard input
abbrev pub max_input : ℕ
max_input = 1048576

abbrev pub of_load : LoadFault → StartFault
of_load (load_long n) = LineTooLong n
of_load (load_zero n) = ByteZero n
of_load load_memory = Memory

abbrev pub of_files : ℕ → FilesFault → StartFault
of_files number bad_name = BadName number
of_files number full_size = FileTooLong number
of_files number full_files = TooManyFiles number
of_files number Missing = Memory
of_files number refused = Memory
of_files number Gap = Memory

-- the set of these files, each put to those before it, none of which has its name
pub data ArePut : List Given → List (Name × Bytes) → Type 0 where
  none_put : ArePut [] []
  one_put : {before : List Given} {list : List (Name × Bytes)} (file : Given) → ArePut before list → files list file.name.now ≡ None → ArePut (before ++ file ∷ []) (with_entry list file.name.now file.bytes.now)

-- what a run of a task begins with: its lines, and its files, which are what a set of files can be
pub record Starts (task : Task) (lines : List ScriptLine) (given : List (Name × Bytes)) : Type 0 where
  pub cut : IsScript task.script.now lines
  pub put : ArePut task.files.now given
  pub are : AreFiles given
  pub short : length task.script.now ≤ max_input
  pub short_input : length task.stdin.now ≤ max_input

-- the script or the standard input is too long
abbrev pub IsLengthFault : Task → StartFault → Type 0
IsLengthFault task ScriptTooLong = max_input < length task.script.now
IsLengthFault task InputTooLong = max_input < length task.stdin.now
IsLengthFault task (LineTooLong n) = ⊥
IsLengthFault task (ByteZero n) = ⊥
IsLengthFault task (BadName n) = ⊥
IsLengthFault task (TakenName n) = ⊥
IsLengthFault task (FileTooLong n) = ⊥
IsLengthFault task (TooManyFiles n) = ⊥
IsLengthFault task Memory = ⊥

-- why the file of this number can't be put to these: its name can't be opened or is that of one of them, it is too long, or
-- there is no room for it
abbrev pub IsFileFault : List (Name × Bytes) → Given → ℕ → StartFault → Type 0
IsFileFault list file number ScriptTooLong = ⊥
IsFileFault list file number InputTooLong = ⊥
IsFileFault list file number (LineTooLong n) = ⊥
IsFileFault list file number (ByteZero n) = ⊥
IsFileFault list file number (BadName n) = (n ≡ number) × (is_openable file.name.now ≡ false)
IsFileFault list file number (TakenName n) = (n ≡ number) × (files list file.name.now ≢ None)
IsFileFault list file number (FileTooLong n) = (n ≡ number) × (max_size < length file.bytes.now)
IsFileFault list file number (TooManyFiles n) = (n ≡ number) × IsFullFor list file.name.now
IsFileFault list file number Memory = Unit {0}

-- a file can't be put, once those before it were; it is counted from 1
pub record IsFilesFault (given : List Given) (fault : StartFault) : Type 0 where
  pub before : List Given
  pub file : Given
  pub after : List Given
  pub list : List (Name × Bytes)
  pub split : given ≡ before ++ file ∷ after
  pub put : ArePut before list
  pub reason : IsFileFault list file (length before + 1) fault

-- why a run of a task can't begin, where nothing before that was a fault: its lengths, its script, its files, or that memory
-- was refused
pub data IsStartFault (task : Task) : StartFault → Type 0 where
  bad_length : {fault : StartFault} → IsLengthFault task fault → IsStartFault task fault
  bad_script : (fault : LoadFault) → length task.script.now ≤ max_input → length task.stdin.now ≤ max_input → HasLoadFault task.script.now fault → IsStartFault task (of_load fault)
  bad_files : {fault : StartFault} (lines : List ScriptLine) → IsScript task.script.now lines → IsFilesFault task.files.now fault → IsStartFault task fault
  no_memory : IsStartFault task Memory
