-- What is reported of a task's script before any run of it, and why nothing is.
use Rattle.std.specs.Prelude.{◌≡◌, ◌↔◌, ◌<◌, ◌≤◌, ℕ, Bool, true, false, IsTrue, List, length, Option, None}
use Rattle.mem_files.specs.Name.{Bytes}
use Rattle.script_load.specs.declared.fault.LoadFault.TheVariants.{LineTooLong as load_long, ByteZero as load_zero}
use Rattle.script_load.specs.Line.{ScriptLine}
use Rattle.script_load.specs.Script.{AllFine, IsScript, HasLoadFault}
use Rattle.script_notes.specs.Noted.{HasNoNotes}
use Rattle.xvsh_read.specs.declared.fault.Fault.{Fault}
use Rattle.xvsh_read.specs.declared.fault.Fault.TheVariants.{Unreadable as unreadable, TooLong as too_long, LineTooLong as line_too_long, ByteZero as byte_zero, BadName as bad_name, TakenName as taken_name, TooManyFiles as too_many_files, TooLarge as too_large, Memory as refused}
use Rattle.room_bounds.specs.declared.lack.Lack.{Lack}
use Rattle.xvsh_checks.specs.declared.finding.Findings.{Findings}
use Rattle.xvsh_checks.specs.Check.{AreHarmless}
use Rattle.xvsh_checks.specs.Findings.{AreFindings}
use Rattle.xvsh_checks.specs.Lacks.{IsLackOfText}
use Rattle.embed.specs.declared.task.Task.{Task}
use Rattle.embed.specs.declared.fault.StartFault.{StartFault}
use Rattle.embed.specs.declared.fault.StartFault.TheVariants.{ScriptTooLong, InputTooLong, LineTooLong, ByteZero, BadName, TakenName, FileTooLong, TooManyFiles, Memory as start_memory}
use Rattle.embed.specs.declared.fault.EmbedFault.{EmbedFault}
use Rattle.embed.specs.declared.fault.EmbedFault.TheVariants.{Start, TooLarge, Memory, BadTurns, Spent, NoEvent, NotRunnable, NotRunning, Unfinished, BadOrder, BadStates}
use Rattle.embed.specs.Starting.{max_input}
use Rattle.embed.specs.declared.answer.AskAnswer.{AskAnswer}

-- the program's fault of a script that is its standard input, as one of the task
abbrev pub of_fault : Fault → EmbedFault
of_fault (unreadable path) = Memory
of_fault (too_long path) = Start ScriptTooLong
of_fault (line_too_long n) = Start (LineTooLong n)
of_fault (byte_zero n) = Start (ByteZero n)
of_fault (bad_name path) = Memory
of_fault (taken_name path) = Memory
of_fault too_many_files = Memory
of_fault too_large = TooLarge
of_fault refused = Memory

-- these bytes are refused as a script: they are too many, or a line of them is
abbrev pub IsScriptFault : Bytes → StartFault → Type 0
IsScriptFault script ScriptTooLong = max_input < length script
IsScriptFault script InputTooLong = ⊥
IsScriptFault script (LineTooLong n) = (length script ≤ max_input) × HasLoadFault script (load_long n)
IsScriptFault script (ByteZero n) = (length script ≤ max_input) × HasLoadFault script (load_zero n)
IsScriptFault script (BadName n) = ⊥
IsScriptFault script (TakenName n) = ⊥
IsScriptFault script (FileTooLong n) = ⊥
IsScriptFault script (TooManyFiles n) = ⊥
IsScriptFault script start_memory = ⊥

-- why nothing is reported of a script: it is refused, or memory was
abbrev pub IsAskFault : Bytes → EmbedFault → Type 0
IsAskFault script (Start fault) = IsScriptFault script fault
IsAskFault script TooLarge = ⊥
IsAskFault script Memory = Unit {0}
IsAskFault script BadTurns = ⊥
IsAskFault script Spent = ⊥
IsAskFault script (NoEvent n) = ⊥
IsAskFault script (NotRunnable n) = ⊥
IsAskFault script (NotRunning n) = ⊥
IsAskFault script Unfinished = ⊥
IsAskFault script BadOrder = ⊥
IsAskFault script BadStates = ⊥

-- these are found in the lines of the task's script, and whether the lines are harmless, strictly or not
pub record AreFound (task : Task) (strict : Bool) (found : Findings) : Type 0 where
  pub lines : List ScriptLine
  pub cut : IsScript task.script.now lines
  pub short : length task.script.now ≤ max_input
  pub of_lines : AreFindings 1 lines found.list.items
  pub harmless : IsTrue found.is_harmless ↔ AreHarmless strict lines

-- the answer is fine exactly where no line of the task's script holds a `&` or a clash, and strictly each is a command
pub record IsCheckAnswer (task : Task) (strict : Bool) (answer : AskAnswer) : Type 0 where
  pub lines : List ScriptLine
  pub cut : IsScript task.script.now lines
  pub short : length task.script.now ≤ max_input
  pub fine : IsTrue answer.is_fine ↔ AreHarmless strict lines

-- the answer is fine exactly where no line of the task's script has a note, and none may not have room
pub record IsExplainAnswer (task : Task) (answer : AskAnswer) : Type 0 where
  pub lines : AllFine task.script.now
  pub short : length task.script.now ≤ max_input
  pub lack : Option Lack
  pub room : IsLackOfText task.script.now lack
  pub fine : IsTrue answer.is_fine ↔ (HasNoNotes task.script.now × (lack ≡ None))
