-- What is reported of a task's script on its input and its files before any run by its processes, and why nothing is.
use Rattle.std.specs.Prelude.{◌↔◌, Bool, IsTrue, List}
use Rattle.mem_files.specs.Name.{Name, Bytes}
use Rattle.mem_files.specs.Files.{files}
use Rattle.script_load.specs.declared.profile.Profile.{Profile}
use Rattle.script_load.specs.declared.fault.LoadFault.{LoadFault}
use Rattle.script_load.specs.Line.{ScriptLine}
use Rattle.script_load.specs.Script.{HasLoadFault}
use Rattle.meaning_model.specs.Limits.{Outgrows}
use Rattle.meaning_model.specs.Meaning.{script_tree}
use Rattle.room_model.specs.Roomy.{IsRoomyScript}
use Rattle.xvsh_checks.specs.Check.{AreHarmless}
use Rattle.xvsh_checks.specs.Findings.{AreFindings}
use Rattle.xvsh_checks.specs.Turns.{AreTurnsFound}
use Rattle.xvsh_checks.specs.Room.{IsRoomFound}
use Rattle.xvsh_checks.specs.Whys.{AreWhysOf}
use Rattle.embed.specs.declared.task.Task.{Task}
use Rattle.embed.specs.declared.fault.StartFault.{StartFault}
use Rattle.embed.specs.declared.fault.EmbedFault.{EmbedFault}
use Rattle.embed.specs.declared.fault.EmbedFault.TheVariants.{Start, TooLarge, Memory}
use Rattle.embed.specs.Profiles.{profile_by}
use Rattle.embed.specs.Starting.{Starts, IsStartFault, of_load}
use Rattle.embed.specs.declared.turns.TurnsAnswer.{TurnsAnswer}
use Rattle.embed.specs.declared.rooms.RoomAnswer.{RoomAnswer}
use Rattle.embed.specs.declared.whys.WhysAnswer.{WhysAnswer}
use Rattle.embed.specs.Asks.{IsAskFault}

-- the answer reports of the lines of the task's script what a check reports of them, strictly or not, and of its turns what a check with turns
-- reports of them on the task's input and files
pub record IsTurnsAnswer (task : Task) (strict : Bool) (answer : TurnsAnswer) : Type 0 where
  pub lines : List ScriptLine
  pub given : List (Name × Bytes)
  pub starts : Starts task lines given
  pub of_lines : AreFindings 1 lines answer.findings.list.items
  pub of_turns : AreTurnsFound lines task.stdin.now (files given) answer.turns
  pub harmless : IsTrue answer.findings.is_harmless ↔ AreHarmless strict lines

-- the answer reports the same of the lines, and what is known of the room that the script needs on the task's input and files; and it is
-- fine exactly where the lines are harmless and have room
pub record IsRoomAnswer (task : Task) (strict : Bool) (answer : RoomAnswer) : Type 0 where
  pub lines : List ScriptLine
  pub given : List (Name × Bytes)
  pub starts : Starts task lines given
  pub of_lines : AreFindings 1 lines answer.findings.list.items
  pub room : IsRoomFound lines task.stdin.now given answer.found
  pub fine : IsTrue answer.findings.is_harmless ↔ (AreHarmless strict lines × IsRoomyScript lines task.stdin.now given)

-- the answer reports of the task's script what `explain` finds in it on the task's input and files
pub record IsWhysAnswer (task : Task) (answer : WhysAnswer) : Type 0 where
  pub lines : List ScriptLine
  pub given : List (Name × Bytes)
  pub starts : Starts task lines given
  pub whys : AreWhysOf task.script.now (profile_by task.appends) lines task.stdin.now given answer.noted

-- why nothing is reported: the run can't begin, the script is refused, or memory was
pub data IsTellFault (task : Task) : EmbedFault → Type 0 where
  no_start : {fault : StartFault} → IsStartFault task fault → IsTellFault task (Start fault)
  not_found : {fault : EmbedFault} → IsAskFault task.script.now fault → IsTellFault task fault
  no_memory : IsTellFault task Memory

-- why there are no notes on these bytes
pub data IsNotesFault (script : Bytes) : EmbedFault → Type 0 where
  no_notes : (fault : LoadFault) → HasLoadFault script fault → IsNotesFault script (Start (of_load fault))

-- why it isn't known why a script is settled: its meaning passes a limit, or memory was refused
pub data IsReasonsFault (profile : Profile) (lines : List ScriptLine) (stdin : Bytes) (given : List (Name × Bytes)) : EmbedFault → Type 0 where
  too_large : Outgrows profile (script_tree lines) stdin (files given) → IsReasonsFault profile lines stdin given TooLarge
  no_reasons_memory : IsReasonsFault profile lines stdin given Memory

-- why nothing is reported of a task's script on its files: as of its turns, or its meaning passes a limit
pub data IsWhysFault (task : Task) : EmbedFault → Type 0 where
  not_told : {fault : EmbedFault} → IsTellFault task fault → IsWhysFault task fault
  no_reasons : {fault : EmbedFault} (lines : List ScriptLine) (given : List (Name × Bytes)) → Starts task lines given → IsReasonsFault (profile_by task.appends) lines task.stdin.now given fault → IsWhysFault task fault
