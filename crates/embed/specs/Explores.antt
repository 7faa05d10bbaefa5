-- What every order of a task's processes leaves, and why it isn't reported.
use Rattle.std.specs.Prelude.{◌≡◌, ◌⊎◌, ◌↔◌, ◌<◌, ℕ, Bool, IsTrue, List}
use Rattle.mem_files.specs.Name.{Name, Bytes}
use Rattle.script_load.specs.Line.{ScriptLine}
use Rattle.xvsh_read.specs.declared.fault.Fault.{Fault}
use Rattle.xvsh_read.specs.declared.fault.Fault.TheVariants.{Unreadable as unreadable, TooLong as too_long, LineTooLong as line_too_long, ByteZero as byte_zero, BadName as bad_name, TakenName as taken_name, TooManyFiles as too_many_files, TooLarge as too_large, Memory as refused}
use Rattle.xvsh_explores.specs.declared.request.TheConstants.{MAX_STATES}
use Rattle.script_outcomes.specs.Found.{IsFound, IsSingle, is_whole}
use Rattle.embed.specs.declared.task.Task.{Task}
use Rattle.embed.specs.declared.fault.StartFault.{StartFault}
use Rattle.embed.specs.declared.fault.EmbedFault.{EmbedFault}
use Rattle.embed.specs.declared.fault.EmbedFault.TheVariants.{Start, TooLarge, Memory, BadStates}
use Rattle.embed.specs.Profiles.{profile_by}
use Rattle.embed.specs.Starting.{Starts, IsStartFault}
use Rattle.embed.specs.declared.exploring.ExploreAnswer.{ExploreAnswer}

-- why an exploration failed
abbrev pub explored_fault : Fault → EmbedFault
explored_fault (unreadable path) = Memory
explored_fault (too_long path) = Memory
explored_fault (line_too_long n) = Memory
explored_fault (byte_zero n) = Memory
explored_fault (bad_name path) = Memory
explored_fault (taken_name path) = Memory
explored_fault too_many_files = Memory
explored_fault too_large = TooLarge
explored_fault refused = Memory

-- the answer is what was found of the task's script, where at most so many states were to be kept, and with all orders tried of a settled
-- script too or not
pub record IsExploreAnswer (task : Task) (states : ℕ) (thorough : Bool) (answer : ExploreAnswer) : Type 0 where
  pub lines : List ScriptLine
  pub given : List (Name × Bytes)
  pub starts : Starts task lines given
  pub found : IsFound (profile_by task.appends) lines task.stdin.now given states thorough answer.found
  pub whole : answer.is_whole ≡ is_whole answer.found
  pub single : IsTrue answer.is_single ↔ IsSingle answer.found

-- why nothing was found, of at most so many states: these are out of range, the runs can't begin, one has more turns than can be
-- counted, or memory was refused
pub data IsExploreRefusal (task : Task) (states : ℕ) : EmbedFault → Type 0 where
  bad_states : (states ≡ 0) ⊎ (MAX_STATES < states) → IsExploreRefusal task states BadStates
  no_start : {fault : StartFault} → IsStartFault task fault → IsExploreRefusal task states (Start fault)
  too_many_turns : IsExploreRefusal task states TooLarge
  no_memory : IsExploreRefusal task states Memory
