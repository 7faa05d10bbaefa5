-- How a run of a task stands after the events of a schedule, and why that isn't reported.
use Rattle.std.specs.Prelude.{◌≡◌, ◌≢◌, ◌↔◌, IsTrue, Bool, List, Some}
use Rattle.mem_files.specs.Name.{Name, Bytes}
use Rattle.script_load.specs.Line.{ScriptLine}
use Rattle.sh_machine.specs.State.{User}
use Rattle.sh_machine.specs.Turn.{call_of, next_of}
use Rattle.kernel_model.specs.declared.events.Event.{Event}
use Rattle.kernel_model.specs.KernelState.{KernelState}
use Rattle.kernel_model.specs.Events.{run, IsFinished}
use Rattle.run_model.specs.ScriptRun.{script_kernel}
use Rattle.kernel_runs.specs.Refused.{IsReplayFault}
use Rattle.kernel_runs.specs.declared.replaying.ReplayFault.{ReplayFault}
use Rattle.kernel_runs.specs.declared.replaying.ReplayFault.TheVariants.{Unfinished}
use Rattle.schedule_lines.specs.EventLines.{AreLinesOf}
use Rattle.embed.specs.declared.task.Task.{Task}
use Rattle.embed.specs.Profiles.{profile_by}
use Rattle.embed.specs.Starting.{Starts, IsStartFault}
use Rattle.embed.specs.declared.fault.StartFault.{StartFault}
use Rattle.embed.specs.declared.fault.EmbedFault.{EmbedFault}
use Rattle.embed.specs.declared.fault.EmbedFault.TheVariants.{Start, Memory}
use Rattle.embed.specs.Runs.{IsLineFault, of_replay}
use Rattle.embed.specs.declared.looking.LookAnswer.{LookAnswer}

-- all of the events took place, and led to a kernel that is finished, or isn't
pub record LedTo (start : KernelState User) (events : List Event) (finished : Bool) : Type 0 where
  pub last : KernelState User
  pub notes : List Bool
  pub runs : run call_of next_of (Some start) events notes ≡ Some last
  pub stands : IsTrue finished ↔ IsFinished last

-- the answer is of a run of the task's script by the events of the schedule
pub record IsLookAnswer (task : Task) (schedule : Bytes) (answer : LookAnswer) : Type 0 where
  pub lines : List ScriptLine
  pub given : List (Name × Bytes)
  pub starts : Starts task lines given
  pub events : List Event
  pub by : AreLinesOf schedule events
  pub led : LedTo (script_kernel (profile_by task.appends) lines task.stdin.now given) events answer.is_finished

-- why there is none: the run can't begin, a line is no event, an event can't take place, or there is no memory
pub data IsLookRefusal (task : Task) (schedule : Bytes) : EmbedFault → Type 0 where
  cannot_start : {fault : StartFault} → IsStartFault task fault → IsLookRefusal task schedule (Start fault)
  no_schedule : {fault : EmbedFault} → IsLineFault schedule fault → IsLookRefusal task schedule fault
  no_event : (fault : ReplayFault) (lines : List ScriptLine) (given : List (Name × Bytes)) (events : List Event) → Starts task lines given → AreLinesOf schedule events
      → IsReplayFault (script_kernel (profile_by task.appends) lines task.stdin.now given) events fault → fault ≢ Unfinished → IsLookRefusal task schedule (of_replay fault)
  no_room : IsLookRefusal task schedule Memory
