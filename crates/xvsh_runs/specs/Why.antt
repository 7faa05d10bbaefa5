-- Why `run` and `replay` print no run.
use Rattle.std.specs.Prelude.{◌≡◌, ◌-◌, ◌⊎◌, ℕ, false, List, Option, Some, slice_get, length, codes}
use Rattle.std.specs.Borrow.{Bor}
use Rattle.std.specs.Str.{bytes_eq}
use Rattle.mem_files.specs.Name.{Name, Bytes}
use Rattle.mem_files.specs.Files.{files}
use Rattle.script_load.specs.declared.profile.Profile.{Profile}
use Rattle.script_load.specs.Line.{ScriptLine}
use Rattle.sh_machine.specs.State.{User}
use Rattle.kernel_model.specs.declared.events.Event.{Event}
use Rattle.kernel_model.specs.declared.events.Event.TheVariants.{Dispatch, Trap}
use Rattle.kernel_model.specs.KernelState.{KernelState}
use Rattle.run_model.specs.ScriptRun.{IsSpentFrom, script_kernel}
use Rattle.kernel_threads.specs.Ranges.{AreBadHarts, AreBadTurns}
use Rattle.kernel_runs.specs.Refused.{IsReplayFault}
use Rattle.kernel_runs.specs.declared.replaying.ReplayFault.TheVariants.{NotRunnable as not_runnable, NotRunning as not_running, Unfinished as unfinished}
use Rattle.schedule_lines.specs.EventLines.{AreLinesOf, IsNoEventAt}
use Rattle.xvsh_runs.specs.declared.request.RunRequest.{RunRequest}
use Rattle.xvsh_runs.specs.declared.request.ReplayRequest.{ReplayRequest}
use Rattle.xvsh_read.specs.declared.fault.Fault.{Fault}
use Rattle.xvsh_read.specs.declared.fault.Fault.TheVariants.{Memory}
use Rattle.xvsh_read.specs.Path.{Path}
use Rattle.xvsh_read.specs.Reading.{Agree, told_at, IsReadFault}
use Rattle.xvsh_read.specs.Starting.{Starts, IsStartFault}
use Rattle.xvsh_read.specs.declared.starting.Start.{Start}
use Rattle.xvsh_runs.specs.Kernels.{kernel_of}
use Rattle.xvsh_runs.specs.Limit.{IsLimit, IsLimitOf}
use Rattle.xvsh_runs.specs.Orders.{IsOrderFault}
use Rattle.xvsh_runs.specs.declared.fault.ProcessFault.{ProcessFault}
use Rattle.xvsh_runs.specs.declared.fault.ProcessFault.TheVariants.{Common, BadHarts, BadTurns, Spent, SharedInput, NoEvent, NotRunnable, NotRunning, Unfinished}
use Rattle.xvsh_runs.specs.declared.replaying.TheConstants.{MAX_SCHEDULE}

-- why there is no run from this kernel on so many harts in so many turns: memory was refused, the harts or the turns are out of
-- range, or some run spends the turns
pub data IsHartsFault (start : KernelState User) (harts turns : ℕ) : ProcessFault → Type 0 where
  no_memory : IsHartsFault start harts turns (Common Memory)
  harts_out_of_range : AreBadHarts harts → IsHartsFault start harts turns BadHarts
  turns_out_of_range : AreBadTurns turns → IsHartsFault start harts turns BadTurns
  turns_spent : IsSpentFrom start turns → IsHartsFault start harts turns Spent

-- why there is none of what was read, for which so many turns were asked, or none
pub record IsFaultFrom (start : Start) (harts : ℕ) (turns : Option ℕ) (fault : ProcessFault) : Type 0 where
  pub limit : ℕ
  pub limited : IsLimitOf start turns limit
  pub why : IsHartsFault (kernel_of start) harts limit fault

abbrev pub IsRefusedFrom : Start → RunRequest → ProcessFault → Type 0
IsRefusedFrom start request = IsFaultFrom start request.harts request.turns

-- why the bytes of a schedule at a path are not read as events: memory was refused, or a line is none
pub data IsLinesFault (path : Path) (bytes : Bytes) : ProcessFault → Type 0 where
  unkept : IsLinesFault path bytes (Common Memory)
  no_event : {at : Bor Path} {line : ℕ} → at.now ≡ path → IsNoEventAt bytes line → IsLinesFault path bytes (NoEvent at line)

-- the event of this number, counted from 1
abbrev pub IsEventAt : List Event → ℕ → Event → Type 0
IsEventAt events number event = slice_get events (number - 1) ≡ Some event

-- why there is no finished run from this kernel by these events: memory was refused, an event can't take place, or the run
-- isn't finished then
pub data IsEventsFault (start : KernelState User) (events : List Event) : ProcessFault → Type 0 where
  no_room : IsEventsFault start events (Common Memory)
  no_dispatch : {number pid hart : ℕ} → IsReplayFault start events (not_runnable number) → IsEventAt events number (Dispatch hart pid) → IsEventsFault start events (NotRunnable number pid)
  no_trap : {number pid hart : ℕ} → IsReplayFault start events (not_running number) → IsEventAt events number (Trap hart pid) → IsEventsFault start events (NotRunning number pid hart)
  not_ended : {count : ℕ} → IsReplayFault start events unfinished → count ≡ length events → IsEventsFault start events (Unfinished count)

-- there is no run from this kernel by the schedule at a path
abbrev pub IsBytesFault : KernelState User → Path → Bytes → ProcessFault → Type 0
IsBytesFault start path bytes fault =
    IsLinesFault path bytes fault ⊎ ((events : List Event) × AreLinesOf bytes events × IsEventsFault start events fault)

-- what follows is by what the host states of standard input and of the files at paths, of the script at a path
-- under a profile and on the files at these paths
module _ (input : Option Bytes) (file : Path → Option Bytes) (profile : Profile) (script : Path) (paths : List (Bor Path)) where
  -- why `run` prints no run: a word names no order of turns, it couldn't begin, or there is none
  pub data IsRunFault (harts : ℕ) (turns : Option ℕ) : ProcessFault → Type 0 where
    bad_order : {fault : ProcessFault} → IsOrderFault fault → IsRunFault harts turns fault
    no_start : {fault : Fault} → IsStartFault input file false script paths fault → IsRunFault harts turns (Common fault)
    no_run : {fault : ProcessFault} (lines : List ScriptLine) (given : List (Name × Bytes)) (stdin : Bytes) (limit : ℕ) → Starts input file false script paths lines given stdin → IsLimit lines stdin (files given) turns limit → IsHartsFault (script_kernel profile lines stdin given) harts limit fault → IsRunFault harts turns fault

  -- why `replay` prints none: its schedule and its script are both standard input, its schedule can't be read, it can't
  -- begin, or there is no run by its events
  pub data IsReplayingFault (schedule : Path) : ProcessFault → Type 0 where
    shared : schedule ≡ codes "-" → script ≡ codes "-" → IsReplayingFault schedule SharedInput
    no_schedule : {fault : Fault} → IsReadFault MAX_SCHEDULE (told_at input file schedule) schedule fault → IsReplayingFault schedule (Common fault)
    no_start_after : {fault : Fault} (bytes : Bytes) → Agree (told_at input file schedule) bytes → IsStartFault input file (bytes_eq schedule (codes "-")) script paths fault → IsReplayingFault schedule (Common fault)
    no_replay : {fault : ProcessFault} (bytes : Bytes) (lines : List ScriptLine) (given : List (Name × Bytes)) (stdin : Bytes) → Agree (told_at input file schedule) bytes → Starts input file (bytes_eq schedule (codes "-")) script paths lines given stdin → IsBytesFault (script_kernel profile lines stdin given) schedule bytes fault → IsReplayingFault schedule fault

-- why a request wasn't carried out
abbrev pub IsRunRefusal : Option Bytes → (Path → Option Bytes) → RunRequest → ProcessFault → Type 0
IsRunRefusal input file request = IsRunFault input file request.source.profile request.source.script.now request.source.files.now request.harts request.turns

abbrev pub IsReplayRefusal : Option Bytes → (Path → Option Bytes) → ReplayRequest → ProcessFault → Type 0
IsReplayRefusal input file request = IsReplayingFault input file request.source.profile request.source.script.now request.source.files.now request.schedule.now
