-- What `run` and `replay` read, run and print.
use Rattle.std.specs.Prelude.{◌≤◌, ℕ, false, List, Option, length, codes}
use Rattle.std.specs.Borrow.{Bor}
use Rattle.std.specs.Str.{bytes_eq}
use Rattle.mem_files.specs.Name.{Name, Bytes}
use Rattle.mem_files.specs.Files.{files}
use Rattle.script_load.specs.declared.profile.Profile.{Profile}
use Rattle.script_load.specs.Line.{ScriptLine}
use Rattle.sh_machine.specs.State.{User}
use Rattle.kernel_model.specs.declared.events.Event.{Event}
use Rattle.kernel_model.specs.declared.events.Full.{Full}
use Rattle.kernel_model.specs.KernelState.{KernelState}
use Rattle.run_model.specs.ScriptRun.{script_kernel}
use Rattle.kernel_threads.specs.Events.{AreOfHarts}
use Rattle.schedule_lines.specs.EventLines.{AreLinesOf}
use Rattle.xvsh_runs.specs.declared.request.RunRequest.{RunRequest}
use Rattle.xvsh_runs.specs.declared.request.ReplayRequest.{ReplayRequest}
use Rattle.xvsh_read.specs.Path.{Path}
use Rattle.xvsh_read.specs.Reading.{Agree, told_at}
use Rattle.xvsh_read.specs.Starting.{Starts}
use Rattle.xvsh_read.specs.declared.starting.Start.{Start}
use Rattle.xvsh_runs.specs.Kernels.{kernel_of}
use Rattle.xvsh_runs.specs.Limit.{IsLimit, IsLimitOf}
use Rattle.xvsh_runs.specs.Lists.{Prints}
use Rattle.xvsh_runs.specs.declared.report.Lists.{Lists}

-- a finished run from this kernel on so many harts in at most so many turns, in which this was full, prints this text and these
-- diagnostics
pub record RanOn (start : KernelState User) (harts turns : ℕ) (lists : Lists) (full : Option Full) (text diag : Bytes) : Type 0 where
  pub events : List Event
  pub of_harts : AreOfHarts harts events
  pub within : length events ≤ turns
  pub prints : Prints start events lists full text diag

-- so does a finished run of what was read, for which so many turns were asked, or none
pub record RanFrom (start : Start) (harts : ℕ) (turns : Option ℕ) (lists : Lists) (full : Option Full) (text diag : Bytes) : Type 0 where
  pub limit : ℕ
  pub limited : IsLimitOf start turns limit
  pub on : RanOn (kernel_of start) harts limit lists full text diag

-- what follows is by what the host states of standard input and of the files at paths, of the script at a path
-- under a profile and on the files at these paths
module _ (input : Option Bytes) (file : Path → Option Bytes) (profile : Profile) (script : Path) (paths : List (Bor Path)) where
  -- so does a finished run on so many harts, for which so many turns were asked, or none
  pub record RanRun (harts : ℕ) (turns : Option ℕ) (lists : Lists) (full : Option Full) (text diag : Bytes) : Type 0 where
    pub lines : List ScriptLine
    pub given : List (Name × Bytes)
    pub stdin : Bytes
    pub starts : Starts input file false script paths lines given stdin
    pub limit : ℕ
    pub limited : IsLimit lines stdin (files given) turns limit
    pub on : RanOn (script_kernel profile lines stdin given) harts limit lists full text diag

  -- so does the finished run by the events of the schedule at a path
  pub record RanReplay (schedule : Path) (lists : Lists) (full : Option Full) (text diag : Bytes) : Type 0 where
    pub bytes : Bytes
    pub own : Agree (told_at input file schedule) bytes
    pub lines : List ScriptLine
    pub given : List (Name × Bytes)
    pub stdin : Bytes
    pub starts : Starts input file (bytes_eq schedule (codes "-")) script paths lines given stdin
    pub events : List Event
    pub listed : AreLinesOf bytes events
    pub prints : Prints (script_kernel profile lines stdin given) events lists full text diag

-- a request was carried out, and this was full and printed: of a run of what was read; and, by what the host states, of `run` and of
-- `replay`
abbrev pub DidRunFrom : Start → RunRequest → Option Full → Bytes → Bytes → Type 0
DidRunFrom start request = RanFrom start request.harts request.turns request.lists

abbrev pub DidRun : Option Bytes → (Path → Option Bytes) → RunRequest → Option Full → Bytes → Bytes → Type 0
DidRun input file request = RanRun input file request.source.profile request.source.script.now request.source.files.now request.harts request.turns request.lists

abbrev pub DidReplay : Option Bytes → (Path → Option Bytes) → ReplayRequest → Option Full → Bytes → Bytes → Type 0
DidReplay input file request = RanReplay input file request.source.profile request.source.script.now request.source.files.now request.schedule.now request.lists
