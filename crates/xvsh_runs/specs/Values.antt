-- The values of a run by processes: what a result says.
use Rattle.std.specs.Prelude.{◌≡◌, ◌↔◌, Bool, true, List, Contains, Option, Some}
use Rattle.std.specs.Borrow.{Bor}
use Rattle.mem_files.specs.Name.{Name, Bytes}
use Rattle.mem_files.specs.Files.{files}
use Rattle.script_load.specs.declared.profile.Profile.{Profile}
use Rattle.script_load.specs.Line.{ScriptLine}
use Rattle.meaning_model.specs.Meaning.{script_meaning}
use Rattle.dead_lines.specs.Dead.{bad_lines}
use Rattle.plain_run.specs.declared.reason.Reason.{Reason}
use Rattle.plain_run.specs.Reasons.{AreReasons}
use Rattle.sh_machine.specs.State.{User}
use Rattle.sh_machine.specs.Turn.{call_of, next_of}
use Rattle.kernel_model.specs.KernelState.{KernelState}
use Rattle.kernel_model.specs.Events.{run, IsFinished}
use Rattle.run_model.specs.ScriptRun.{script_kernel}
use Rattle.xvsh_read.specs.Path.{Path}
use Rattle.xvsh_read.specs.Starting.{Starts}
use Rattle.xvsh_runs.specs.declared.report.Run.{Run}

-- the events of the run lead from this kernel to a finished one, whose output, diagnostics and files are the run's, and in which
-- the same was full
pub record HasValues (start : KernelState User) (ran : Run) : Type 0 where
  pub last : KernelState User
  pub notes : List Bool
  pub runs : run call_of next_of (Some start) ran.recording.schedule notes ≡ Some last
  pub finished : IsFinished last
  pub out : ran.output.out ≡ last.out
  pub diag : ran.output.err.items ≡ last.diag
  pub files : ran.files ≡ last.files
  pub full : ran.full ≡ last.full

-- what follows is by what the host states of standard input, whether or not that was taken before, and of the files at paths, of the
-- script at a path under a profile and on the files at these paths
module _ (input : Option Bytes) (file : Path → Option Bytes) (is_taken : Bool) (profile : Profile) (script : Path) (paths : List (Bor Path)) where
  -- the values are those of a run of this script, and these of its lines are no command
  pub record RanValues (ran : Run) : Type 0 where
    pub lines : List ScriptLine
    pub given : List (Name × Bytes)
    pub stdin : Bytes
    pub starts : Starts input file is_taken script paths lines given stdin
    pub values : HasValues (script_kernel profile lines stdin given) ran
    pub bad : ran.bad.items ≡ bad_lines lines

  -- and these are the names of the files that are soft by its meaning, and the reasons why it isn't settled
  pub record RanJudged {A : _} (ran : Run) (soft : List Name) (reasons : List (Reason A)) : Type 0 where
    pub values : RanValues ran
    pub each : (name : Name) → Contains soft name ↔ ((script_meaning profile values.lines values.stdin (files values.given)).soft name ≡ true)
    pub why : AreReasons profile values.lines values.stdin (files values.given) reasons
