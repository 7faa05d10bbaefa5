-- What a strict run reads, runs and refuses: a run by processes of a script of which it is known whether it is settled, and why it
-- isn't (own).
use Rattle.std.specs.Prelude.{◌↔◌, ℕ, Bool, true, false, IsTrue, List, Option}
use Rattle.std.specs.Borrow.{Bor}
use Rattle.mem_files.specs.Name.{Name, Bytes}
use Rattle.mem_files.specs.Files.{files}
use Rattle.script_load.specs.declared.profile.Profile.{Profile}
use Rattle.script_load.specs.Line.{ScriptLine}
use Rattle.meaning_model.specs.Settled.{IsSettledScript}
use Rattle.plain_run.specs.Reasons.{AreReasons}
use Rattle.plain_run.specs.declared.reason.Reason.{Reason}
use Rattle.kernel_model.specs.declared.events.Full.{Full}
use Rattle.xvsh_runs.specs.declared.request.RunRequest.{RunRequest}
use Rattle.xvsh_read.specs.declared.fault.Fault.{Fault}
use Rattle.xvsh_read.specs.Path.{Path}
use Rattle.xvsh_read.specs.Starting.{Starts}
use Rattle.xvsh_runs.specs.declared.fault.ProcessFault.{ProcessFault}
use Rattle.xvsh_runs.specs.declared.fault.ProcessFault.TheVariants.{Common}
use Rattle.xvsh_runs.specs.declared.report.Lists.{Lists}
use Rattle.xvsh_runs.specs.Runs.{RanRun}
use Rattle.xvsh_runs.specs.Why.{IsRunFault}
use Rattle.xvsh_plain.specs.Running.{IsMeaningFault}

-- what follows is by what the host states of standard input and of the files at paths, of the script at a path under a
-- profile and on the files at these paths, and of a run on so many harts, for which so many turns were asked, or none
module _ (input : Option Bytes) (file : Path → Option Bytes) (profile : Profile) (script : Path) (paths : List (Bor Path)) (harts : ℕ) (turns : Option ℕ) where
  -- a run prints this, and this is whether its script is settled on what it began with, and why it isn't
  pub record RanStrict {A : _} (lists : Lists) (full : Option Full) (is_settled : Bool) (reasons : List (Reason A)) (text diag : Bytes) : Type 0 where
    pub ran : RanRun input file profile script paths harts turns lists full text diag
    pub settled : IsTrue is_settled ↔ IsSettledScript profile ran.lines ran.stdin (files ran.given)
    pub why : AreReasons profile ran.lines ran.stdin (files ran.given) reasons

  -- why none does: it isn't known whether the script is settled, since its meaning passes a limit or is out of memory, or there is
  -- no run
  pub data IsStrictFault : ProcessFault → Type 0 where
    no_verdict : {fault : Fault} (lines : List ScriptLine) (given : List (Name × Bytes)) (stdin : Bytes) → Starts input file false script paths lines given stdin → IsMeaningFault profile lines stdin (files given) fault → IsStrictFault (Common fault)
    no_strict_run : {fault : ProcessFault} → IsRunFault input file profile script paths harts turns fault → IsStrictFault fault

-- a request was carried out strictly, and this was full and printed
abbrev pub DidStrict : {A : _} → Option Bytes → (Path → Option Bytes) → RunRequest → Option Full → Bool → List (Reason A) → Bytes → Bytes → Type 0
DidStrict input file request = RanStrict input file request.source.profile request.source.script.now request.source.files.now request.harts request.turns request.lists

-- why it wasn't
abbrev pub IsStrictRefusal : Option Bytes → (Path → Option Bytes) → RunRequest → ProcessFault → Type 0
IsStrictRefusal input file request = IsStrictFault input file request.source.profile request.source.script.now request.source.files.now request.harts request.turns
