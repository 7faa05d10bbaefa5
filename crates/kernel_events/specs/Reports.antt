-- What a report states of a run.
use Rattle.std.specs.Prelude.{◌≡◌, ◌↔◌, IsTrue, Bool, List, Some}
use Rattle.user_calls.specs.declared.calls.Call.{Call}
use Rattle.user_calls.specs.declared.calls.Reply.{Reply}
use Rattle.sh_machine.specs.State.{User}
use Rattle.sh_machine.specs.Turn.{call_of, next_of}
use Rattle.kernel_model.specs.KernelState.{KernelState}
use Rattle.kernel_model.specs.Events.{run, IsFinished}
use Rattle.kernel_events.specs.declared.report.Report.{Report}
use Rattle.kernel_events.specs.Harts.{AreCounts}

-- the report is of this kernel, to which its schedule led
pub record Tells {A : _} {S : Type 0} (k : KernelState S) (report : Report A) : Type 0 where
  pub out : report.out.items ≡ k.out
  pub diag : report.diag.items ≡ k.diag
  pub files : report.files ≡ k.files
  pub full : report.full ≡ k.full
  pub finished : IsTrue report.finished ↔ IsFinished k
  pub by_hart : AreCounts report.by_hart report.schedule

-- the report is that of a finished run from this kernel, by its schedule and a note beside each event whether memory was refused
pub record IsReport {A : _} {S : Type 0} (call : S → Reply → Call) (next : S → Reply → S) (start : KernelState S) (report : Report A) : Type 0 where
  pub last : KernelState S
  pub notes : List Bool
  pub runs : run call next (Some start) report.schedule notes ≡ Some last
  pub finished : IsFinished last
  pub tells : Tells last report

-- the report is that of a finished run of a script from this kernel
abbrev pub IsRunFrom : {A : _} → KernelState User → Report A → Type 0
IsRunFrom start report = IsReport call_of next_of start report
