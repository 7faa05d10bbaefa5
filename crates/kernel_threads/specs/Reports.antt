-- Reports of runs that may not be finished, from a start that is named by its number.
use Rattle.std.specs.Prelude.{◌≡◌, ℕ, Bool, List, Some}
use Rattle.std.specs.Coded.{Coded}
use base.Stored.{Gv}
use Rattle.user_calls.specs.declared.calls.Call.{Call}
use Rattle.user_calls.specs.declared.calls.Reply.{Reply}
use Rattle.kernel_model.specs.KernelState.{KernelState}
use Rattle.kernel_model.specs.Events.{run}
use Rattle.kernel_events.specs.declared.report.Report.{Report}
use Rattle.kernel_events.specs.Reports.{IsReport, Tells}
use Rattle.run_model.specs.Turns.{RunsOutOfTurns}
use Rattle.kernel_threads.specs.Boots.{number_of}

module _ {S : Type 0} (code : Coded S) (call : S → Reply → Call) (next : S → Reply → S) where
  -- the report is that of a run from this kernel, finished or not, by its schedule and a note beside each event whether
  -- memory was refused
  pub record IsReportSoFar {A : _} (start : KernelState S) (report : Report A) : Type 0 where
    pub last : KernelState S
    pub notes : List Bool
    pub runs : run call next (Some start) report.schedule notes ≡ Some last
    pub tells : Tells last report

  -- the same of the kernel with this number
  abbrev pub IsSoFarFrom : {A : _} → Gv → Report A → Type 0
  IsSoFarFrom boot report = (start : KernelState S) → number_of code start ≡ boot → IsReportSoFar start report

  -- the report is that of a finished run from the kernel with this number
  abbrev pub IsFinishedFrom : {A : _} → Gv → Report A → Type 0
  IsFinishedFrom boot report = (start : KernelState S) → number_of code start ≡ boot → IsReport call next start report

  -- some run from the kernel with this number spends so many turns, and leaves fewer than two of them
  abbrev pub IsSpentAfter : Gv → ℕ → Type 0
  IsSpentAfter boot turns = (start : KernelState S) → number_of code start ≡ boot → RunsOutOfTurns call next start turns
