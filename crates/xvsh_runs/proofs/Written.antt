-- What is printed of the report of a finished run is what the run prints.
use Rattle.std.proofs.Common.{◌≡◌, Option, Some, ◌∙◌, ap, sym, subst}
use Rattle.mem_files.specs.Name.{Bytes}
use Rattle.sh_machine.specs.State.{User}
use Rattle.sh_machine.specs.Turn.{call_of, next_of}
use Rattle.kernel_model.specs.declared.events.Full.{Full}
use Rattle.kernel_model.specs.Events.{run}
use Rattle.kernel_model.specs.KernelState.{KernelState}
use Rattle.kernel_events.specs.declared.report.Report.{Report}
use Rattle.kernel_events.specs.Reports.{IsRunFrom}
use Rattle.xvsh_runs.specs.Lists.{Prints, run_text}
use Rattle.xvsh_runs.specs.declared.report.Lists.{Lists}
use Rattle.xvsh_runs.specs.declared.report.Run.{Run}
use Rattle.xvsh_runs.specs.Values.{HasValues}

pub prints_report : {A : _} (start : KernelState User) (report : Report A) (lists : Lists) (full : Option Full) (text diag : Bytes) → IsRunFrom start report → full ≡ report.full →
    text ≡ run_text lists report.out.items report.files report.schedule → diag ≡ report.diag.items →
    Prints start report.schedule lists full text diag
prints_report start report lists full text diag ran same printed told = record {
  last = ran.last;
  notes = ran.notes;
  runs = ran.runs;
  finished = ran.finished;
  marked = same ∙ ran.tells.full;
  prints = printed ∙ ap (λ out. run_text lists out report.files report.schedule) ran.tells.out ∙ ap (λ files. run_text lists ran.last.out files report.schedule) ran.tells.files;
  tells = told ∙ ran.tells.diag;
}

-- so are its values
pub values_report : {A : _} (start : KernelState User) (report : Report A) (ran : Run) → IsRunFrom start report → ran.recording.schedule ≡ report.schedule → ran.output.out ≡ report.out.items → ran.output.err.items ≡ report.diag.items → ran.files ≡ report.files → ran.full ≡ report.full →
    HasValues start ran
values_report start report ran is same out diag files full = record {
  last = is.last;
  notes = is.notes;
  runs = subst (λ events. run call_of next_of (Some start) events is.notes ≡ Some is.last) (sym same) is.runs;
  finished = is.finished;
  out = out ∙ is.tells.out;
  diag = diag ∙ is.tells.diag;
  files = files ∙ is.tells.files;
  full = full ∙ is.tells.full;
}
