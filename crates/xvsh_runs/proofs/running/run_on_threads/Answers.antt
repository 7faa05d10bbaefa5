use Rattle.std.proofs.Common.{Err, ap, subst}
use Rattle.script_load.specs.Line.{lines_of}
use Rattle.kernel_events.specs.Reports.{IsRunFrom}
use Rattle.run_model.specs.ScriptRun.{IsSpentFrom, script_kernel}
use Rattle.xvsh_read.proofs.Faults.{at_fault}
use Rattle.xvsh_runs.specs.Kernels.{kernel_of}
use Rattle.xvsh_runs.proofs.Harts.{harts_fault}
use Rattle.xvsh_runs.proofs.running.run_on_threads.Goals as goal

pub returns-in_err-report-clause-fault : goal.returns-in_err-report-clause-fault
returns-in_err-report-clause-fault g c =
    let start = c.args.start.now in
    let why = c.in_err-report.ensures in
    at_fault c.from_residual.result _ _ c.from_residual.ensures.1 (harts_fault (kernel_of start) c.args.harts c.args.turns c.in_err-report.field-0.0 (λ is. why.bad_harts.0 (ap Err is)) (λ is. (why.bad_turns.0 (ap Err is)).1)
    (λ is. subst (λ stdin. IsSpentFrom (script_kernel start.script.profile (lines_of start.script.lines) stdin start.files) c.args.turns) c.as_slice.ensures.value (why.spent (ap Err is)).0))

pub returns-clause-run : goal.returns-clause-run
returns-clause-run g c =
    let start = c.args.start.now in
    subst (λ stdin. IsRunFrom (script_kernel start.script.profile (lines_of start.script.lines) stdin start.files) c.in_ok-report.report) c.as_slice.ensures.value c.in_ok-report.ensures.run
