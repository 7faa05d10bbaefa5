use Rattle.xvsh_read.specs.Writing.{out_text}
use Rattle.xvsh_read.proofs.Faults.{at_fault}
use Rattle.xvsh_runs.specs.Kernels.{kernel_of}
use Rattle.xvsh_runs.specs.Why.{no_memory}
use Rattle.xvsh_runs.proofs.Written.{prints_report, values_report}
use Rattle.xvsh_runs.proofs.running.run_prepared.Goals as goal

pub returns-in_err-report-clause-fault : goal.returns-in_err-report-clause-fault
returns-in_err-report-clause-fault g c =
    at_fault c.from_residual.result _ _ c.from_residual.ensures.1 (record { limit = c.limit_of.result; limited = c.limit_of.ensures; why = c.in_err-report.ensures.fault })

pub returns-in_err-run-clause-fault : goal.returns-in_err-run-clause-fault
returns-in_err-run-clause-fault g c =
    at_fault c.from_residual-in_err-run.result _ _ c.from_residual-in_err-run.ensures.1 (record { limit = c.limit_of.result; limited = c.limit_of.ensures; why = no_memory })

pub returns-clause-ran : goal.returns-clause-ran
returns-clause-ran g c =
    let report = c.in_ok-report.report in
    let run = c.in_ok-run.run' in
    record {
      limit = c.limit_of.result;
      limited = c.limit_of.ensures;
      on = record {
        events = report.schedule;
        of_harts = c.in_ok-report.ensures.harts;
        within = c.in_ok-report.ensures.turns;
        prints = prints_report (kernel_of c.args.start) report c.args.request.now.lists run.full (out_text run.output) run.output.err.items c.in_ok-report.ensures.run c.in_ok-run.ensures.full c.in_ok-run.ensures.out c.in_ok-run.ensures.err;
      };
    }

pub returns-clause-values : goal.returns-clause-values
returns-clause-values g c =
    let run = c.in_ok-run.ensures in
    values_report (kernel_of c.args.start) c.in_ok-report.report c.in_ok-run.run' c.in_ok-report.ensures.run run.schedule run.written run.err run.files run.full
