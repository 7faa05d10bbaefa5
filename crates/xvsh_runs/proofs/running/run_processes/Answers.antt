use Rattle.xvsh_read.proofs.Faults.{at_fault}
use Rattle.xvsh_runs.specs.Why.{bad_order, no_start}
use Rattle.xvsh_runs.proofs.Prepared.{prepared_ran, prepared_values, prepared_fault}
use Rattle.xvsh_runs.proofs.running.run_processes.Goals as goal

pub returns-in_err-order-clause-fault : goal.returns-in_err-order-clause-fault
returns-in_err-order-clause-fault g c =
    at_fault c.from_residual.result _ _ c.from_residual.ensures.1 (bad_order c.in_err-order.ensures)

pub returns-in_err-start-clause-fault : goal.returns-in_err-start-clause-fault
returns-in_err-start-clause-fault g c =
    at_fault c.from_residual-in_err-start.result _ _ c.from_residual-in_err-start.ensures.1 (no_start c.in_err-start.ensures.fault)

pub returns-clause-ran : goal.returns-clause-ran
returns-clause-ran g c =
    let start = c.in_ok-start.start in
    prepared_ran (g.H.Host.input c.args.host.now) (g.H.Host.file c.args.host.now) c.args.request.now.source.profile c.args.request.now.source.script.now c.args.request.now.source.files.now start c.in_ok-start.ensures.prepared c.in_ok-start.ensures.profile c.args.request.now c.run_prepared.result c.run_prepared.ensures.ran

pub returns-clause-fault : goal.returns-clause-fault
returns-clause-fault g c =
    let start = c.in_ok-start.start in
    prepared_fault (g.H.Host.input c.args.host.now) (g.H.Host.file c.args.host.now) c.args.request.now.source.profile c.args.request.now.source.script.now c.args.request.now.source.files.now start c.in_ok-start.ensures.prepared c.in_ok-start.ensures.profile c.args.request.now c.run_prepared.result c.run_prepared.ensures.fault

pub returns-clause-values : goal.returns-clause-values
returns-clause-values g c =
    let start = c.in_ok-start.start in
    prepared_values (g.H.Host.input c.args.host.now) (g.H.Host.file c.args.host.now) c.args.request.now.source.profile c.args.request.now.source.script.now c.args.request.now.source.files.now start c.in_ok-start.ensures.prepared c.in_ok-start.ensures.profile c.run_prepared.result c.run_prepared.ensures.values c.run_prepared.ensures.bad
