use Rattle.std.proofs.Common.{false}
use Rattle.xvsh_ends.specs.Ends.{ran, no_run}
use Rattle.xvsh_ends.specs.Requests.{run_asked}
use Rattle.xvsh_ends.proofs.processes.processes_ending.Goals as goal

pub returns-in-Ok : goal.returns-in-Ok
returns-in-Ok g c =
    let run = c.in-Ok.run' in
    c.print_run.ensures (g.H.Host.input c.args.host.now) (g.H.Host.file c.args.host.now) (run_asked false c.args.request.now) (ran run.output.err.items run.full c.in-Ok.ensures.ran)

pub returns-in-Err : goal.returns-in-Err
returns-in-Err g c = c.print_fault.ensures (g.H.Host.input c.args.host.now) (g.H.Host.file c.args.host.now) (run_asked false c.args.request.now) (no_run c.in-Err.fault c.in-Err.ensures.fault)
