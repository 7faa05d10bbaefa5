use Rattle.xvsh_c.specs.RunCalls.{ran, failed}
use Rattle.xvsh_c.proofs.runs.xvsh_run_call.Goals as goal

pub returns-in-Ok : goal.returns-in-Ok
returns-in-Ok c = ran c.in-Ok.answered c.in-Ok.ensures.ran c.put_run.ensures

pub returns-in-Err : goal.returns-in-Err
returns-in-Err c = failed c.in-Err.fault c.in-Err.ensures.fault c.put_fault-in-Err.ensures
