use Rattle.xvsh_c.specs.LookCalls.{traced, failed}
use Rattle.xvsh_c.proofs.looks.xvsh_trace_call.Goals as goal

pub returns-in-Ok : goal.returns-in-Ok
returns-in-Ok c = traced c.in-Ok.answered c.in-Ok.ensures.ran c.put_trace.ensures

pub returns-in-Err : goal.returns-in-Err
returns-in-Err c = failed c.in-Err.fault c.in-Err.ensures.fault c.put_fault-in-Err.ensures
