use Rattle.std.proofs.Common.{inl}
use Rattle.xvsh_c.proofs.runs.xvsh_replay_call.Goals as goal

pub returns-in-Ok : goal.returns-in-Ok
returns-in-Ok c = inl (c.in-Ok.answered, c.in-Ok.ensures.ran, c.put_run.ensures)
