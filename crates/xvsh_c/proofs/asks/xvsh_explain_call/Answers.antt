use Rattle.std.proofs.Common.{inl}
use Rattle.xvsh_c.proofs.asks.xvsh_explain_call.Goals as goal

pub returns-in-Ok : goal.returns-in-Ok
returns-in-Ok c = inl (c.in-Ok.answered, c.in-Ok.ensures.told, c.put_asked.ensures)
