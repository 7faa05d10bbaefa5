use Rattle.std.proofs.Common.{Bool, inl, subst}
use Rattle.embed.specs.Asks.{IsCheckAnswer}
use Rattle.xvsh_c.proofs.asks.xvsh_check_call.Goals as goal

pub returns-in-Ok : goal.returns-in-Ok
returns-in-Ok c = inl (c.in-Ok.answered, subst (λ (on : Bool). IsCheckAnswer c.args.task.now on c.in-Ok.answered) c.is_on.ensures c.in-Ok.ensures.told, c.put_asked.ensures)
