use Rattle.std.proofs.Common.{Bool, inl, subst}
use Rattle.embed.specs.Tells.{IsTurnsAnswer}
use Rattle.xvsh_c.proofs.objects.xvsh_check_turns_call.Goals as goal

pub returns-in-Ok : goal.returns-in-Ok
returns-in-Ok c = inl (c.in-Ok.answered, subst (λ (on : Bool). IsTurnsAnswer c.args.task.now on c.in-Ok.answered) c.is_on.ensures c.in-Ok.ensures.told, c.put_object.ensures)
