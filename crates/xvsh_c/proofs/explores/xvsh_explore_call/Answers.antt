use Rattle.std.proofs.Common.{Bool, inl, subst}
use Rattle.embed.specs.Explores.{IsExploreAnswer}
use Rattle.xvsh_c.proofs.explores.xvsh_explore_call.Goals as goal

pub returns-in-Ok : goal.returns-in-Ok
returns-in-Ok c = inl (c.in-Ok.answered, subst (λ (on : Bool). IsExploreAnswer c.args.task.now c.args.states on c.in-Ok.answered) c.is_on.ensures c.in-Ok.ensures.found, c.put_explored.ensures)
