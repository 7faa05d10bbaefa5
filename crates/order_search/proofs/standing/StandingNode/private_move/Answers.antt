use Rattle.std.proofs.Common.{subst}
use Rattle.kernel_model.specs.Giving.{GivesWay}
use Rattle.order_search.specs.Led.{Led}
use Rattle.order_search.specs.Giving.{IsGiving}
use Rattle.order_search.proofs.Leading.{key_gives, ahead_led}
use Rattle.order_search.proofs.Looking.{if_some_more}
use Rattle.order_search.proofs.standing.StandingNode.private_move.Goals as goal

pub returns-else-self : goal.returns-else-self
returns-else-self g c =
    let S = g.row.M-State.Denot in
    let of = g.M.Machine.call_of in
    let on = g.M.Machine.next_of in
    let k = c.self.inside.kernel.value in
    let look = c.self.inside.look in
    let ahead = c.self.inside.origin.now.ahead in
    if_some_more c.giving_pid.result (IsGiving of on ahead look) (GivesWay of on c.args.self.now.now)
    (λ pid e. subst (λ (n : Led S). GivesWay of on n.now pid) c.self.view_is
    (key_gives of on k look ahead pid c.self.invariant.look c.self.invariant.idle (ahead_led of on _ k c.self.inside.pids.items ahead c.self.invariant.room c.self.invariant.turns) e)) c.giving_pid.ensures
