use Rattle.std.proofs.Common.{inl, inr, subst}
use Rattle.kernel_model.specs.Events.{IsFinished}
use Rattle.kernel_model.specs.Explored.{IsFinishedOrBusy}
use Rattle.order_search.specs.Led.{Led}
use Rattle.order_search.proofs.Leading.{key_finished}
use Rattle.order_search.proofs.standing.Standing.is_stuck.Goals as goal

pub returns-then-is_finished : goal.returns-then-is_finished
returns-then-is_finished g c = λ is.
    let k = c.self.inside.kernel.value in
    let over : IsFinished c.self.inside.look = c.is_finished.ensures.0 c.if-is_finished.true in
    subst (λ (n : Led g.row.M-State.Denot). IsFinishedOrBusy g.M.Machine.call_of g.M.Machine.next_of n.now) c.self.view_is (inl (key_finished k c.self.inside.look c.self.invariant.look over))

pub returns-then-self : goal.returns-then-self
returns-then-self g c = λ _. subst (λ (n : Led g.row.M-State.Denot). IsFinishedOrBusy g.M.Machine.call_of g.M.Machine.next_of n.now) c.self.view_is (inr (c.self.invariant.busy c.if-self.true))
