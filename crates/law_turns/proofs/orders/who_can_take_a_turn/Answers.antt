use Rattle.law_turns.proofs.orders.Back.{can_turn, could_turn}
use Rattle.law_turns.proofs.orders.who_can_take_a_turn.Goals as goal

pub returns : goal.returns
returns g c = λ k t still. (can_turn g.M.Machine.call_of g.M.Machine.next_of k t still, could_turn g.M.Machine.call_of g.M.Machine.next_of k t)
