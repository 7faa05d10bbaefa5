use Rattle.std.specs.Prelude.{◌≡◌}
use Rattle.law_turns.proofs.last_closes.Turned.{plain_either, close_stays}
use Rattle.law_turns.proofs.last_closes.a_close_of_no_pipe_can_be_made_in_either_order.Goals as goal

pub returns-clause-either : goal.returns-clause-either
returns-clause-either g c = plain_either g.M.Machine.call_of g.M.Machine.next_of

pub returns-clause-stays : goal.returns-clause-stays
returns-clause-stays g c object = close_stays g.M.Machine.call_of g.M.Machine.next_of (λ o. o ≡ object)
