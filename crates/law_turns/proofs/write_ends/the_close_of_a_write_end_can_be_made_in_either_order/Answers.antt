use Rattle.law_turns.proofs.write_ends.Writing.{empty_read, writer_either}
use Rattle.law_turns.proofs.write_ends.the_close_of_a_write_end_can_be_made_in_either_order.Goals as goal

pub returns-clause-either : goal.returns-clause-either
returns-clause-either g c = writer_either g.M.Machine.call_of g.M.Machine.next_of

pub returns-clause-empty : goal.returns-clause-empty
returns-clause-empty g c = empty_read g.M.Machine.call_of g.M.Machine.next_of
