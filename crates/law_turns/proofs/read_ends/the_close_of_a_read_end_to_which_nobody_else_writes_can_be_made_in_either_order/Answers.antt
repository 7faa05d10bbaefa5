use Rattle.law_turns.proofs.read_ends.Turned.{nobody_stays, reader_either}
use Rattle.law_turns.proofs.read_ends.the_close_of_a_read_end_to_which_nobody_else_writes_can_be_made_in_either_order.Goals as goal

pub returns-clause-either : goal.returns-clause-either
returns-clause-either g c = λ k a l p q pipe still agree fresh e nobody other first second. reader_either g.M.Machine.call_of g.M.Machine.next_of k p q pipe still agree fresh e nobody other l second a first

pub returns-clause-stays : goal.returns-clause-stays
returns-clause-stays g c = λ k l p q pipe still agree fresh e nobody other second. nobody_stays g.M.Machine.call_of g.M.Machine.next_of k p q pipe still agree fresh e nobody other l second
