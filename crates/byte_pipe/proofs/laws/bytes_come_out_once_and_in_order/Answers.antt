use Rattle.byte_pipe.specs.PipeState.{new_pipe}
use Rattle.byte_pipe.proofs.Order.{order_law}
use Rattle.byte_pipe.proofs.laws.bytes_come_out_once_and_in_order.Goals as goal

pub returns-clause-any_pipe : goal.returns-clause-any_pipe
returns-clause-any_pipe c = order_law

pub returns-clause-new_pipe : goal.returns-clause-new_pipe
returns-clause-new_pipe c = order_law new_pipe
