use Rattle.byte_pipe.proofs.Within.{within_law}
use Rattle.byte_pipe.proofs.laws.a_pipe_stays_within_its_size.Goals as goal

pub returns : goal.returns
returns c = within_law
