use Rattle.fd_table.proofs.Counting.{last_gives}
use Rattle.fd_table.proofs.laws.the_last_holder_gets_the_object.Goals as goal

pub returns : goal.returns
returns c = λ t fd e fds before after. last_gives t before after fds fd e
