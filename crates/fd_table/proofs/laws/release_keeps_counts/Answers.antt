use Rattle.fd_table.proofs.Counting.{release_kept}
use Rattle.fd_table.proofs.laws.release_keeps_counts.Goals as goal

pub returns : goal.returns
returns c = λ t fd e fds before after. release_kept t before after fds fd e
