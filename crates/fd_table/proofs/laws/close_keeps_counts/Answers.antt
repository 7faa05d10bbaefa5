use Rattle.fd_table.proofs.Counting.{close_kept}
use Rattle.fd_table.proofs.laws.close_keeps_counts.Goals as goal

pub returns : goal.returns
returns c = λ t fd fds before after. close_kept t before after fds fd
