use Rattle.fd_table.proofs.Counting.{dup_kept}
use Rattle.fd_table.proofs.laws.dup_keeps_counts.Goals as goal

pub returns : goal.returns
returns c = λ t fd fds before after. dup_kept t before after fds fd
