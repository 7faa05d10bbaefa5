use Rattle.fd_table.proofs.Counting.{hold_kept}
use Rattle.fd_table.proofs.laws.hold_and_install_keep_counts.Goals as goal

pub returns : goal.returns
returns c = λ t e fds before after. hold_kept t before after fds e
