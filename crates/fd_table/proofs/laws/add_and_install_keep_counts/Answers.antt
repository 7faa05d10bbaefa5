use Rattle.fd_table.proofs.Counting.{add_kept}
use Rattle.fd_table.proofs.laws.add_and_install_keep_counts.Goals as goal

pub returns : goal.returns
returns c = λ t e object fds before after. add_kept t before after fds e object
