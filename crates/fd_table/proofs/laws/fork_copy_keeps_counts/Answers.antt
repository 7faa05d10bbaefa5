use Rattle.fd_table.proofs.Counting.{fork_kept}
use Rattle.fd_table.proofs.laws.fork_copy_keeps_counts.Goals as goal

pub returns : goal.returns
returns c = fork_kept
