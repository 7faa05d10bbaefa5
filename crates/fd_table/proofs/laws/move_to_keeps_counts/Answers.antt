use Rattle.fd_table.proofs.Counting.{move_kept}
use Rattle.fd_table.proofs.laws.move_to_keeps_counts.Goals as goal

pub returns : goal.returns
returns c = move_kept
