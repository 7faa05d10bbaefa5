use Rattle.fd_table.proofs.Counting.{advance_kept}
use Rattle.fd_table.proofs.laws.advance_keeps_counts.Goals as goal

pub returns : goal.returns
returns c = advance_kept
