-- One slot becomes free.
use Rattle.proc_table.proofs.Counts.{wait_free, wait_states}
use Rattle.proc_table.proofs.laws.wait_counts.Goals as goal

pub returns-clause-free : goal.returns-clause-free
returns-clause-free g c = λ t pid child found. wait_free t pid child found

pub returns-clause-states : goal.returns-clause-states
returns-clause-states g c = λ test t pid child found. wait_states test t pid child found
