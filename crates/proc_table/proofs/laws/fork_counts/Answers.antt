-- One free slot gets a process.
use Rattle.proc_table.proofs.Counts.{fork_free, fork_states}
use Rattle.proc_table.proofs.laws.fork_counts.Goals as goal

pub returns-clause-free : goal.returns-clause-free
returns-clause-free g c = λ t child parent machine fds found. fork_free t child parent machine fds found

pub returns-clause-states : goal.returns-clause-states
returns-clause-states g c = λ test t child parent machine fds found. fork_states test t child parent machine fds found
