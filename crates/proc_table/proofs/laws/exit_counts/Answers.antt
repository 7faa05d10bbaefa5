-- The burial, and then wake-ups, which the test doesn't see; and what these make Runnable.
use Rattle.proc_table.proofs.Counts.{exit_counts_by, exit_free, exit_runnable, exit_asleep}
use Rattle.proc_table.proofs.laws.exit_counts.Goals as goal

pub returns-clause-states : goal.returns-clause-states
returns-clause-states g c = λ test t pid p same is. exit_counts_by test same t pid p is

pub returns-clause-free : goal.returns-clause-free
returns-clause-free g c = λ t pid. exit_free t pid

pub returns-clause-runnable : goal.returns-clause-runnable
returns-clause-runnable g c = λ t pid runs. exit_runnable t pid runs

pub returns-clause-asleep : goal.returns-clause-asleep
returns-clause-asleep g c = λ t pid runs. exit_asleep t pid runs
