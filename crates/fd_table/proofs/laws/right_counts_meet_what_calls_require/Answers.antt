use Rattle.fd_table.specs.declared.descriptors.TheConstants.{DESCRIPTORS}
use Rattle.fd_table.proofs.Counting.{in_use_if_counted, counts_few}
use Rattle.fd_table.proofs.Holding.{fit_if_few}
use Rattle.fd_table.proofs.laws.right_counts_meet_what_calls_require.Goals as goal

pub returns-clause-in_use : goal.returns-clause-in_use
returns-clause-in_use c = λ t fds before after. in_use_if_counted t before after fds

pub returns-clause-small : goal.returns-clause-small
returns-clause-small c = λ t tables. counts_few t DESCRIPTORS tables

pub returns-clause-fit : goal.returns-clause-fit
returns-clause-fit c = fit_if_few
