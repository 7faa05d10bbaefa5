use Rattle.fd_table.specs.declared.entries.TheConstants.{ENTRIES}
use Rattle.fd_table.specs.declared.descriptors.TheConstants.{DESCRIPTORS}
use Rattle.fd_table.proofs.Counting.{new_counted, order_kept, closed_table_counted, closed_table_not_counted}
use Rattle.fd_table.proofs.laws.counts_begin_right.Goals as goal

pub returns-clause-new : goal.returns-clause-new
returns-clause-new c = new_counted ENTRIES

pub returns-clause-closed_table : goal.returns-clause-closed_table
returns-clause-closed_table c = λ t before after.
    (closed_table_counted t DESCRIPTORS before after, closed_table_not_counted t DESCRIPTORS before after)

pub returns-clause-order : goal.returns-clause-order
returns-clause-order c = order_kept
