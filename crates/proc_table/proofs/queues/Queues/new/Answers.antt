-- No process, and empty lists.
use Rattle.proc_table.proofs.Queueing.{none_queued}
use Rattle.proc_table.proofs.queues.Queues.new.Goals as goal

pub invariant_of-result : goal.invariant_of-result
invariant_of-result c = c.all_on_the_first.ensures

pub returns : goal.returns
returns c = none_queued (record { lists = c.new.result; channels = c.new-2.result; last = c.all_on_the_first.result }) c.new.ensures c.new-2.ensures
