-- By the slots.
use Rattle.std.proofs.Common.{ap}
use Rattle.proc_table.specs.Slots.{is_child_of}
use Rattle.proc_table.proofs.Changes.{reaped_is_free, reaped_others}
use Rattle.proc_table.proofs.laws.wait_takes_one_child.Goals as goal

pub returns-clause-child : goal.returns-clause-child
returns-clause-child g c = λ t pid child p found. ap (is_child_of p) (reaped_is_free t pid child found)

pub returns-clause-others : goal.returns-clause-others
returns-clause-others g c = λ t pid child p other found ne. ap (is_child_of p) (reaped_others t pid child other found ne)
