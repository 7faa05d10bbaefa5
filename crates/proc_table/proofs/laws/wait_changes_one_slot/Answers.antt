-- The slot that is found becomes free.
use Rattle.proc_table.proofs.Changes.{was_zombie_child, reaped_is_free, reaped_others, reaped_nothing, caller_stays}
use Rattle.proc_table.proofs.laws.wait_changes_one_slot.Goals as goal

pub returns-clause-was_zombie : goal.returns-clause-was_zombie
returns-clause-was_zombie g c = λ t pid child found. (was_zombie_child t pid child found).1

pub returns-clause-slot : goal.returns-clause-slot
returns-clause-slot g c = λ t pid child found. reaped_is_free t pid child found

pub returns-clause-others : goal.returns-clause-others
returns-clause-others g c = λ t pid child other found ne. reaped_others t pid child other found ne

pub returns-clause-same : goal.returns-clause-same
returns-clause-same g c = λ t pid none. reaped_nothing t pid none

pub returns-clause-caller : goal.returns-clause-caller
returns-clause-caller g c = λ t pid live. caller_stays t pid live
