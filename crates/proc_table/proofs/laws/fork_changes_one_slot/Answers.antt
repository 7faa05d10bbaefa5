-- The child is where a slot was free.
use Rattle.std.specs.Prelude.{Some}
use Rattle.proc_table.specs.Calls.{newborn}
use Rattle.proc_table.proofs.Changes.{was_free, child_is, kept}
use Rattle.proc_table.proofs.laws.fork_changes_one_slot.Goals as goal

pub returns-clause-was_free : goal.returns-clause-was_free
returns-clause-was_free g c = λ t child found. was_free t child found

pub returns-clause-child : goal.returns-clause-child
returns-clause-child g c = λ t child parent machine fds found. child_is t child parent machine fds found

pub returns-clause-others : goal.returns-clause-others
returns-clause-others g c = λ t child parent other machine fds ne. kept t child other (Some (newborn parent machine fds)) ne
