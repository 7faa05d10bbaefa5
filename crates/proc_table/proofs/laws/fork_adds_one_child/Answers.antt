-- By the slots.
use Rattle.std.proofs.Common.{ap}
use Rattle.std.specs.Prelude.{Some}
use Rattle.proc_table.specs.Slots.{is_child_of}
use Rattle.proc_table.specs.Calls.{newborn}
use Rattle.proc_table.proofs.Changes.{child_is, kept}
use Rattle.proc_table.proofs.laws.fork_adds_one_child.Goals as goal

pub returns-clause-child : goal.returns-clause-child
returns-clause-child g c = λ t child parent p machine fds found. ap (is_child_of p) (child_is t child parent machine fds found)

pub returns-clause-others : goal.returns-clause-others
returns-clause-others g c = λ t child parent p other machine fds ne. ap (is_child_of p) (kept t child other (Some (newborn parent machine fds)) ne)
