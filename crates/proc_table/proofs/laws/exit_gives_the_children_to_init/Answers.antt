-- By the parents after the exit.
use Rattle.std.proofs.Common.{◌∙◌}
use Rattle.proc_table.specs.Slots.{at}
use Rattle.proc_table.proofs.Changes.{exit_child, gone_after, init_after, others_after}
use Rattle.proc_table.proofs.laws.exit_gives_the_children_to_init.Goals as goal

pub returns-clause-gone : goal.returns-clause-gone
returns-clause-gone g c = λ t pid slot ne. exit_child t pid pid slot ∙ gone_after pid (at t slot) ne

pub returns-clause-init : goal.returns-clause-init
returns-clause-init g c = λ t pid slot. exit_child t pid 0 slot ∙ init_after pid (at t slot)

pub returns-clause-others : goal.returns-clause-others
returns-clause-others g c = λ t pid p slot ne some. exit_child t pid p slot ∙ others_after pid p (at t slot) ne some
