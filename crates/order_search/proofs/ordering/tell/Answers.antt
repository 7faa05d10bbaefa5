use Rattle.std.proofs.Common.{List, Ok, ap, subst, map}
use Rattle.std.specs.Prelude.{All}
use Rattle.kernel_model.specs.Explored.{IsFinishedOrBusy}
use Rattle.order_search.specs.Led.{Led, kernel_of}
use Rattle.order_search.proofs.ordering.tell.Goals as goal

pub returns-clause-busy : goal.returns-clause-busy
returns-clause-busy g c = λ none. subst (λ (nodes : List (Led g.row.M-State.Denot)). All (IsFinishedOrBusy g.M.Machine.call_of g.M.Machine.next_of) (map kernel_of nodes)) c.deref-2.ensures.value (c.in_ok-stuck.ensures.busy (ap Ok none))
