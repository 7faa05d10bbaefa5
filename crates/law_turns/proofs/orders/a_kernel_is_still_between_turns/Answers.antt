use Rattle.law_turns.proofs.orders.Back.{matched}
use Rattle.law_turns.proofs.orders.Booted.{alike_itself, boot_still}
use Rattle.law_turns.proofs.orders.a_kernel_is_still_between_turns.Goals as goal

pub returns-clause-start : goal.returns-clause-start
returns-clause-start g c = boot_still

pub returns-clause-later : goal.returns-clause-later
returns-clause-later g c = λ k m ts still is. (matched g.M.Machine.call_of g.M.Machine.next_of k k m ts is (alike_itself k) still still).still_too
