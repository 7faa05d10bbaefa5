-- Where no head is Runnable, no slot is.
use Rattle.std.proofs.Common.{subst, ◌≡◌, false, ◌<◌, ℕ, length, get_or}
use Rattle.proc_table.specs.Slots.{Slot, is_runnable, is_runnable_status}
use Rattle.proc_table.proofs.Kept.{none_of_all, none_there}
use Rattle.proc_table.proofs.table.Procs.dispatch.Goals as goal

pub returns-in_default-clause-none : goal.returns-in_default-clause-none
returns-in_default-clause-none g c = λ _.
    let slots = c.self.inside.slots.items in
    subst (λ t. (k : ℕ) (d : Slot g.row.M-State.Denot) → k < length t → is_runnable (get_or t k d) ≡ false) c.self.view_is
    (none_of_all is_runnable_status slots (none_there is_runnable_status slots c.self.inside.heads c.self.invariant c.in_default.ensures.none))
