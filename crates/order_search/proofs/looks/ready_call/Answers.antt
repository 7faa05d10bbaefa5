use Rattle.std.proofs.Common.{Some, sym, ap, subst}
use Rattle.proc_table.specs.Slots.{Slot, Process}
use Rattle.order_search.specs.Shown.{slot_of, IsReadyCall}
use Rattle.order_search.proofs.looks.ready_call.Goals as goal

pub returns-in-Some : goal.returns-in-Some
returns-in-Some g c =
    let S = g.row.M-State.Denot in
    let here : IsReadyCall g.M.Machine.call_of (Some c.in-Some.held.value) c.ready_call.result = subst (λ (p : Process S). IsReadyCall g.M.Machine.call_of (Some p) c.ready_call.result) c.deref.ensures c.ready_call.ensures in
    subst (λ (x : Slot S). IsReadyCall g.M.Machine.call_of x c.ready_call.result) (sym (ap slot_of c.in-Some.is)) here
