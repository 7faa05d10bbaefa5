use Rattle.std.proofs.Common.{sym, ap, subst}
use Rattle.proc_table.specs.Slots.{Slot, Process}
use Rattle.kernel_model.specs.KernelState.{fds_of}
use Rattle.order_search.specs.Shown.{slot_of, HasNoWriteEnd}
use Rattle.order_search.proofs.Looking.{free_writes_nowhere}
use Rattle.order_search.proofs.looks.writes_to.Goals as goal

pub returns-in-Some : goal.returns-in-Some
returns-in-Some g c = λ no.
    let S = g.row.M-State.Denot in
    let E = c.args.entries.now in
    let here : HasNoWriteEnd E c.args.pipe c.in-Some.held.value.fds = subst (λ (p : Process S). HasNoWriteEnd E c.args.pipe p.fds) c.deref.ensures (c.writes_to.ensures no) in
    subst (λ (x : Slot S). HasNoWriteEnd E c.args.pipe (fds_of x)) (sym (ap slot_of c.in-Some.is)) here

pub returns-in-None : goal.returns-in-None
returns-in-None g c = λ no.
    subst (λ (x : Slot g.row.M-State.Denot). HasNoWriteEnd c.args.entries.now c.args.pipe (fds_of x)) (sym (ap slot_of c.in-None.is)) (free_writes_nowhere c.args.entries.now c.args.pipe)
