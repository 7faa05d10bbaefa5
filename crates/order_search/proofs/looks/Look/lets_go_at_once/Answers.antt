use Rattle.std.proofs.Common.{◌≡◌, ◌<◌, length, ap, sym, subst, ◌∙◌, rules}
use Rattle.fd_table.specs.Descriptors.{Descriptors}
use Rattle.proc_table.specs.Slots.{Process, at}
use Rattle.kernel_model.specs.KernelState.{KernelState, fds_of, fds_at}
use Rattle.order_search.specs.Giving.{AreClosedAtOnce}
use Rattle.order_search.specs.Shown.{slot_of}
use Rattle.order_search.proofs.Looking.{at_kept}
use Rattle.order_search.proofs.looks.Look.lets_go_at_once.Goals as goal

pub returns-in-Some : goal.returns-in-Some
returns-in-Some g c = λ yes.
    let S = g.row.M-State.Denot in
    let k = c.args.self.now in
    let pid = c.args.pid in
    let xs = c.self.inside.slots.items in
    let within : pid < length xs = search rules in
    let there : at k.table pid ≡ slot_of c.index.result.now = ap (λ (j : KernelState S). at j.table pid) (sym c.self.view_is) ∙ at_kept xs pid c.index.result.now within ∙ ap slot_of (sym c.index.ensures) in
    let F : Process S → Descriptors = λ p. p.fds in
    let fds : fds_at k pid ≡ c.deref-in-Some.result.now = ap fds_of (there ∙ ap slot_of c.in-Some.is) ∙ ap F (sym c.deref.ensures) ∙ ap F (sym c.behind-held.view_is) ∙ sym c.deref-in-Some.ensures.value in
    subst (λ (f : Descriptors). AreClosedAtOnce k pid f) (sym fds) (c.are_closed_at_once.ensures yes)
