use Rattle.std.proofs.Common.{◌≡◌, sym, ap, subst, ◌∙◌, rules}
use Rattle.proc_table.specs.declared.states.Status.TheVariants.{Runnable}
use Rattle.proc_table.specs.Slots.{Process}
use Rattle.order_search.specs.Shown.{IsNextCall}
use Rattle.order_search.proofs.Looking.{ready_known}
use Rattle.order_search.proofs.kept.Held.ready_call.Goals as goal

pub returns-then-eq : goal.returns-then-eq
returns-then-eq g c =
    let call = g.M.Machine.call_of in
    let status : c.self.inside.status ≡ Runnable = search rules in
    ready_known call c.args.self.now c.self.inside.next (ap (λ (p : Process g.row.M-State.Denot). p.status) (sym c.self.view_is) ∙ status)
    (subst (λ (p : Process g.row.M-State.Denot). IsNextCall p.fds (call p.machine p.reply) c.self.inside.next) c.self.view_is c.self.invariant)
