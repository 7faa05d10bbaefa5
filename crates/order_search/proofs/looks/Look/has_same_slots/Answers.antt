use Rattle.std.proofs.Common.{◌≡◌, sym, ap, subst, ◌∙◌, map}
use Rattle.proc_table.specs.Slots.{Table}
use Rattle.kernel_model.specs.KernelState.{KernelState}
use Rattle.kernel_model.specs.Anyhow.{bare_table}
use Rattle.order_search.specs.Shown.{slot_of, AreApart}
use Rattle.order_search.proofs.Looking.{apart_tables}
use Rattle.order_search.proofs.looks.Look.has_same_slots.Goals as goal

pub returns : goal.returns
returns g c = λ differ same.
    let S = g.row.M-State.Denot in
    let mine : map slot_of c.deref.result.now ≡ map slot_of c.self.inside.slots.items = ap (map slot_of) c.deref.ensures.value in
    let its : map slot_of c.deref-2.result.now ≡ map slot_of c.other.inside.slots.items = ap (map slot_of) c.deref-2.ensures.value in
    let B : KernelState S → Table S = λ k. bare_table k.table in
    apart_tables _ _ (subst (λ (t : Table S). AreApart t (map slot_of c.other.inside.slots.items)) mine (subst (λ (t : Table S). AreApart (map slot_of c.deref.result.now) t) its (c.same_slots.ensures differ)))
    (ap B c.self.view_is ∙ same ∙ ap B (sym c.other.view_is))
