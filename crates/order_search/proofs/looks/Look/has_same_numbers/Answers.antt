use Rattle.std.proofs.Common.{◌≡◌, refl, sym, ap, ◌∙◌, map, rules}
use Rattle.proc_table.specs.Slots.{Table}
use Rattle.kernel_model.specs.KernelState.{KernelState}
use Rattle.kernel_model.specs.Woke.{woke_slot}
use Rattle.order_search.specs.Shown.{filled, slot_of}
use Rattle.order_search.proofs.Filling.{map_filled}
use Rattle.order_search.proofs.looks.Look.has_same_numbers.Goals as goal

pub returns-clause-slots : goal.returns-clause-slots
returns-clause-slots g c = λ _.
    let S = g.row.M-State.Denot in
    let mine = map (slot_of {S = S}) c.self.inside.slots.items in
    let its = map (slot_of {S = S}) c.other.inside.slots.items in
    let W : KernelState S → Table S = λ k. map woke_slot k.table in
    let awake : map woke_slot (map slot_of c.deref-3.result.now) ≡ map woke_slot (map slot_of c.deref-4.result.now) = search rules in
    let same : map woke_slot mine ≡ map woke_slot its = ap (λ (l : _). map woke_slot (map slot_of l)) (sym c.deref-3.ensures.value) ∙ awake ∙ ap (λ (l : _). map woke_slot (map slot_of l)) c.deref-4.ensures.value in
    ap W (sym c.self.view_is) ∙ map_filled woke_slot refl 64 mine ∙ ap (filled 64) same ∙ sym (map_filled woke_slot refl 64 its) ∙ ap W c.other.view_is
