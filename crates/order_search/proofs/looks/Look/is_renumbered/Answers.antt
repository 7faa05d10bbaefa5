use Rattle.std.proofs.Common.{◌≡◌, ℕ, refl, sym, ap, ◌∙◌, map, rules}
use Rattle.fd_table.specs.Entries.{Entries, entry_at}
use Rattle.proc_table.specs.Slots.{Table}
use Rattle.kernel_model.specs.KernelState.{KernelState}
use Rattle.kernel_model.specs.Woke.{woke_slot}
use Rattle.kernel_model.specs.Numbers.{renumbered_slot, renumbered_table}
use Rattle.order_search.specs.Shown.{filled, slot_of}
use Rattle.order_search.specs.Under.{number_under, GoBack}
use Rattle.order_search.proofs.Filling.{at_filled, map_filled}
use Rattle.order_search.proofs.Renumbered.{parts_by}
use Rattle.order_search.proofs.looks.Look.is_renumbered.Goals as goal

pub returns : goal.returns
returns g c = λ is.
    let S = g.row.M-State.Denot in
    let to = c.between-numbers.result.to in
    let back = c.between-numbers.result.back in
    let k : KernelState S = c.args.self.now in
    let l : KernelState S = c.args.other.now in
    let mine : Table S = map slot_of c.self.inside.slots.items in
    let its : Table S = map slot_of c.other.inside.slots.items in
    let W : KernelState S → Table S = λ j. map woke_slot j.table in
    let E : (e : ℕ) → entry_at c.deref-6.result.now e ≡ entry_at k.entries e = λ e.
    ap (λ (t : Entries). entry_at t e) c.deref-6.ensures.value ∙ sym (at_filled 100 c.behind-self.inside.slots.items e) ∙ ap (λ (t : Entries). entry_at t e) (c.behind-self.view_is ∙ c.deref-5.ensures ∙ ap (λ (j : KernelState S). j.entries) c.self.view_is) in
    let F : (e : ℕ) → entry_at c.deref-8.result.now e ≡ entry_at l.entries e = λ e.
    ap (λ (t : Entries). entry_at t e) c.deref-8.ensures.value ∙ sym (at_filled 100 c.behind-other.inside.slots.items e) ∙ ap (λ (t : Entries). entry_at t e) (c.behind-other.view_is ∙ c.deref-7.ensures ∙ ap (λ (j : KernelState S). j.entries) c.other.view_is) in
    let kept : renumbered_table (number_under to) (map woke_slot (map slot_of c.deref-3.result.now)) ≡ map woke_slot (map slot_of c.deref-4.result.now) = search rules in
    let slots : renumbered_table (number_under to) (map woke_slot mine) ≡ map woke_slot its =
    ap (λ (xs : _). renumbered_table (number_under to) (map woke_slot (map slot_of xs))) (sym c.deref-3.ensures.value) ∙ kept ∙ ap (λ (xs : _). map woke_slot (map slot_of xs)) c.deref-4.ensures.value in
    let tables : renumbered_table (number_under to) (W k) ≡ W l =
    ap (λ (j : KernelState S). renumbered_table (number_under to) (W j)) (sym c.self.view_is)
    ∙ ap (renumbered_table (number_under to)) (map_filled woke_slot refl 64 mine) ∙ map_filled (renumbered_slot (number_under to)) refl 64 (map woke_slot mine) ∙ ap (filled 64) slots
    ∙ sym (map_filled woke_slot refl 64 its) ∙ ap W c.other.view_is in
    let entries : (e : ℕ) → entry_at c.deref-8.result.now (number_under to e) ≡ entry_at c.deref-6.result.now e = search rules in
    let there : GoBack to back = search rules in
    let here : GoBack back to = search rules in
    parts_by to back (W k) (W l) k.entries l.entries there here tables (λ e. sym (F (number_under to e)) ∙ entries e ∙ E e) (sym (c.has_as_many_free.ensures is))
