-- So many slots are free.
use Rattle.std.proofs.Common.{◌≡◌, None, true, false, ap, subst, sym, ◌∙◌, arith}
use Rattle.std.proofs.lemmas.Bool.{eq-eqb, eqb-true}
use Rattle.std.proofs.lemmas.List.{get_or_default}
use Rattle.std.specs.Prelude.{IsTrue, ◌↔◌, count_by, nat_eq}
use Rattle.proc_table.specs.Slots.{IsAlone, at, is_free}
use Rattle.proc_table.specs.Heads.{head_is_free}
use Rattle.proc_table.proofs.Alone.{alone_with_init, alone_without_init}
use Rattle.proc_table.proofs.Searched.{count_free}
use Rattle.proc_table.proofs.table.Procs.is_alone.Goals as goal

pub returns-in-Some : goal.returns-in-Some
returns-in-Some g c =
    let slots = c.self.inside.slots.items in
    let count = c.free_slots-free.ensures.count ∙ ap (count_by head_is_free) c.self.invariant.theirs ∙ count_free slots in
    let used : is_free (at slots 0) ≡ false = ap is_free (get_or_default slots 0 None _ (omega (arith, c.self.invariant.all)) ∙ sym c.index.ensures ∙ c.in-Some.is) in
    let alone = alone_with_init slots c.self.invariant.all used in
    subst (λ t. IsTrue (nat_eq c.free_slots-free.result 63) ↔ IsAlone t) c.self.view_is (
      (λ test. alone.0 (sym count ∙ eqb-true c.free_slots-free.result 63 test)),
      λ is. eq-eqb c.free_slots-free.result 63 (count ∙ alone.1 is),
    )

pub returns-in-None : goal.returns-in-None
returns-in-None g c =
    let slots = c.self.inside.slots.items in
    let count = c.free_slots-free.ensures.count ∙ ap (count_by head_is_free) c.self.invariant.theirs ∙ count_free slots in
    let free : is_free (at slots 0) ≡ true = ap is_free (get_or_default slots 0 None _ (omega (arith, c.self.invariant.all)) ∙ sym c.index.ensures ∙ c.in-None.is) in
    let alone = alone_without_init slots c.self.invariant.all free in
    subst (λ t. IsTrue (nat_eq c.free_slots-free.result 64) ↔ IsAlone t) c.self.view_is (
      (λ test. alone.0 (sym count ∙ eqb-true c.free_slots-free.result 64 test)),
      λ is. eq-eqb c.free_slots-free.result 64 (count ∙ alone.1 is),
    )
