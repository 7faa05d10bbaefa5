-- The head is given with the slot.
use Rattle.std.proofs.Common.{None, Some, subst, sym, ◌∙◌, arith}
use Rattle.std.proofs.lemmas.List.{get_or_default}
use Rattle.std.proofs.Math.ListN.{set}
use Rattle.proc_table.specs.Heads.{AreHeads}
use Rattle.proc_table.proofs.Kept.{given_kept}
use Rattle.proc_table.proofs.table.Procs.give.Goals as goal

pub invariant_of-self : goal.invariant_of-self
invariant_of-self g c =
    let slots = c.self.inside.slots.items in
    let there = get_or_default slots c.args.index None c.index_mut.result.now (omega (arith, c.self.invariant.all, c.requires)) ∙ sym c.index_mut.ensures.value ∙ c.in-Some.is in
    subst (λ heads. AreHeads (set slots c.args.index (Some c.set_parent.new.self)) heads) (sym c.give.ensures)
    (given_kept slots c.self.inside.heads c.args.index c.init-in-Some.result c.in-Some.process c.set_parent.new.self c.self.invariant there c.init.result (c.init-in-Some.ensures ∙ sym c.init.ensures) c.set_parent.ensures)
