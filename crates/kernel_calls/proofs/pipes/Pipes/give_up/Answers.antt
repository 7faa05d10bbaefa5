-- The entry at the place goes, and the pipe under its key.
use Rattle.std.proofs.Common.{None, List, sym, subst, ap, ◌∙◌}
use Rattle.slab.specs.Slab.{Updates}
use Rattle.kernel_calls.specs.declared.named.Named.{Named}
use Rattle.kernel_calls.specs.Indexed.{AreIndexed, listed}
use Rattle.kernel_calls.proofs.Indexing.{indexed_remove}
use Rattle.kernel_calls.proofs.Listing.{within_index}
use Rattle.kernel_calls.proofs.Shown.{shown_given_up}
use Rattle.kernel_calls.proofs.pipes.Pipes.give_up.Goals as goal

pub invariant_of-self : goal.invariant_of-self
invariant_of-self g c =
    let index = c.self.inside.index.items in
    let live = c.self.inside.live in
    let within = within_index index live c.args.at (rw (← c.self.view_is) at c.requires) in
    let updates = subst (λ (e : Named). Updates live c.remove.new.self e.key None) c.remove-entry.ensures.value c.remove.ensures.updates in
    subst (λ (entries : List Named). AreIndexed entries c.remove.new.self) (sym c.remove-entry.ensures.items)
    (indexed_remove index live c.remove.new.self c.args.at c.remove-entry.result c.self.invariant within updates c.remove.ensures.len)

pub returns : goal.returns
returns g c =
    let index = c.self.inside.index.items in
    let live = c.self.inside.live in
    let within = within_index index live c.args.at (rw (← c.self.view_is) at c.requires) in
    ap (λ (entries : List Named). listed entries c.remove.new.self) c.remove-entry.ensures.items
    ∙ rw (← c.self.view_is) (shown_given_up index live c.remove.new.self c.args.at c.remove-entry.result c.self.invariant within c.remove-entry.ensures.value c.remove.ensures.updates)
