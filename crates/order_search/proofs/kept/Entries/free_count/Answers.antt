use Rattle.std.proofs.Common.{◌≡◌, ◌-◌, ◌+◌, ℕ, length, sym, ap, ◌∙◌, rules}
use Rattle.fd_table.specs.Entries.{Entries, free_count}
use Rattle.order_search.proofs.Filling.{free_filled}
use Rattle.order_search.proofs.Looking.{some_if_value}
use Rattle.order_search.proofs.kept.Entries.free_count.Goals as goal

pub returns : goal.returns
returns c =
    let xs = c.self.inside.slots.items in
    let counted : c.free_entries.result + c.saturating_sub.result ≡ free_count c.args.self.now =
    (λ i. (c.free_entries.ensures ∙ ap (λ (E : Entries). free_count E) c.deref.ensures.value) i + (c.saturating_sub.ensures ∙ ap (λ (n : ℕ). 100 - n) (let z : c.len.result ≡ length xs = search rules in z)) i)
    ∙ sym (free_filled 100 xs) ∙ ap (λ (E : Entries). free_count E) c.self.view_is in
    some_if_value c.checked_add.result _ _ _ c.checked_add.ensures counted
