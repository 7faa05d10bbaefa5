use Rattle.std.proofs.Common.{◌≡◌, sym, ap, subst, ◌∙◌}
use Rattle.fd_table.specs.Entries.{Entries, OpenFile, entry_at}
use Rattle.std.specs.Prelude.{Option}
use Rattle.order_search.specs.Shown.{IsCloseOf}
use Rattle.order_search.proofs.Filling.{at_filled}
use Rattle.order_search.proofs.kept.Entries.close_of.Goals as goal

pub returns : goal.returns
returns c =
    let xs = c.self.inside.slots.items in
    let n = c.args.number in
    let there : entry_at c.deref.result.now n ≡ entry_at c.args.self.now n =
    ap (λ (E : Entries). entry_at E n) c.deref.ensures.value ∙ sym (at_filled 100 xs n) ∙ ap (λ (E : Entries). entry_at E n) c.self.view_is in
    subst (λ (x : Option OpenFile). IsCloseOf x c.close_in.result) there c.close_in.ensures
