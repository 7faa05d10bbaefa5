use Rattle.std.proofs.Common.{◌≡◌, ap, subst, ◌∙◌}
use Rattle.fd_table.specs.declared.names.Object.{Object}
use Rattle.fd_table.specs.declared.names.Object.TheVariants.{PipeRead}
use Rattle.fd_table.specs.Entries.{Entries, entry_at}
use Rattle.kernel_model.specs.KernelState.{KernelState}
use Rattle.kernel_model.specs.Closes.{IsClosedAtOnce}
use Rattle.order_search.specs.declared.private.CloseOf.TheVariants.{ReadEnd, Other}
use Rattle.order_search.specs.Shown.{IsCloseOf, IsNoReadEnd}
use Rattle.order_search.proofs.Looking.{open_more, other_at_once, reads_at_once, unsaid}
use Rattle.order_search.proofs.looks.Look.is_closed_at_once.Goals as goal

pub returns-in-ReadEnd : goal.returns-in-ReadEnd
returns-in-ReadEnd g c = λ yes.
    let k = c.args.self.now in
    let x = entry_at k.entries c.args.number in
    let pipe = c.in-ReadEnd.pipe in
    let entries : c.deref.result.now ≡ k.entries = c.deref.ensures ∙ ap (λ (j : KernelState g.row.M-State.Denot). j.entries) c.self.view_is in
    let closes : IsCloseOf x (ReadEnd pipe) = subst (IsCloseOf x) c.in-ReadEnd.is (subst (λ (E : Entries). IsCloseOf (entry_at E c.args.number) c.close_of.result) entries c.close_of.ensures) in
    open_more (λ (o : Object). o ≡ PipeRead pipe) (IsClosedAtOnce k c.args.pid) x (reads_at_once k c.args.pid pipe (c.others_write.ensures (unsaid c.others_write.result yes))) closes

pub returns-in-Other : goal.returns-in-Other
returns-in-Other g c = λ yes.
    let k = c.args.self.now in
    let x = entry_at k.entries c.args.number in
    let entries : c.deref.result.now ≡ k.entries = c.deref.ensures ∙ ap (λ (j : KernelState g.row.M-State.Denot). j.entries) c.self.view_is in
    let closes : IsCloseOf x Other = subst (IsCloseOf x) c.in-Other.is (subst (λ (E : Entries). IsCloseOf (entry_at E c.args.number) c.close_of.result) entries c.close_of.ensures) in
    open_more IsNoReadEnd (IsClosedAtOnce k c.args.pid) x (other_at_once k c.args.pid) closes
