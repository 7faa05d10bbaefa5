use Rattle.std.proofs.Common.{◌≡◌, ◌<◌, ◌≤◌, None, length, ap, sym, ◌∙◌, rules}
use Rattle.std.proofs.lemmas.Bool.{le-ltb}
use Rattle.proc_table.specs.Slots.{at, is_runnable}
use Rattle.kernel_model.specs.KernelState.{KernelState}
use Rattle.order_search.specs.Shown.{slot_of}
use Rattle.order_search.proofs.Looking.{at_kept, past_kept}
use Rattle.order_search.proofs.looks.Look.is_runnable.Goals as goal

pub returns-then-pid-len : goal.returns-then-pid-len
returns-then-pid-len g c =
    let xs = c.self.inside.slots.items in
    let pid = c.args.pid in
    let within : pid < length xs = search rules in
    let there : at c.args.self.now.table pid ≡ slot_of c.index.result.now = ap (λ (j : KernelState g.row.M-State.Denot). at j.table pid) (sym c.self.view_is) ∙ at_kept xs pid c.index.result.now within ∙ ap slot_of (sym c.index.ensures) in
    record { value = c.is_ready.ensures ∙ ap is_runnable (sym there) }

pub returns-else-pid-len : goal.returns-else-pid-len
returns-else-pid-len g c =
    let xs = c.self.inside.slots.items in
    let pid = c.args.pid in
    let past : length xs ≤ pid = search rules in
    let there : at c.args.self.now.table pid ≡ None = ap (λ (j : KernelState g.row.M-State.Denot). at j.table pid) (sym c.self.view_is) ∙ past_kept xs pid past in
    record { value = le-ltb pid c.len.result c.if-pid-len.false ∙ ap is_runnable (sym there) }
