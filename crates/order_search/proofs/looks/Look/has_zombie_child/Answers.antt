use Rattle.std.proofs.Common.{◌≡◌, ◌<◌, length, ap, sym, ◌∙◌, rules}
use Rattle.proc_table.specs.Slots.{Slot, at, is_zombie_child_of}
use Rattle.kernel_model.specs.KernelState.{KernelState}
use Rattle.order_search.specs.Shown.{slot_of}
use Rattle.order_search.proofs.Looking.{at_kept}
use Rattle.order_search.proofs.looks.Look.has_zombie_child.Goals as goal

pub returns-then-is_zombie_child : goal.returns-then-is_zombie_child
returns-then-is_zombie_child g c = λ _.
    let xs = c.self.inside.slots.items in
    let n = c.loop-number.number in
    let within : n < length xs = search rules in
    let there : at c.args.self.now.table n ≡ slot_of c.index.result.now = ap (λ (j : KernelState g.row.M-State.Denot). at j.table n) (sym c.self.view_is) ∙ at_kept xs n c.index.result.now within ∙ ap slot_of (sym c.index.ensures) in
    (n, ap (λ (x : Slot g.row.M-State.Denot). is_zombie_child_of c.args.pid x) there ∙ c.is_zombie_child.ensures c.if-is_zombie_child.true)
