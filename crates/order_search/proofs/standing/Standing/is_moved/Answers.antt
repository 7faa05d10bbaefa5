-- What the turn leads to has other slots where its look has, but for who sleeps or runs and for descriptors.
use Rattle.std.proofs.Common.{◌≡◌, sym, ap, ◌∙◌}
use Rattle.std.specs.Prelude.{option_map}
use Rattle.proc_table.specs.Slots.{Table}
use Rattle.kernel_model.specs.KernelState.{KernelState}
use Rattle.kernel_model.specs.Anyhow.{bare_table}
use Rattle.order_search.specs.Led.{Led, kernel_of}
use Rattle.order_search.proofs.Leading.{bare_key}
use Rattle.order_search.proofs.Looking.{not_said}
use Rattle.order_search.proofs.standing.Standing.is_moved.Goals as goal

pub returns-in-Some : goal.returns-in-Some
returns-in-Some g c = λ is.
    let S = g.row.M-State.Denot in
    let k : KernelState S = c.args.self.now.now in
    let now : KernelState S = c.in-Some.node.now in
    let T : Led S → Table S = λ n. bare_table n.now.table in
    let mine : bare_table c.self.inside.look.table ≡ bare_table k.table = bare_key c.self.inside.kernel.value c.self.inside.look c.self.invariant.look ∙ ap T c.self.view_is in
    let its : bare_table c.node.inside.look.table ≡ bare_table now.table = bare_key c.node.inside.kernel.value c.node.inside.look c.node.invariant.look ∙ ap T c.node.view_is in
    record {
      pid = c.args.number;
      now = now;
      turn = sym c.in_ok-next.ensures ∙ ap (option_map kernel_of) c.in-Some.is;
      other = λ same. c.has_same_slots.ensures (not_said c.has_same_slots.result is) (mine ∙ sym same ∙ sym its);
    }
