use Rattle.std.proofs.Common.{◌≡◌, false, sym, ap, ◌∙◌, rules}
use Rattle.std.specs.Prelude.{Option}
use Rattle.proc_table.specs.Slots.{Table}
use Rattle.kernel_model.specs.KernelState.{KernelState}
use Rattle.kernel_model.specs.Anyhow.{bare_table}
use Rattle.kernel_model.specs.Turns.{after_turn}
use Rattle.order_search.specs.Led.{Led}
use Rattle.order_search.proofs.Leading.{bare_key}
use Rattle.order_search.proofs.standing.Standing.note.Goals as goal

pub invariant_of-self : goal.invariant_of-self
invariant_of-self g c =
    let S = g.row.M-State.Denot in
    let call = g.M.Machine.call_of in
    let next = g.M.Machine.next_of in
    let before = c.self.invariant in
    let T : Led S → Table S = λ n. bare_table n.now.table in
    let mine : bare_table c.self.inside.look.table ≡ bare_table c.self.inside.kernel.value.table = bare_key c.self.inside.kernel.value c.self.inside.look before.look in
    let its : bare_table c.next.inside.look.table ≡ bare_table c.args.next.now.now.table = bare_key c.next.inside.kernel.value c.next.inside.look c.next.invariant.look ∙ ap T c.next.view_is in
    let differ : c.has_same_slots.result ≡ false = search rules in
    let turn : Led S → Option (KernelState S) = λ n. after_turn call next n.now c.args.number in
    record {
      room = before.room;
      turns = before.turns;
      look = before.look;
      idle = before.idle;
      busy = λ _. record { pid = c.args.number; now = c.args.next.now.now; turn = ap turn c.self.view_is ∙ c.requires; other = λ same. c.has_same_slots.ensures differ (mine ∙ sym same ∙ sym its) };
    }
