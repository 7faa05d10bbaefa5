use Rattle.std.proofs.Common.{◌≡◌, ◌<◌, ◌≤◌, ℕ, None, length, ap, sym, subst, ◌∙◌, arith, rules}
use Rattle.proc_table.specs.Slots.{Slot, at}
use Rattle.fd_table.specs.Entries.{Entries}
use Rattle.kernel_model.specs.KernelState.{KernelState, fds_of, fds_at}
use Rattle.order_search.specs.Shown.{slot_of, HasNoWriteEnd}
use Rattle.order_search.proofs.Looking.{at_kept, past_kept, no_writer_next, no_writer_past}
use Rattle.order_search.proofs.looks.Look.others_write.Goals.{else-other-pid-via-then-other-pid+else-writes_to, else-other-pid-via-else-other-pid}
use Rattle.order_search.proofs.looks.Look.others_write.Goals as goal

pub loop-other-preserved : goal.loop-other-preserved
loop-other-preserved g c =
    let S = g.row.M-State.Denot in
    let xs = c.self.inside.slots.items in
    let n : ℕ = c.loop-other.other in
    let pipe = c.args.pipe in
    let within : n < length xs = search rules in
    no_writer_next c.args.self.now pipe c.args.pid n c.loop-other.invariant (λ other.
    elim c.else-other-pid.branch [
      | else-other-pid-via-then-other-pid+else-writes_to w ↦
          let there : at c.args.self.now.table n ≡ slot_of w.index.result.now = ap (λ (k : KernelState S). at k.table n) (sym c.self.view_is) ∙ at_kept xs n w.index.result.now within ∙ ap slot_of (sym w.index.ensures) in
          let entries : w.deref.result.now ≡ c.args.self.now.entries = w.deref.ensures ∙ ap (λ (k : KernelState S). k.entries) c.self.view_is in
          subst (λ (E : Entries). HasNoWriteEnd E pipe (fds_at c.args.self.now n)) entries
          (subst (λ (x : Slot S). HasNoWriteEnd w.deref.result.now pipe (fds_of x)) (sym there) (w.writes_to.ensures w.if-writes_to.false))
      | else-other-pid-via-else-other-pid w ↦ absurd (other w.if-other-pid.false)
    ])

pub returns : goal.returns
returns g c = λ _.
    let k = c.args.self.now in
    let xs = c.self.inside.slots.items in
    let n : ℕ = c.loop-other.other in
    let gone : length xs ≤ n = search rules in
    let past : (q : ℕ) → n ≤ q → at k.table q ≡ None = λ q after. ap (λ (j : KernelState g.row.M-State.Denot). at j.table q) (sym c.self.view_is) ∙ past_kept xs q (omega (arith, gone, after)) in
    no_writer_past k c.args.pipe c.args.pid n c.loop-other.invariant past
