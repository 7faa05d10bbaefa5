-- The child is put into another slot than its parent's.
use Rattle.std.proofs.Common.{◌≡◌, ◌∙◌, ℕ, Some, None, sym, ap, subst}
use Rattle.std.proofs.Math.ListN.{set}
use Rattle.std.specs.Prelude.{IfSome}
use Rattle.user_calls.specs.declared.calls.Reply.{Reply}
use Rattle.user_calls.specs.declared.calls.Reply.TheVariants.{Done}
use Rattle.fd_table.specs.Descriptors.{Descriptors}
use Rattle.proc_table.specs.Slots.{Process, Slot, Table, at, is_running}
use Rattle.proc_table.specs.Calls.{forked, readied}
use Rattle.proc_table.proofs.Changes.{parent_stays}
use Rattle.proc_table.proofs.table.Procs.fork.Goals as goal

module _ {S : Type 0} (next : S → Reply → S) (t put new : Table S) (parent child index : ℕ) (machine twin after : S) (reply : Reply) (fds : Descriptors) where
  forked_by : (x : Slot S) → at put parent ≡ x → child ≡ index → put ≡ forked t index parent after fds → after ≡ next twin reply → twin ≡ machine → IfSome x (λ p. machine ≡ p.machine) → IfSome x (λ p. reply ≡ p.reply) → IfSome (at put parent) (λ p. new ≡ readied put parent (next p.machine p.reply) Done)
      → IfSome x (λ p. new ≡ readied (forked t child parent (next p.machine p.reply) fds) parent (next p.machine p.reply) Done)
  forked_by None stays is_child is_put is_after is_twin is_machine is_reply went = tt
  forked_by (Some p) stays is_child is_put is_after is_twin is_machine is_reply went =
      let next_is : after ≡ next p.machine p.reply = is_after ∙ (λ i. next ((is_twin ∙ is_machine) i) (is_reply i)) in
      let put_is : put ≡ forked t child parent (next p.machine p.reply) fds = is_put ∙ (λ i. forked t (sym is_child i) parent (next_is i) fds) in
      subst (λ (y : Slot S). IfSome y (λ q. new ≡ readied put parent (next q.machine q.reply) Done)) stays went
      ∙ ap (λ (k : Table S). readied k parent (next p.machine p.reply) Done) put_is

pub answer-requires : goal.answer-requires
answer-requires g c =
    let t = c.args.self.now in
    let put : c.set.new.self ≡ forked t c.in-Some.index c.args.parent (g.M.Machine.view c.advance.new.self) c.args.fds
    = c.set.ensures ∙ ap (λ (p : Process g.row.M-State.Denot). set t c.in-Some.index (Some p)) c.child.ensures in
    ap (λ (k : Table g.row.M-State.Denot). is_running (at k c.args.parent)) put
    ∙ ap is_running (parent_stays t c.args.parent c.in-Some.index (g.M.Machine.view c.advance.new.self) c.args.fds c.requires (sym c.free_index.ensures.value ∙ c.in-Some.is))
    ∙ c.requires

pub returns-clause-after : goal.returns-clause-after
returns-clause-after g c =
    let t = c.args.self.now in
    let after = g.M.Machine.view c.advance.new.self in
    let put : c.set.new.self ≡ forked t c.in-Some.index c.args.parent after c.args.fds
    = c.set.ensures ∙ ap (λ (p : Process g.row.M-State.Denot). set t c.in-Some.index (Some p)) c.child.ensures in
    forked_by g.M.Machine.next_of t c.set.new.self c.answer.new.self c.args.parent c.at.result c.in-Some.index (g.M.Machine.view c.machine.result.now) (g.M.Machine.view c.twin-twin.result) after c.reply.result.now c.args.fds
    (at t c.args.parent)
    (ap (λ (k : Table g.row.M-State.Denot). at k c.args.parent) put ∙ parent_stays t c.args.parent c.in-Some.index after c.args.fds c.requires (sym c.free_index.ensures.value ∙ c.in-Some.is))
    c.at.ensures put c.advance.ensures.next c.twin-twin.ensures c.machine.ensures c.reply.ensures c.answer.ensures
