-- The process makes its turn as if nothing had been closed.
use Rattle.std.proofs.Common.{◌≡◌, ◌∙◌, ap, sym, true, false}
use Rattle.std.proofs.lemmas.Option.{IfSome_then}
use Rattle.std.specs.Prelude.{Option, Result, Ok, Err, is_ok, refl}
use Rattle.user_calls.specs.declared.calls.Reply.{Reply}
use Rattle.user_calls.specs.declared.calls.Reply.TheVariants.{Done, Refused}
use Rattle.fd_table.specs.declared.names.Object.{Object}
use Rattle.fd_table.specs.declared.faults.FdFault.{FdFault}
use Rattle.fd_table.specs.Descriptors.{close_answer, entry_of}
use Rattle.proc_table.specs.Answers.{reply_of}
use Rattle.proc_table.specs.Slots.{at, is_running}
use Rattle.kernel_model.specs.KernelState.{KernelState, fds_at}
use Rattle.kernel_model.specs.Descriptors.{close_reply, closed}
use Rattle.kernel_model.specs.Replies.{answered}
use Rattle.kernel_model.proofs.Keeps.{mid}
use Rattle.kernel_model.proofs.Closing.{closed_mid}
use Rattle.kernel_calls.proofs.Turns.{along, closed_turn, turn_of}
use Rattle.kernel_calls.proofs.descriptors.close.Goals.{then-close_one, else-close_one}
use Rattle.kernel_calls.proofs.descriptors.close.Goals as goal

pub answer-requires : goal.answer-requires
answer-requires g c =
    ap (λ (k : KernelState g.row.M-State.Denot). is_running (at k.table c.args.pid)) c.close_one.ensures.after ∙ (closed_mid _ c.args.pid c.args.state.now c.args.fd (mid c.args.state.now.table c.args.state.now.entries c.args.pid c.requires.sound c.requires.runs)).runs

done : (r : Result (Option Object) FdFault) → is_ok r ≡ true → Done ≡ close_reply r
done (Ok object) is = refl
done (Err fault) is = absurd (let z : ⊥ = cc in z)

refused : (r : Result (Option Object) FdFault) → is_ok r ≡ false → Refused ≡ close_reply r
refused (Ok object) is = absurd (let z : ⊥ = cc in z)
refused (Err fault) is = refl

pub returns : goal.returns
returns g c =
    let k = c.args.state.now in
    let pid = c.args.pid in
    let gone : c.close_one.new.self ≡ closed k pid c.args.fd = c.close_one.ensures.after in
    let r = close_answer k.entries (entry_of (fds_at k pid) c.args.fd) in
    let said : reply_of c.if-close_one.answer ≡ close_reply r
    = elim c.if-close_one.branch [
      | then-close_one w ↦ ap reply_of w.answer-is ∙ done r (sym c.close_one.ensures.answer ∙ w.if-close_one.true)
      | else-close_one w ↦ ap reply_of w.answer-is ∙ refused r (sym c.close_one.ensures.answer ∙ w.if-close_one.false)
    ] in
    let same : turn_of (at c.close_one.new.self.table pid) ≡ turn_of (at k.table pid)
    = ap (λ (x : KernelState g.row.M-State.Denot). turn_of (at x.table pid)) gone ∙ closed_turn pid k c.args.fd in
    IfSome_then (at k.table pid)
    (along (λ (m : g.row.M-State.Denot) (reply : Reply). c.answer.new.self ≡ answered c.close_one.new.self pid (g.M.Machine.next_of m reply) (reply_of c.if-close_one.answer))
    (at c.close_one.new.self.table pid) (at k.table pid) same c.answer.ensures)
    (λ p is. is ∙ (λ i. answered (gone i) pid (g.M.Machine.next_of p.machine p.reply) (said i)))
