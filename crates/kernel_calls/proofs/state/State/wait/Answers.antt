-- The child that is reaped is another process, so the caller goes on as it was.
use Rattle.std.proofs.Common.{◌≡◌, ◌∙◌, ap, subst, ℕ, true}
use Rattle.std.proofs.lemmas.Option.{IfSome_then}
use Rattle.std.specs.Prelude.{IfSome}
use Rattle.user_calls.specs.declared.calls.Reply.{Reply}
use Rattle.user_calls.specs.declared.calls.Reply.TheVariants.{Done}
use Rattle.proc_table.specs.Slots.{Slot, Table, at, is_running}
use Rattle.proc_table.specs.Calls.{readied, reaped, wait_answer}
use Rattle.proc_table.specs.declared.table.Waited.{Waited}
use Rattle.proc_table.specs.declared.table.Waited.TheVariants.{Reaped}
use Rattle.proc_table.proofs.Changes.{caller_stays}
use Rattle.kernel_model.specs.KernelState.{KernelState}
use Rattle.kernel_model.specs.Processes.{wait, wait_by}
use Rattle.kernel_model.proofs.Held.{not_zombie}
use Rattle.kernel_calls.proofs.state.State.wait.Goals as goal

stays : {S : Type 0} (t gone : Table S) (pid : ℕ) → is_running (at t pid) ≡ true → gone ≡ reaped t pid → at gone pid ≡ at t pid
stays t gone pid runs is = ap (λ (k : Table _). at k pid) is ∙ caller_stays t pid (not_zombie (at t pid) runs)

reaped_goes : {S : Type 0} (next : S → Reply → S) (k : KernelState S) (gone new : Table S) (pid child : ℕ) → is_running (at k.table pid) ≡ true → gone ≡ reaped k.table pid → Reaped child ≡ wait_answer k.table pid → IfSome (at gone pid) (λ p. new ≡ readied gone pid (next p.machine p.reply) Done) → IfSome (at k.table pid) (λ p. record k { table = new } ≡ wait k pid (next p.machine p.reply))
reaped_goes next k gone new pid child runs is answer went =
    let here : IfSome (at k.table pid) (λ p. new ≡ readied gone pid (next p.machine p.reply) Done)
    = subst (λ (x : Slot _). IfSome x (λ p. new ≡ readied gone pid (next p.machine p.reply) Done)) (stays k.table gone pid runs is) went in
    IfSome_then (at k.table pid) here (λ p ready.
    ap (λ (t : Table _). record k { table = t }) (ready ∙ ap (λ (t : Table _). readied t pid (next p.machine p.reply) Done) is)
    ∙ ap (λ (w : Waited). wait_by k pid (next p.machine p.reply) w) answer)

pub answer-requires : goal.answer-requires
answer-requires g c =
    let runs : is_running (at c.self.inside.procs c.args.pid) ≡ true = rw (← c.self.view_is) at c.requires in
    ap is_running (stays c.self.inside.procs c.wait.new.self c.args.pid runs c.wait.ensures.after) ∙ runs

pub returns-in-Reaped : goal.returns-in-Reaped
returns-in-Reaped g c =
    let runs : is_running (at c.self.inside.procs c.args.pid) ≡ true = rw (← c.self.view_is) at c.requires in
    rw (← c.self.view_is) (reaped_goes g.M.Machine.next_of _ c.wait.new.self c.answer.new.self c.args.pid c.in-Reaped.field-0 runs c.wait.ensures.after c.in-Reaped.ensures.answer c.answer.ensures)
