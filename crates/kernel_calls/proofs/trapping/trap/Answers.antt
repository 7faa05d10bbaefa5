use Rattle.std.proofs.Common.{◌≡◌, ℕ, Bool, true, Some, None, sym, subst, ap}
use Rattle.std.specs.Prelude.{IfSome, count_by}
use Rattle.mem_files.specs.Listing.{AreFiles}
use Rattle.user_calls.specs.declared.calls.Call.{Call}
use Rattle.user_calls.specs.declared.calls.Reply.{Reply}
use Rattle.proc_table.specs.Slots.{Slot, at, is_running}
use Rattle.kernel_model.specs.KernelState.{KernelState}
use Rattle.kernel_model.specs.Events.{acted, counted}
use Rattle.kernel_model.specs.Notes.{is_refused}
use Rattle.kernel_model.specs.Sound.{IsMid, Keeps}
use Rattle.kernel_model.proofs.Keeps.{mid}
use Rattle.kernel_model.proofs.Acts.{acted_after}
use Rattle.kernel_calls.proofs.trapping.trap.Goals as goal

-- whatever the machine of a process that runs goes on to
kept_by : {S : Type 0} (next : S → Reply → S) (n pid : ℕ) (k new : KernelState S) (call : Call) (refused : Bool) (x : Slot S) → is_running x ≡ true → AreFiles k.files → IsMid n k.table k.entries pid → IfSome x (λ p. new ≡ acted k pid (next p.machine p.reply) call refused) → Keeps n new.table new.entries
kept_by next n pid k new call refused None runs are m is = absurd (let z : ⊥ = cc in z)
kept_by next n pid k new call refused (Some p) runs are m is =
    subst (λ (x : KernelState _). Keeps n x.table x.entries) (sym is) (acted_after n pid k (next p.machine p.reply) call refused are m)

pub returns-clause-keeps : goal.returns-clause-keeps
returns-clause-keeps g c =
    let k = c.args.state.now in
    let n = count_by is_running k.table in
    let are : AreFiles k.files = rw (sym (ap (λ (x : KernelState g.row.M-State.Denot). x.files) c.state.view_is)) c.are_files.ensures in
    let is : IfSome (at k.table c.args.pid) (λ p. c.act.new.state ≡ acted (counted k) c.args.pid (g.M.Machine.next_of p.machine p.reply) c.args.call.now (is_refused c.act.result)) = rw (← c.state.view_is) c.act.ensures in
    kept_by g.M.Machine.next_of n c.args.pid (counted k) c.act.new.state c.args.call.now (is_refused c.act.result) (at k.table c.args.pid) c.requires.runs are (mid k.table k.entries c.args.pid c.requires.sound c.requires.runs) is
