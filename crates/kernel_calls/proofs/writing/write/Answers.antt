use Rattle.std.proofs.Common.{◌≡◌, ◌∙◌, ap, Option, Some, None, ℕ, Bool, List}
use Rattle.std.proofs.lemmas.Option.{IfSome_then}
use Rattle.std.specs.Prelude.{IfSome, IsSome}
use Rattle.fd_table.specs.Entries.{OpenFile, entry_at}
use Rattle.proc_table.specs.Slots.{at}
use Rattle.kernel_model.specs.KernelState.{KernelState}
use Rattle.kernel_model.specs.Writing.{write_entry, write_object, write_held}
use Rattle.kernel_model.specs.Notes.{is_refused}
use Rattle.kernel_calls.proofs.InUse.{in_use}
use Rattle.kernel_calls.proofs.writing.write.Goals as goal

pub write_held-requires-clause-in_use : goal.write_held-requires-clause-in_use
write_held-requires-clause-in_use g c = in_use c.args.state.now c.args.pid c.args.fd c.in-Some.entry c.requires.runs c.requires.sound c.in-Some.ensures

by_object : {S : Type 0} (k new : KernelState S) (pid : ℕ) (after : S) (e : ℕ) (b : List ℕ) (refused : Bool) (o : Option OpenFile) → IsSome o → IfSome o (λ f. new ≡ write_object k pid after e f.offset b refused f.object) → new ≡ write_entry k pid after e b refused o
by_object k new pid after e b refused None some is = absurd (let z : ⊥ = cc in z)
by_object k new pid after e b refused (Some f) some is = is

pub returns-in-Some : goal.returns-in-Some
returns-in-Some g c =
    let k = c.args.state.now in
    let e = c.in-Some.entry in
    IfSome_then (at k.table c.args.pid) c.write_held.ensures (λ p is.
    let after : g.row.M-State.Denot = g.M.Machine.next_of p.machine p.reply in
    by_object k c.write_held.new.state c.args.pid after e c.args.bytes.now (is_refused c.write_held.result) (entry_at k.entries e) (in_use k c.args.pid c.args.fd e c.requires.runs c.requires.sound c.in-Some.ensures) is ∙ ap (write_held k c.args.pid after c.args.bytes.now (is_refused c.write_held.result)) c.in-Some.ensures)
