use Rattle.std.proofs.Common.{◌≡◌, ◌∙◌, ap, Option, Some, None, ℕ}
use Rattle.std.proofs.lemmas.Option.{IfSome_then}
use Rattle.std.specs.Prelude.{IfSome, IsSome}
use Rattle.fd_table.specs.Entries.{OpenFile, entry_at}
use Rattle.fd_table.specs.Descriptors.{entry_of}
use Rattle.proc_table.specs.Slots.{at}
use Rattle.kernel_model.specs.KernelState.{KernelState, fds_at}
use Rattle.kernel_model.specs.Reading.{read_entry, read_object, read_held}
use Rattle.kernel_calls.proofs.InUse.{in_use}
use Rattle.kernel_calls.proofs.reading.read.Goals as goal

pub read_held-requires-clause-in_use : goal.read_held-requires-clause-in_use
read_held-requires-clause-in_use g c = in_use c.args.state.now c.args.pid c.args.fd c.in-Some.entry c.requires.runs c.requires.sound c.in-Some.ensures

by_object : {S : Type 0} (k new : KernelState S) (pid : ℕ) (after : S) (e n : ℕ) (o : Option OpenFile) → IsSome o → IfSome o (λ f. new ≡ read_object k pid after e f.offset n f.object) → new ≡ read_entry k pid after e n o
by_object k new pid after e n None some is = absurd (let z : ⊥ = cc in z)
by_object k new pid after e n (Some f) some is = is

pub returns-in-Some : goal.returns-in-Some
returns-in-Some g c =
    let k = c.args.state.now in
    let e = c.in-Some.entry in
    IfSome_then (at k.table c.args.pid) c.read_held.ensures (λ p is.
    let after : g.row.M-State.Denot = g.M.Machine.next_of p.machine p.reply in
    by_object k c.read_held.new.state c.args.pid after e c.min-n.result (entry_at k.entries e) (in_use k c.args.pid c.args.fd e c.requires.runs c.requires.sound c.in-Some.ensures) is ∙ ap (read_held k c.args.pid after c.min-n.result) c.in-Some.ensures ∙ ap (λ n. read_held k c.args.pid after n (entry_of (fds_at k c.args.pid) c.args.fd)) c.min-n.ensures)
