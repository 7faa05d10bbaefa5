use Rattle.std.proofs.Common.{◌≡◌, refl, rules}
use Rattle.std.specs.Prelude.{IsSome, IfSome}
use Rattle.fd_table.specs.Descriptors.{entry_of}
use Rattle.proc_table.specs.Slots.{at}
use Rattle.kernel_events.proofs.Opened.{held_entry}
use Rattle.kernel_events.proofs.status.entry.Goals as goal

pub returns-clause-in_use : goal.returns-clause-in_use
returns-clause-in_use g c =
    let k = c.args.state.now in
    let used : IsSome (at k.table c.args.pid) = search rules in
    let same : IfSome (at k.table c.args.pid) (λ p. c.fds.result.now ≡ p.fds) = search rules in
    let held : c.ok.result ≡ entry_of c.fds.result.now c.args.fd = search rules in
    held_entry k c.args.pid c.args.fd c.ok.result c.fds.result.now (at k.table c.args.pid) refl used same held c.requires
