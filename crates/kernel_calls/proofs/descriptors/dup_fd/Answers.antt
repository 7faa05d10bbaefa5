use Rattle.std.proofs.Common.{◌≡◌, sym, subst, true}
use Rattle.fd_table.specs.Descriptors.{Descriptors, HoldsInUse, entry_of}
use Rattle.proc_table.specs.Slots.{at, is_running}
use Rattle.kernel_model.specs.Sound.{IsSound}
use Rattle.kernel_model.proofs.Held.{told, held_in_use, one_more_fits, runs_within}
use Rattle.kernel_calls.proofs.descriptors.dup_fd.Goals as goal

pub dup-requires-clause-in_use : goal.dup-requires-clause-in_use
dup-requires-clause-in_use g c =
    let runs : is_running (at c.state.inside.procs c.args.pid) ≡ true = rw (← c.state.view_is) at c.requires.runs in
    let sound : IsSound c.state.inside.procs c.state.inside.entries = rw (← c.state.view_is) at c.requires.sound in
    let P : Descriptors → Type 0 = λ fds. HoldsInUse c.state.inside.entries (entry_of fds c.args.fd) in
    subst P (sym (told (at c.state.inside.procs c.args.pid) c.fds_mut.result.now runs c.fds_mut.ensures.value)) (held_in_use c.state.inside.procs c.state.inside.entries c.args.pid c.args.fd (runs_within c.state.inside.procs c.args.pid runs) sound)

pub dup-requires-clause-fits : goal.dup-requires-clause-fits
dup-requires-clause-fits g c =
    let sound : IsSound c.state.inside.procs c.state.inside.entries = rw (← c.state.view_is) at c.requires.sound in
    one_more_fits c.state.inside.procs c.state.inside.entries (entry_of c.fds_mut.result.now c.args.fd) sound
