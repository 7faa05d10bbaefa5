use Rattle.std.proofs.Common.{◌≡◌, sym, subst, true}
use Rattle.std.specs.Prelude.{All}
use Rattle.fd_table.specs.Descriptors.{Descriptors, HoldsInUse, CountsFit, all_held}
use Rattle.proc_table.specs.Slots.{at, is_running}
use Rattle.kernel_model.specs.Sound.{IsSound}
use Rattle.kernel_model.proofs.Held.{told, all_in_use, copy_fits, runs_within}
use Rattle.kernel_calls.proofs.state.State.fork.Goals as goal

pub fork_copy-fds-requires-clause-in_use : goal.fork_copy-fds-requires-clause-in_use
fork_copy-fds-requires-clause-in_use g c =
    let runs : is_running (at c.self.inside.procs c.args.pid) ≡ true = rw (← c.self.view_is) at c.requires.runs in
    let sound : IsSound c.self.inside.procs c.self.inside.entries = rw (← c.self.view_is) at c.requires.sound in
    let P : Descriptors → Type 0 = λ fds. All (HoldsInUse c.self.inside.entries) fds in
    subst P (sym (told (at c.self.inside.procs c.args.pid) c.fds.result.now runs c.fds.ensures)) (all_in_use c.self.inside.procs c.self.inside.entries c.args.pid (runs_within c.self.inside.procs c.args.pid runs) sound)

pub fork_copy-fds-requires-clause-fits : goal.fork_copy-fds-requires-clause-fits
fork_copy-fds-requires-clause-fits g c =
    let runs : is_running (at c.self.inside.procs c.args.pid) ≡ true = rw (← c.self.view_is) at c.requires.runs in
    let sound : IsSound c.self.inside.procs c.self.inside.entries = rw (← c.self.view_is) at c.requires.sound in
    let P : Descriptors → Type 0 = λ fds. CountsFit (all_held c.self.inside.entries fds) in
    subst P (sym (told (at c.self.inside.procs c.args.pid) c.fds.result.now runs c.fds.ensures)) (copy_fits c.self.inside.procs c.self.inside.entries c.args.pid sound)
