use Rattle.std.proofs.Common.{◌≡◌, sym, subst, true}
use Rattle.fd_table.specs.Descriptors.{Descriptors, HoldsInUse, entry_of}
use Rattle.proc_table.specs.Slots.{at, is_running}
use Rattle.kernel_model.specs.Sound.{IsSound}
use Rattle.kernel_model.proofs.Held.{told, held_in_use, runs_within}
use Rattle.kernel_calls.proofs.state.State.close_fd.Goals as goal

pub close-requires : goal.close-requires
close-requires g c =
    let runs : is_running (at c.self.inside.procs c.args.pid) ≡ true = rw (← c.self.view_is) at c.requires.runs in
    let sound : IsSound c.self.inside.procs c.self.inside.entries = rw (← c.self.view_is) at c.requires.sound in
    let P : Descriptors → Type 0 = λ fds. HoldsInUse c.self.inside.entries (entry_of fds c.args.fd) in
    subst P (sym (told (at c.self.inside.procs c.args.pid) c.fds_mut.result.now runs c.fds_mut.ensures.value)) (held_in_use c.self.inside.procs c.self.inside.entries c.args.pid c.args.fd (runs_within c.self.inside.procs c.args.pid runs) sound)
