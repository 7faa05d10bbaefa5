-- A descriptor that is open holds an entry that is in use.
use Rattle.std.proofs.Common.{◌≡◌, sym, subst, Option, Some, ℕ, true}
use Rattle.fd_table.specs.Entries.{IsInUse}
use Rattle.fd_table.specs.Descriptors.{HoldsInUse, entry_of}
use Rattle.proc_table.specs.Slots.{at, is_running}
use Rattle.kernel_model.specs.KernelState.{KernelState, fds_at}
use Rattle.kernel_model.specs.Sound.{IsSound}
use Rattle.kernel_model.proofs.Held.{held_in_use, runs_within}

pub in_use : {S : Type 0} (k : KernelState S) (pid fd e : ℕ) → is_running (at k.table pid) ≡ true → IsSound k.table k.entries → Some e ≡ entry_of (fds_at k pid) fd → IsInUse k.entries e
in_use k pid fd e runs sound is =
    let P : Option ℕ → Type 0 = λ x. HoldsInUse k.entries x in
    subst P (sym is) (held_in_use k.table k.entries pid fd (runs_within k.table pid runs) sound)
