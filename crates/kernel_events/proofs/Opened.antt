-- The entry that an open descriptor holds is in use.
use Rattle.std.proofs.Common.{◌≡◌, ◌∙◌, ℕ, Option, Some, None, sym, subst, ap}
use Rattle.std.specs.Prelude.{IfSome, IsSome}
use Rattle.fd_table.specs.Descriptors.{Descriptors, HoldsInUse, entry_of}
use Rattle.fd_table.specs.Entries.{IsInUse}
use Rattle.proc_table.specs.Slots.{Slot, at}
use Rattle.proc_table.proofs.Counts.{used_within}
use Rattle.kernel_model.specs.KernelState.{KernelState, fds_of}
use Rattle.kernel_model.specs.Sound.{IsSound}
use Rattle.kernel_model.proofs.Held.{held_in_use}

-- an entry that a descriptor of a used slot holds is in use
pub held_entry : {S : Type 0} (k : KernelState S) (pid fd : ℕ) (o : Option ℕ) (fds : Descriptors) (x : Slot S) → at k.table pid ≡ x → IsSome x → IfSome x (λ p. fds ≡ p.fds) → o ≡ entry_of fds fd → IsSound k.table k.entries → IfSome o (IsInUse k.entries)
held_entry k pid fd None fds x is used same held sound = tt
held_entry k pid fd (Some e) fds None is used same held sound = absurd (let z : ⊥ = cc in z)
held_entry k pid fd (Some e) fds (Some p) is used same held sound =
    let P : Option ℕ → Type 0 = λ y. HoldsInUse k.entries y in
    let path : Some e ≡ entry_of (fds_of (at k.table pid)) fd = held ∙ ap (λ (d : Descriptors). entry_of d fd) (same ∙ sym (ap fds_of is)) in
    subst P (sym path) (held_in_use k.table k.entries pid fd (used_within k.table pid p is) sound)
