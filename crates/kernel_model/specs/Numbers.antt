-- Kernels that differ only in the numbers of their open-file entries.
use Rattle.std.specs.Prelude.{◌≡◌, ℕ, Option, Some, None, map}
use Rattle.fd_table.specs.Entries.{Entries, entry_at, free_count}
use Rattle.fd_table.specs.Descriptors.{Descriptors}
use Rattle.proc_table.specs.Slots.{Slot, Table}
use Rattle.kernel_model.specs.KernelState.{KernelState}

-- every number becomes one number and is what one becomes, those of free entries too
pub record Numbering : Type 0 where
  pub to : ℕ → ℕ
  pub back : ℕ → ℕ
  pub there : (e : ℕ) → back (to e) ≡ e
  pub here : (e : ℕ) → to (back e) ≡ e

-- what a place of a descriptor holds, a process's descriptors, a slot, and all slots, after each entry got another number
abbrev pub renumbered_place : (ℕ → ℕ) → Option ℕ → Option ℕ
renumbered_place to None = None
renumbered_place to (Some e) = Some (to e)

abbrev pub renumbered_fds : (ℕ → ℕ) → Descriptors → Descriptors
renumbered_fds to fds = map (renumbered_place to) fds

abbrev pub renumbered_slot : {S : Type 0} → (ℕ → ℕ) → Slot S → Slot S
renumbered_slot to None = None
renumbered_slot to (Some p) = Some (record p { fds = renumbered_fds to p.fds })

abbrev pub renumbered_table : {S : Type 0} → (ℕ → ℕ) → Table S → Table S
renumbered_table to t = map (renumbered_slot to) t

-- the kernel with its descriptors so, and with these entries
abbrev pub renumbered : {S : Type 0} → (ℕ → ℕ) → Entries → KernelState S → KernelState S
renumbered to entries k = record k { table = renumbered_table to k.table; entries = entries }

-- the entries u are the entries t under other numbers, and as many are free
pub record AreRenumbered (n : Numbering) (t u : Entries) : Type 0 where
  pub same : (e : ℕ) → entry_at u (n.to e) ≡ entry_at t e
  pub free : free_count u ≡ free_count t

-- l is k after its entries got other numbers
pub record IsRenumbered {S : Type 0} (n : Numbering) (k l : KernelState S) : Type 0 where
  pub entries : AreRenumbered n k.entries l.entries
  pub rest : renumbered n.to l.entries k ≡ l

-- k and l differ only in the numbers of their open-file entries
pub record SameButNumbers {S : Type 0} (k l : KernelState S) : Type 0 where
  pub numbering : Numbering
  pub is : IsRenumbered numbering k l
