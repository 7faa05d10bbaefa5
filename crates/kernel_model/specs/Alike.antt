-- Two kernels that no outcome distinguishes.
use Rattle.std.specs.Prelude.{◌≡◌, ℕ, ◌≤◌, count_by}
use Rattle.mem_files.specs.Listing.{AreFiles}
use Rattle.proc_table.specs.Slots.{is_running}
use Rattle.kernel_model.specs.KernelState.{KernelState}
use Rattle.kernel_model.specs.Sound.{IsSound}
use Rattle.kernel_model.specs.Idle.{idle_kernel}

-- no two pipes get the same name
abbrev pub IsOneToOne : (ℕ → ℕ) → Type 0
IsOneToOne name = (a b : ℕ) → name a ≡ name b → a ≡ b

-- k and l differ only in who runs where, in what their pipes are called, and in how many events there were
pub record Alike {S : Type 0} (k l : KernelState S) : Type 0 where
  pub first : ℕ → ℕ
  pub second : ℕ → ℕ
  pub first_one_to_one : IsOneToOne first
  pub second_one_to_one : IsOneToOne second
  pub same : idle_kernel first 0 k ≡ idle_kernel second 0 l

-- the kernel names no pipe past this one: names that agree up to it are the same names to the kernel
abbrev pub HasNamesUpTo : {S : Type 0} → ℕ → KernelState S → Type 0
HasNamesUpTo last k = (f g : ℕ → ℕ) → IsOneToOne f → IsOneToOne g → ((id : ℕ) → id ≤ last → f id ≡ g id) → idle_kernel f 0 k ≡ idle_kernel g 0 k

-- a kernel between two turns: nobody runs, counts and files are right, and each pipe has the name of an event that has happened
pub record IsStill {S : Type 0} (k : KernelState S) : Type 0 where
  pub idle : count_by is_running k.table ≡ 0
  pub sound : IsSound k.table k.entries
  pub files : AreFiles k.files
  pub names : HasNamesUpTo k.events k
