-- A kernel as if all who sleep were awake.
use Rattle.std.specs.Prelude.{◌≡◌, ℕ, Some, None, map}
use Rattle.proc_table.specs.declared.states.Status.{Status}
use Rattle.proc_table.specs.declared.states.Status.TheVariants.{Runnable, Running, Asleep, Zombie}
use Rattle.proc_table.specs.Slots.{Slot, Table}
use Rattle.kernel_model.specs.KernelState.{KernelState}
use Rattle.kernel_model.specs.Idle.{idle_kernel}
use Rattle.kernel_model.specs.Alike.{IsOneToOne}
use Rattle.kernel_model.specs.Key.{key}

-- a status: who sleeps is Runnable
abbrev pub woke_status : Status → Status
woke_status Runnable = Runnable
woke_status (Running h) = Running h
woke_status (Asleep c) = Runnable
woke_status Zombie = Zombie

abbrev pub woke_slot : {S : Type 0} → Slot S → Slot S
woke_slot None = None
woke_slot (Some p) = Some (record p { status = woke_status p.status })

abbrev pub woke_table : {S : Type 0} → Table S → Table S
woke_table t = map woke_slot t

abbrev pub woke : {S : Type 0} → KernelState S → KernelState S
woke k = record k { table = woke_table k.table }

-- k and l differ only in who sleeps, in who runs where, in what their pipes are called, and in how many events there were
pub record AlikeAwake {S : Type 0} (k l : KernelState S) : Type 0 where
  pub first : ℕ → ℕ
  pub second : ℕ → ℕ
  pub first_one_to_one : IsOneToOne first
  pub second_one_to_one : IsOneToOne second
  pub same : idle_kernel first 0 (woke k) ≡ idle_kernel second 0 (woke l)

-- what is compared where kernels are found again
abbrev pub SameKeyAwake : {S : Type 0} → KernelState S → KernelState S → Type 0
SameKeyAwake k l = key (woke k) ≡ key (woke l)
