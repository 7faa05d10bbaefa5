-- Kernels of runs that can do what others can, whoever sleeps and whatever numbers entries have.
use Rattle.std.specs.Prelude.{ℕ, [], Some, None, map}
use Rattle.user_calls.specs.declared.calls.Call.{Call}
use Rattle.user_calls.specs.declared.calls.Reply.{Reply}
use Rattle.proc_table.specs.declared.states.Status.{Status}
use Rattle.proc_table.specs.declared.states.Status.TheVariants.{Runnable, Running, Asleep, Zombie}
use Rattle.proc_table.specs.Slots.{Slot, Table}
use Rattle.kernel_model.specs.KernelState.{KernelState}
use Rattle.kernel_model.specs.Idle.{idle_kernel}
use Rattle.kernel_model.specs.Alike.{IsOneToOne}
use Rattle.kernel_model.specs.Key.{key}
use Rattle.kernel_model.specs.Woke.{woke}
use Rattle.kernel_model.specs.Numbers.{SameButNumbers}
use Rattle.kernel_model.specs.Begun.{IsBegun}

-- k and l differ only in who sleeps, in who runs where, in the numbers of their open-file entries, in what their pipes are called, and in
-- how many events there were
pub record AlikeAnyhow {S : Type 0} (k l : KernelState S) : Type 0 where
  pub first : ℕ → ℕ
  pub second : ℕ → ℕ
  pub first_one_to_one : IsOneToOne first
  pub second_one_to_one : IsOneToOne second
  pub same : SameButNumbers (idle_kernel first 0 (woke k)) (idle_kernel second 0 (woke l))

-- what is compared where kernels are found again
abbrev pub SameKeyAnyhow : {S : Type 0} → KernelState S → KernelState S → Type 0
SameKeyAnyhow k l = SameButNumbers (key (woke k)) (key (woke l))

-- a status as if who sleeps or runs were Runnable, and a slot with it and without its descriptors
abbrev pub bare_status : Status → Status
bare_status Runnable = Runnable
bare_status (Running h) = Runnable
bare_status (Asleep c) = Runnable
bare_status Zombie = Zombie

abbrev pub bare_slot : {S : Type 0} → Slot S → Slot S
bare_slot None = None
bare_slot (Some p) = Some (record p { status = bare_status p.status; fds = [] })

abbrev pub bare_table : {S : Type 0} → Table S → Table S
bare_table t = map bare_slot t

module _ {S : Type 0} (call : S → Reply → Call) (next : S → Reply → S) where
  -- kernels of runs, each alike to the next one but for who sleeps and for numbers: the first can do what the last one can
  pub data DoesAnyhow : KernelState S → KernelState S → Type 0 where
    itself : (k : KernelState S) → DoesAnyhow k k
    likened : (k l m : KernelState S) → IsBegun call next k → IsBegun call next l → AlikeAnyhow k l → DoesAnyhow l m → DoesAnyhow k m
