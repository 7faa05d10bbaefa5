-- What kernels that are alike have in common: their outcome, and who is awake.
use Rattle.std.proofs.Common.{◌≡◌, ℕ, Bool, true, false, None, Some, inl, inr, refl, sym, ap, ◌∙◌}
use Rattle.std.specs.Prelude.{◌⊎◌}
use Rattle.proc_table.specs.declared.states.Status.{Status}
use Rattle.proc_table.specs.declared.states.Status.TheVariants.{Runnable, Running, Asleep, Zombie}
use Rattle.proc_table.specs.Slots.{Slot, at, is_runnable, is_runnable_status, is_running, is_running_status}
use Rattle.kernel_model.specs.KernelState.{KernelState}
use Rattle.kernel_model.specs.Idle.{idle_slot, idle_status}
use Rattle.kernel_model.specs.Alike.{Alike}
use Rattle.kernel_model.specs.Outcome.{SameOutcome}
use Rattle.law_turns.proofs.orders.Follow.{slots_alike}
use Rattle.law_turns.proofs.orders.Booted.{same_outcome}

abbrev pub awake_status : Status → Bool
awake_status Runnable = true
awake_status (Running h) = true
awake_status (Asleep c) = false
awake_status Zombie = false

-- the slot's process is Runnable or Running
abbrev pub awake : {S : Type 0} → Slot S → Bool
awake None = false
awake (Some p) = awake_status p.status

status_idle : (name : ℕ → ℕ) (s : Status) → is_runnable_status (idle_status name s) ≡ awake_status s
status_idle name Runnable = refl
status_idle name (Running h) = refl
status_idle name (Asleep c) = refl
status_idle name Zombie = refl

awake_idle : {S : Type 0} (name : ℕ → ℕ) (x : Slot S) → is_runnable (idle_slot name x) ≡ awake x
awake_idle name None = refl
awake_idle name (Some p) = status_idle name p.status

status_awake : (s : Status) → awake_status s ≡ true → (is_runnable_status s ≡ true) ⊎ (is_running_status s ≡ true)
status_awake Runnable is = inl refl
status_awake (Running h) is = inr refl
status_awake (Asleep c) is = absurd (let z : ⊥ = cc in z)
status_awake Zombie is = absurd (let z : ⊥ = cc in z)

pub slot_awake : {S : Type 0} (x : Slot S) → awake x ≡ true → (is_runnable x ≡ true) ⊎ (is_running x ≡ true)
slot_awake None is = absurd (let z : ⊥ = cc in z)
slot_awake (Some p) is = status_awake p.status is

runnable_status : (s : Status) → is_runnable_status s ≡ true → awake_status s ≡ true
runnable_status Runnable is = refl
runnable_status (Running h) is = refl
runnable_status (Asleep c) is = absurd (let z : ⊥ = cc in z)
runnable_status Zombie is = absurd (let z : ⊥ = cc in z)

pub runnable_awake : {S : Type 0} (x : Slot S) → is_runnable x ≡ true → awake x ≡ true
runnable_awake None is = absurd (let z : ⊥ = cc in z)
runnable_awake (Some p) is = runnable_status p.status is

-- the two have the same outcome, and the same processes are awake
pub record Looks {S : Type 0} (k l : KernelState S) : Type 0 where
  pub outcome : SameOutcome k l
  pub who : (pid : ℕ) → awake (at k.table pid) ≡ awake (at l.table pid)

pub looks : {S : Type 0} (k l : KernelState S) → Alike k l → Looks k l
looks k l a =
    record {
      outcome = same_outcome k l a;
      who = λ pid. sym (awake_idle a.first (at k.table pid)) ∙ ap is_runnable (slots_alike k l a pid) ∙ awake_idle a.second (at l.table pid);
    }
