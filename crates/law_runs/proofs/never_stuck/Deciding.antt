-- Somebody is awake, or nobody is.
use Rattle.std.proofs.Common.{◌≡◌, ◌⊎◌, inl, inr, ℕ, ◌≤◌, Bool, true, false, Some, None, refl, ap, ◌∙◌, arith}
use Rattle.std.specs.Prelude.{count_by}
use Rattle.proc_table.specs.declared.states.Status.{Status}
use Rattle.proc_table.specs.declared.states.Status.TheVariants.{Runnable, Running, Asleep, Zombie}
use Rattle.proc_table.specs.Slots.{Table, Slot, at, has_status, is_runnable, is_running, is_runnable_status, is_running_status}
use Rattle.proc_table.proofs.Counts.{used_within}
use Rattle.law_kernel.proofs.kernel.Held.{counted_is_there, there_is_counted}
use Rattle.process_model.proofs.Counts.{none_or_some}
use Rattle.law_runs.specs.Awake.{IsAwake}

abbrev pub is_awake_status : Status → Bool
is_awake_status Runnable = true
is_awake_status (Running h) = true
is_awake_status (Asleep c) = false
is_awake_status Zombie = false

abbrev pub is_awake : {S : Type 0} → Slot S → Bool
is_awake x = has_status is_awake_status x

-- nobody is
abbrev pub AllAsleep : {S : Type 0} → Table S → Type 0
AllAsleep t = (q : ℕ) → is_awake (at t q) ≡ true → ⊥

which : (s : Status) → is_awake_status s ≡ true → (is_runnable_status s ≡ true) ⊎ (is_running_status s ≡ true)
which Runnable is = inl refl
which (Running h) is = inr refl
which (Asleep c) is = absurd (let z : ⊥ = cc in z)
which Zombie is = absurd (let z : ⊥ = cc in z)

slot_awake : {S : Type 0} (x : Slot S) → is_awake x ≡ true → (is_runnable x ≡ true) ⊎ (is_running x ≡ true)
slot_awake None is = absurd (let z : ⊥ = cc in z)
slot_awake (Some p) is = which p.status is

counted : {S : Type 0} (t : Table S) (q : ℕ) (x : Slot S) → at t q ≡ x → is_awake x ≡ true → 1 ≤ count_by is_awake t
counted t q None is awake = absurd (let z : ⊥ = cc in z)
counted t q (Some p) is awake = there_is_counted is_awake t q None (used_within t q p is) (ap is_awake is ∙ awake)

pub awake_or_asleep : {S : Type 0} (t : Table S) → IsAwake t ⊎ AllAsleep t
awake_or_asleep t = by (none_or_some (count_by is_awake t))
  where
    by : (count_by is_awake t ≡ 0) ⊎ (1 ≤ count_by is_awake t) → IsAwake t ⊎ AllAsleep t
    by (inl none) = inr (λ q awake. omega (arith, none, counted t q (at t q) refl awake))
    by (inr some) = let q = counted_is_there is_awake t None some in inl (record { pid = q.0; awake = slot_awake (at t q.0) q.2 })
