-- Where somebody is awake a run can go on: who runs makes its call, and where nobody runs on hart 0 who can run is given to it.
use Rattle.std.proofs.Common.{◌≡◌, ◌⊎◌, inl, inr, ℕ, Bool, true, false, Option, Some, None, refl, ap, ◌∙◌}
use Rattle.std.specs.Prelude.{if◌then◌else◌, is_some, not, nat_lt, ◌&&◌, position}
use Rattle.std.proofs.lemmas.List.Quantifiers.{position-Some}
use Rattle.proc_table.specs.declared.states.Status.{Status}
use Rattle.proc_table.specs.declared.states.Status.TheVariants.{Runnable, Running, Asleep, Zombie}
use Rattle.proc_table.specs.declared.table.TheConstants.{HARTS}
use Rattle.proc_table.specs.Slots.{Slot, at, is_runnable, is_running, is_running_on, is_running_status, is_running_on_status}
use Rattle.std.proofs.lemmas.Bool.{eq-eqb}
use Rattle.kernel_model.specs.declared.events.Event.TheVariants.{Dispatch, Trap}
use Rattle.kernel_model.specs.KernelState.{KernelState}
use Rattle.kernel_model.specs.Events.{can_dispatch, trapped}
use Rattle.sh_machine.specs.State.{User}
use Rattle.sh_machine.specs.Turn.{call_of, next_of}
use Rattle.law_runs.specs.Awake.{IsAwake}
use Rattle.law_runs.specs.GoingOn.{CanGoOn}

some_if : {X : Type 0} (b : Bool) (o : Option X) → b ≡ true → is_some o ≡ true → is_some (if b then o else None) ≡ true
some_if true o is there = there
some_if false o is there = absurd (let z : ⊥ = cc in z)

its_hart : (s : Status) → is_running_status s ≡ true → (h : ℕ) × (is_running_on_status h s ≡ true)
its_hart Runnable runs = absurd (let z : ⊥ = cc in z)
its_hart (Running h) runs = (h, eq-eqb h h refl)
its_hart (Asleep c) runs = absurd (let z : ⊥ = cc in z)
its_hart Zombie runs = absurd (let z : ⊥ = cc in z)

module _ (k : KernelState User) where
  calls_now : (h p : ℕ) (x : Slot User) → at k.table p ≡ x → is_running_on h x ≡ true → CanGoOn k
  calls_now h p None is runs = absurd (let z : ⊥ = cc in z)
  calls_now h p (Some y) is runs = record {
    event = Trap h p;
    happens = λ refused. some_if (is_running_on h (at k.table p)) (trapped call_of next_of k p (at k.table p) refused) (ap (is_running_on h) is ∙ runs) (ap (λ x. is_some (trapped call_of next_of k p x refused)) is);
  }

  runs_now : (p : ℕ) (x : Slot User) → at k.table p ≡ x → is_running x ≡ true → CanGoOn k
  runs_now p None is runs = absurd (let z : ⊥ = cc in z)
  runs_now p (Some y) is runs = let h = its_hart y.status runs in calls_now h.0 p (Some y) is h.1

  -- who can run, by who runs on hart 0
  given_now : (p : ℕ) → is_runnable (at k.table p) ≡ true → (o : Option ℕ) → position (is_running_on 0) k.table ≡ o → CanGoOn k
  given_now p ready (Some i) busy = calls_now 0 i (at k.table i) refl (position-Some (is_running_on 0) k.table i None busy).1
  given_now p ready None idle =
      record {
        event = Dispatch 0 p;
        happens = λ refused. some_if (can_dispatch k.table 0 p) _ (ap (λ o. nat_lt 0 HARTS && not (is_some o) && is_runnable (at k.table p)) idle ∙ ready) refl;
      }

  pub goes_on : IsAwake k.table → CanGoOn k
  goes_on awake = by awake.awake where
    by : (is_runnable (at k.table awake.pid) ≡ true) ⊎ (is_running (at k.table awake.pid) ≡ true) → CanGoOn k
    by (inl ready) = given_now awake.pid ready (position (is_running_on 0) k.table) refl
    by (inr runs) = runs_now awake.pid (at k.table awake.pid) refl runs
