-- A dispatch to hart 0 and the trap behind it are a turn.
use Rattle.std.proofs.Common.{◌≡◌, ℕ, ◌+◌, Bool, true, false, Option, Some, None, refl, sym, ap, subst, ◌∙◌, arith}
use Rattle.std.specs.Prelude.{IfSome, count_by, if◌then◌else◌}
use Rattle.std.proofs.lemmas.Bool.{eq-eqb}
use Rattle.user_calls.specs.declared.calls.Call.{Call}
use Rattle.user_calls.specs.declared.calls.Reply.{Reply}
use Rattle.proc_table.specs.declared.states.Status.{Status}
use Rattle.proc_table.specs.declared.states.Status.TheVariants.{Runnable, Running, Asleep, Zombie}
use Rattle.proc_table.specs.Slots.{Slot, Table, at, has_status, is_runnable, is_runnable_status, is_running, is_running_status, is_running_on, tally}
use Rattle.proc_table.specs.Calls.{CanDispatch, dispatched, with_status}
use Rattle.kernel_model.specs.declared.events.Event.TheVariants.{Dispatch, Trap}
use Rattle.kernel_model.specs.KernelState.{KernelState}
use Rattle.kernel_model.specs.Events.{acted, counted, happens, then_happens, trapped}
use Rattle.kernel_model.specs.Sound.{IsSound}
use Rattle.kernel_model.proofs.Sound.{dispatch_sound}
use Rattle.kernel_model.proofs.Lasting.{happens_later}
use Rattle.kernel_model.proofs.Runs.{dispatch_happens}
use Rattle.proc_table.proofs.Changes.{written}
use Rattle.proc_table.proofs.Counts.{status_counts}
use Rattle.kernel_model.specs.Turns.{after_turn}

idle_once : (s : Status) → is_runnable_status s ≡ true → is_running_status s ≡ false
idle_once Runnable r = refl
idle_once (Running other) r = absurd (let z : ⊥ = cc in z)
idle_once (Asleep c) r = refl
idle_once Zombie r = refl

one_by : {S : Type 0} (t : Table S) (pid h : ℕ) (x : Slot S) → at t pid ≡ x → is_runnable x ≡ true → count_by is_running (dispatched t pid h) ≡ count_by is_running t + 1
one_by t pid h None is ready = absurd (let z : ⊥ = cc in z)
one_by t pid h (Some p) is ready = omega (arith, status_counts is_running_status t pid p (with_status (Running h) (at t pid)) (Running h) is (ap (λ (y : Slot _). has_status is_running_status (with_status (Running h) y)) is), ap tally (idle_once p.status ready))

given_runs : {S : Type 0} (h : ℕ) (x : Slot S) → is_runnable x ≡ true → is_running_on h (with_status (Running h) x) ≡ true
given_runs h None ready = absurd (let z : ⊥ = cc in z)
given_runs h (Some p) ready = eq-eqb h h refl

runs_any : {S : Type 0} (h : ℕ) (x : Slot S) → is_runnable x ≡ true → is_running (with_status (Running h) x) ≡ true
runs_any h None ready = absurd (let z : ⊥ = cc in z)
runs_any h (Some p) ready = refl

module _ {S : Type 0} (k d : KernelState S) (pid : ℕ) (can : CanDispatch k.table 0 pid) (given : d ≡ record (counted k) { table = dispatched k.table pid 0 }) where
  table : d.table ≡ dispatched k.table pid 0
  table = ap (λ (j : KernelState S). j.table) given

  there : at d.table pid ≡ with_status (Running 0) (at k.table pid)
  there = ap (λ (t : Table S). at t pid) table ∙ written (with_status (Running 0)) refl k.table pid

  runs_here : is_running_on 0 (at d.table pid) ≡ true
  runs_here = ap (is_running_on 0) there ∙ given_runs 0 (at k.table pid) can.2

  pub runs : is_running (at d.table pid) ≡ true
  runs = ap is_running there ∙ runs_any 0 (at k.table pid) can.2

  pub given_sound : IsSound k.table k.entries → IsSound d.table d.entries
  given_sound sound = subst (λ (j : KernelState S). IsSound j.table j.entries) (sym given) (dispatch_sound k.table pid 0 k.entries sound)

  pub given_events : d.events ≡ k.events + 1
  given_events = ap (λ (j : KernelState S). j.events) given

  pub given_counts : count_by is_running k.table ≡ 0 → count_by is_running d.table ≡ 1
  given_counts none = omega (arith, none, one_by k.table pid 0 (at k.table pid) refl can.2, ap (count_by is_running) table)

  module _ (call : S → Reply → Call) (next : S → Reply → S) (m : KernelState S) (c : Call) (called : IfSome (at d.table pid) (λ p. c ≡ call p.machine p.reply)) (went : IfSome (at d.table pid) (λ p. m ≡ acted (counted d) pid (next p.machine p.reply) c false)) where
    trap_by : (x : Slot S) → is_running_on 0 x ≡ true → IfSome x (λ p. c ≡ call p.machine p.reply) → IfSome x (λ p. m ≡ acted (counted d) pid (next p.machine p.reply) c false) → (if is_running_on 0 x then trapped call next d pid x false else None) ≡ Some m
    trap_by None on called went = absurd (let z : ⊥ = cc in z)
    trap_by (Some p) on called went =
        ap (λ (b : Bool). if b then trapped call next d pid (Some p) false else None) on ∙ (λ i. Some (acted (counted d) pid (next p.machine p.reply) (sym called i) false)) ∙ ap Some (sym went)

    trap_goes : happens call next d (Trap 0 pid) false ≡ Some m
    trap_goes = trap_by (at d.table pid) runs_here called went

    given_goes : happens call next k (Dispatch 0 pid) false ≡ Some d
    given_goes = dispatch_happens call next k 0 pid false can.0 can.1 can.2 ∙ ap Some (sym given)

    pub turned : after_turn call next k pid ≡ Some m
    turned = ap (λ (o : Option (KernelState S)). then_happens call next o (Trap 0 pid) false) given_goes ∙ trap_goes

    pub turned_events : m.events ≡ k.events + 2
    turned_events =
        let later : m.events ≡ d.events + 1 = (happens_later call next d m (Trap 0 pid) false trap_goes).events in
        omega (arith, later, given_events)
