-- One turn: a dispatch isn't seen where the kernel is idle, and whoever is Runnable there can be dispatched and trap at once.
use Rattle.std.proofs.Common.{◌≡◌, ℕ, zero, suc, ◌<◌, [], ◌∷◌, Bool, true, false, Some, None, length, get_or, refl, sym, ap, subst, ◌∙◌, arith}
use Rattle.std.proofs.Math.Seq.{map-set_same}
use Rattle.std.proofs.lemmas.List.Sums.{sum_by-cons}
use Rattle.std.specs.Prelude.{if◌then◌else◌, cond, count_by}
use Rattle.user_calls.specs.declared.calls.Call.{Call}
use Rattle.user_calls.specs.declared.calls.Reply.{Reply}
use Rattle.proc_table.specs.declared.states.Status.{Status}
use Rattle.proc_table.specs.declared.states.Status.TheVariants.{Runnable, Running, Asleep, Zombie}
use Rattle.proc_table.specs.Slots.{Slot, Table, Process, at, is_runnable, is_runnable_status, is_running, is_running_status, is_running_on, tally}
use Rattle.proc_table.specs.Calls.{dispatched, with_status}
use Rattle.proc_table.proofs.Changes.{written}
use Rattle.proc_table.proofs.Counts.{status_counts}
use Rattle.kernel_model.specs.declared.events.Event.TheVariants.{Dispatch, Trap}
use Rattle.kernel_model.specs.KernelState.{KernelState}
use Rattle.kernel_model.specs.Events.{acted, counted, trapped, happens}
use Rattle.kernel_model.proofs.Acts.{acted_after}
use Rattle.kernel_model.proofs.Along.{acted_along}
use Rattle.kernel_model.proofs.Keeps.{mid}
use Rattle.kernel_model.proofs.Runs.{dispatch_happens}
use Rattle.law_kernel.proofs.kernel.SoundRuns.{InOrder, InOrderIf, then_in_order, hart_runs}
use Rattle.kernel_model.specs.Idle.{idle_slot, idle_status, idle_kernel}
use Rattle.kernel_model.specs.Alike.{Alike, IsStill, HasNamesUpTo}
use Rattle.law_turns.proofs.orders.Tables.{at_idle, idle_table}
use Rattle.law_turns.proofs.orders.Names.{more_names, acted_names}

-- ---- nobody runs

none_by : {S : Type 0} (x : Slot S) (t : Table S) (b : Bool) → is_running x ≡ b → count_by is_running (x ∷ t) ≡ 0 → (is_running x ≡ false) × (count_by is_running t ≡ 0)
none_by x t true is none =
    absurd (omega (arith, none, sum_by-cons (λ (y : Slot _). cond {A = ℕ} (is_running y) 1 0) x t, ap (λ (b : Bool). cond {A = ℕ} b 1 0) is))
none_by x t false is none = (is, omega (arith, none, sum_by-cons (λ (y : Slot _). cond {A = ℕ} (is_running y) 1 0) x t))

none_within : {S : Type 0} (t : Table S) (k : ℕ) (d : Slot S) → count_by is_running t ≡ 0 → k < length t → is_running (get_or t k d) ≡ false
none_within [] k d none within = absurd (omega arith)
none_within (x ∷ t) zero d none within = (none_by x t (is_running x) refl none).0
none_within (x ∷ t) (suc k) d none within = none_within t k d (none_by x t (is_running x) refl none).1 (omega arith)

pub none_runs : {S : Type 0} (t : Table S) (k : ℕ) → count_by is_running t ≡ 0 → is_running (at t k) ≡ false
none_runs [] k none = refl
none_runs (x ∷ t) zero none = (none_by x t (is_running x) refl none).0
none_runs (x ∷ t) (suc k) none = none_runs t k (none_by x t (is_running x) refl none).1

hart_free : {S : Type 0} (h : ℕ) (x : Slot S) (b : Bool) → is_running_on h x ≡ b → is_running x ≡ false → is_running_on h x ≡ false
hart_free h None b is still = refl
hart_free h (Some p) true is still = absurd (let z : true ≡ false = sym (hart_runs h p.status is) ∙ still in let no_way : ⊥ = cc in no_way)
hart_free h (Some p) false is still = is

-- ---- a dispatch isn't seen

runnable_idle : (name : ℕ → ℕ) (h : ℕ) (s : Status) → is_runnable_status s ≡ true → idle_status name (Running h) ≡ idle_status name s
runnable_idle name h Runnable is = refl
runnable_idle name h (Running g) is = refl
runnable_idle name h (Asleep c) is = absurd (let z : ⊥ = cc in z)
runnable_idle name h Zombie is = absurd (let z : ⊥ = cc in z)

slot_idle : {S : Type 0} (name : ℕ → ℕ) (h : ℕ) (x : Slot S) → is_runnable x ≡ true → idle_slot name (with_status (Running h) x) ≡ idle_slot name x
slot_idle name h None is = refl
slot_idle name h (Some p) is = λ i. Some (record p { status = runnable_idle name h p.status is i })

pub dispatch_idle : {S : Type 0} (name : ℕ → ℕ) (t : Table S) (pid h : ℕ) → is_runnable (at t pid) ≡ true → idle_table name (dispatched t pid h) ≡ idle_table name t
dispatch_idle name t pid h is = map-set_same (idle_slot name) t pid (with_status (Running h) (at t pid)) None (slot_idle name h (at t pid) is)

-- ---- the same process in two kernels that are alike

-- the slot holds a process with the machine and the reply of p, and is Runnable once it is idle
pub record CanRun {S : Type 0} (name : ℕ → ℕ) (p : Process S) (x : Slot S) : Type 0 where
  pub process : Process S
  pub there : x ≡ Some process
  pub machine : process.machine ≡ p.machine
  pub reply : process.reply ≡ p.reply
  pub ready : idle_status name process.status ≡ Runnable

running_idle : (name : ℕ → ℕ) (s : Status) → is_running_status s ≡ true → idle_status name s ≡ Runnable
running_idle name Runnable is = refl
running_idle name (Running h) is = refl
running_idle name (Asleep c) is = absurd (let z : ⊥ = cc in z)
running_idle name Zombie is = absurd (let z : ⊥ = cc in z)

can_run_by : {S : Type 0} (name other : ℕ → ℕ) (p : Process S) (x : Slot S) → idle_status name p.status ≡ Runnable → idle_slot name (Some p) ≡ idle_slot other x → CanRun other p x
can_run_by name other p None ready same = absurd (let z : ⊥ = cc in z)
can_run_by name other p (Some q) ready same =
    let here : record p { status = idle_status name p.status } ≡ record q { status = idle_status other q.status } = cc in
    record {
      process = q;
      there = refl;
      machine = sym (ap (λ (r : Process _). r.machine) here);
      reply = sym (ap (λ (r : Process _). r.reply) here);
      ready = sym (ap (λ (r : Process _). r.status) here) ∙ ready;
    }

pub slots_alike : {S : Type 0} (k l : KernelState S) (a : Alike k l) (pid : ℕ) → idle_slot a.first (at k.table pid) ≡ idle_slot a.second (at l.table pid)
slots_alike k l a pid = sym (at_idle a.first k.table pid) ∙ ap (λ (j : KernelState _). at j.table pid) a.same ∙ at_idle a.second l.table pid

pub can_run : {S : Type 0} (k l : KernelState S) (a : Alike k l) (pid : ℕ) (p : Process S) → at k.table pid ≡ Some p → is_running_status p.status ≡ true → CanRun a.second p (at l.table pid)
can_run k l a pid p is runs = can_run_by a.first a.second p (at l.table pid) (running_idle a.first p.status runs) (sym (ap (idle_slot a.first) is) ∙ slots_alike k l a pid)

pub ready_status : (name : ℕ → ℕ) (s : Status) → idle_status name s ≡ Runnable → is_running_status s ≡ false → is_runnable_status s ≡ true
ready_status name Runnable ready still = refl
ready_status name (Running h) ready still = absurd (let z : ⊥ = cc in z)
ready_status name (Asleep c) ready still = absurd (let z : ⊥ = cc in z)
ready_status name Zombie ready still = absurd (let z : ⊥ = cc in z)

-- a dispatch adds no name
pub dispatched_names : {S : Type 0} (k : KernelState S) (h pid : ℕ) → is_runnable (at k.table pid) ≡ true → HasNamesUpTo k.events k → HasNamesUpTo k.events (record (counted k) { table = dispatched k.table pid h })
dispatched_names k h pid ready names f g one two agree =
    (λ i. record (idle_kernel f 0 k) { table = dispatch_idle f k.table pid h ready i }) ∙ names f g one two agree ∙ sym (λ i. record (idle_kernel g 0 k) { table = dispatch_idle g k.table pid h ready i })

-- ---- a turn

-- the kernel after the process was dispatched by hart 0
abbrev pub given_0 : {S : Type 0} → KernelState S → ℕ → KernelState S
given_0 l pid = record (counted l) { table = dispatched l.table pid 0 }

module _ {S : Type 0} (call : S → Reply → Call) (next : S → Reply → S) where
  -- the kernel after a turn of the process q at pid
  abbrev pub after_turn : KernelState S → ℕ → Process S → Bool → KernelState S
  after_turn l pid q refused = acted (counted (given_0 l pid)) pid (next q.machine q.reply) (call q.machine q.reply) refused

  module _ (l : KernelState S) (pid : ℕ) (q : Process S) (refused : Bool) (still : IsStill l) (there : at l.table pid ≡ Some q) (ready : is_runnable_status q.status ≡ true) where
    pub given_happens : happens call next l (Dispatch 0 pid) false ≡ Some (given_0 l pid)
    given_happens =
        dispatch_happens call next l 0 pid false (omega arith)
        (λ k d within. hart_free 0 (get_or l.table k d) _ refl (none_within l.table k d still.idle within))
        (ap is_runnable there ∙ ready)

    on_0 : at (given_0 l pid).table pid ≡ Some (record q { status = Running 0 })
    on_0 = written (with_status (Running 0)) refl l.table pid ∙ ap (with_status (Running 0)) there

    runs_on : is_running_on 0 (at (given_0 l pid).table pid) ≡ true
    runs_on = ap (is_running_on 0) on_0

    pub turn_happens : happens call next (given_0 l pid) (Trap 0 pid) refused ≡ Some (after_turn l pid q refused)
    turn_happens =
        ap (λ (b : Bool). if b then trapped call next (given_0 l pid) pid (at (given_0 l pid).table pid) refused else None) runs_on ∙
        ap (λ (x : Slot S). trapped call next (given_0 l pid) pid x refused) on_0

    given_order : InOrder (given_0 l pid)
    given_order = subst InOrderIf given_happens (then_in_order call next (Some l) (Dispatch 0 pid) false (record { sound = still.sound; files = still.files }))

    given_counts : count_by is_running (given_0 l pid).table ≡ 1
    given_counts =
        omega (arith, status_counts is_running_status l.table pid q (with_status (Running 0) (at l.table pid)) (Running 0) there (ap (λ (x : Slot S). is_running (with_status (Running 0) x)) there), still.idle, ap tally (no_longer q.status ready)) where
          no_longer : (s : Status) → is_runnable_status s ≡ true → is_running_status s ≡ false
          no_longer Runnable is = refl
          no_longer (Running h) is = absurd (let z : ⊥ = cc in z)
          no_longer (Asleep c) is = absurd (let z : ⊥ = cc in z)
          no_longer Zombie is = absurd (let z : ⊥ = cc in z)

    pub given_names : HasNamesUpTo l.events (given_0 l pid)
    given_names = dispatched_names l 0 pid (ap is_runnable there ∙ ready) still.names

    pub turn_still : IsStill (after_turn l pid q refused)
    turn_still =
        let d : KernelState S = given_0 l pid in
        let kept = acted_after (count_by is_running d.table) pid (counted d) (next q.machine q.reply) (call q.machine q.reply) refused given_order.files (mid d.table d.entries pid given_order.sound (ap is_running on_0)) in
        let order : InOrder (after_turn l pid q refused) = subst InOrderIf turn_happens (then_in_order call next (Some d) (Trap 0 pid) refused given_order) in
        let events : (after_turn l pid q refused).events ≡ (counted d).events = (acted_along pid (next q.machine q.reply) (counted d) (call q.machine q.reply) refused).events in
        record {
          idle = omega (arith, kept.count, given_counts);
          sound = order.sound;
          files = order.files;
          names = more_names (after_turn l pid q refused) (counted d).events (after_turn l pid q refused).events (omega (arith, events)) (acted_names (counted d) pid (next q.machine q.reply) (call q.machine q.reply) refused (more_names (counted d) l.events (counted d).events (omega arith) given_names));
        }
