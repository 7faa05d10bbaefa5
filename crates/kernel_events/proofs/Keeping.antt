-- A kernel that goes on by one event is still the one that its schedule leads to.
use Rattle.std.proofs.Common.{◌≡◌, ℕ, ◌+◌, ◌*◌, ◌<◌, ◌≤◌, [], ◌∷◌, ◌++◌, Bool, true, false, Some, None, length, refl, sym, ap, subst, ◌∙◌, arith}
use Rattle.std.specs.Prelude.{All, IfSome, cond, count_by, if◌then◌else◌}
use Rattle.std.proofs.lemmas.Bool.{eq-eqb}
use Rattle.std.proofs.lemmas.List.Sums.{count_by-le-length, sum_by_push}
use Rattle.user_calls.specs.declared.calls.Call.{Call}
use Rattle.user_calls.specs.declared.calls.Reply.{Reply}
use Rattle.proc_table.specs.declared.states.Status.{Status}
use Rattle.proc_table.specs.declared.states.Status.TheVariants.{Runnable, Running, Asleep, Zombie}
use Rattle.proc_table.specs.declared.pid.TheConstants.{PROCS}
use Rattle.proc_table.specs.declared.table.TheConstants.{HARTS}
use Rattle.proc_table.specs.Slots.{Slot, Table, at, is_runnable, is_running, is_running_on, is_running_status, is_runnable_status, tally}
use Rattle.proc_table.specs.Calls.{dispatched, with_status}
use Rattle.kernel_model.specs.declared.events.Event.{Event}
use Rattle.kernel_model.specs.declared.events.Event.TheVariants.{Dispatch, Trap}
use Rattle.kernel_model.specs.KernelState.{KernelState}
use Rattle.kernel_model.specs.Events.{acted, counted, happens, is_dispatch, run, trapped}
use Rattle.kernel_model.specs.History.{IsKept, Written}
use Rattle.kernel_model.specs.Sound.{IsSound}
use Rattle.kernel_model.proofs.Lasting.{happens_later}
use Rattle.kernel_model.proofs.Runs.{run_more, length_more, dispatch_happens}
use Rattle.proc_table.proofs.Changes.{written}
use Rattle.proc_table.proofs.Counts.{status_counts}
use Rattle.kernel_model.proofs.Sound.{dispatch_sound}

pub kept_after : {S : Type 0} (call : S → Reply → Call) (next : S → Reply → S) (boot old new : KernelState S) (before after : Written) (e : Event) (note : Bool) → IsKept call next boot old before → happens call next old e note ≡ Some new → after.events ≡ before.events ++ e ∷ [] → after.notes ≡ before.notes ++ note ∷ [] → count_by is_running new.table ≤ after.room → count_by is_running new.table + 1 ≡ count_by is_running old.table + 2 * cond (is_dispatch e) 1 0 → IsSound new.table new.entries → IsKept call next boot new after
kept_after call next boot old new before after e note kept happened events notes owed runs sound =
    record {
      begun = kept.begun;
      runs = (λ i. run call next (Some boot) (events i) (notes i)) ∙ run_more call next (Some boot) before.events before.notes old new e note kept.runs happened;
      owed = owed;
      paired = omega (arith, kept.paired, runs, ap length events, length_more before.events e, ap (count_by is_dispatch) events, sum_by_push (λ (x : Event). cond (is_dispatch x) 1 0) before.events e);
      counted = (happens_later call next old new e note happened).events ∙ ap (λ n. n + 1) kept.counted ∙ sym (ap length events ∙ length_more before.events e);
      sound = sound;
    }

one_by : {S : Type 0} (t : Table S) (pid h : ℕ) (x : Slot S) → at t pid ≡ x → is_runnable x ≡ true → count_by is_running (dispatched t pid h) ≡ count_by is_running t + 1
one_by t pid h None is ready = absurd (let z : ⊥ = cc in z)
one_by t pid h (Some p) is ready = omega (arith, status_counts is_running_status t pid p (with_status (Running h) (at t pid)) (Running h) is (ap (λ (y : Slot _). Rattle.proc_table.specs.Slots.has_status is_running_status (with_status (Running h) y)) is), ap tally (idle p.status ready)) where
  idle : (s : Status) → is_runnable_status s ≡ true → is_running_status s ≡ false
  idle Runnable r = refl
  idle (Running other) r = absurd (let z : ⊥ = cc in z)
  idle (Asleep c) r = refl
  idle Zombie r = refl

-- there are no more processes that run than slots
pub all_fit : {S : Type 0} (t : Table S) → length t ≡ PROCS → count_by is_running t ≤ PROCS
all_fit t slots = omega (arith, count_by-le-length is_running t, slots)

-- a dispatch makes one process more run
pub one_more_runs : {S : Type 0} (t : Table S) (pid h : ℕ) → is_runnable (at t pid) ≡ true → count_by is_running (dispatched t pid h) ≡ count_by is_running t + 1
one_more_runs t pid h ready = one_by t pid h (at t pid) refl ready

module _ {S : Type 0} (call : S → Reply → Call) (next : S → Reply → S) (old new : KernelState S) (h pid : ℕ) (small : h < HARTS) (idle : All (λ slot. is_running_on h slot ≡ false) old.table) (ready : is_runnable (at old.table pid) ≡ true) (is : new ≡ record (counted old) { table = dispatched old.table pid h }) where
  pub dispatch_goes : happens call next old (Dispatch h pid) false ≡ Some new
  dispatch_goes = dispatch_happens call next old h pid false small idle ready ∙ ap Some (sym is)

  pub dispatch_kept : (boot : KernelState S) (before after : Written) → IsKept call next boot old before → after.events ≡ before.events ++ Dispatch h pid ∷ [] → after.notes ≡ before.notes ++ false ∷ [] → count_by is_running old.table + 1 ≤ after.room → IsKept call next boot new after
  dispatch_kept boot before after kept events notes owed =
      let one = one_more_runs old.table pid h ready in
      let table : new.table ≡ dispatched old.table pid h = ap (λ (k : KernelState S). k.table) is in
      let sound : IsSound new.table new.entries = subst (λ (k : KernelState S). IsSound k.table k.entries) (sym is) (dispatch_sound old.table pid h old.entries kept.sound) in
      kept_after call next boot old new before after (Dispatch h pid) false kept dispatch_goes events notes (omega (arith, one, ap (count_by is_running) table, owed)) (omega (arith, one, ap (count_by is_running) table)) sound

given_runs : {S : Type 0} (h : ℕ) (x : Slot S) → is_runnable x ≡ true → is_running_on h (with_status (Running h) x) ≡ true
given_runs h None ready = absurd (let z : ⊥ = cc in z)
given_runs h (Some p) ready = eq-eqb h h refl

-- the process that was dispatched runs on that hart
pub runs_there : {S : Type 0} (t : Table S) (pid h : ℕ) → is_runnable (at t pid) ≡ true → is_running_on h (at (dispatched t pid h) pid) ≡ true
runs_there t pid h ready = ap (is_running_on h) (written (with_status (Running h)) refl t pid) ∙ given_runs h (at t pid) ready

module _ {S : Type 0} (call : S → Reply → Call) (next : S → Reply → S) (k new : KernelState S) (h pid : ℕ) (c : Call) (refused : Bool) where
  trap_by : (x : Slot S) → is_running_on h x ≡ true → IfSome x (λ p. c ≡ call p.machine p.reply) → IfSome x (λ p. new ≡ acted (counted k) pid (next p.machine p.reply) c refused) → (if is_running_on h x then trapped call next k pid x refused else None) ≡ Some new
  trap_by None runs called went = absurd (let z : ⊥ = cc in z)
  trap_by (Some p) runs called went =
      ap (λ (b : Bool). if b then trapped call next k pid (Some p) refused else None) runs ∙ (λ i. Some (acted (counted k) pid (next p.machine p.reply) (sym called i) refused)) ∙ ap Some (sym went)

  -- the trap of a process that runs there, by the call that it makes and the kernel after it
  pub trap_goes : is_running_on h (at k.table pid) ≡ true → IfSome (at k.table pid) (λ p. c ≡ call p.machine p.reply) → IfSome (at k.table pid) (λ p. new ≡ acted (counted k) pid (next p.machine p.reply) c refused) → happens call next k (Trap h pid) refused ≡ Some new
  trap_goes runs called went = trap_by (at k.table pid) runs called went
