-- Along every run from the start: what dispatches, calls that only sleep and calls that do more come to.
use Rattle.std.proofs.Common.{◌≡◌, ◌∙◌, ℕ, suc, ◌+◌, ◌*◌, ◌≤◌, Bool, true, false, List, [], ◌∷◌, ◌++◌, Option, Some, None, length, refl, sym, ap, subst, arith}
use Rattle.std.proofs.lemmas.Bool.{and_parts, not-true}
use Rattle.std.proofs.lemmas.List.Sums.{count_by-le-length, sum_by-cons}
use Rattle.std.specs.Prelude.{cond, count_by, nat_lt, not, if◌then◌else◌}
use Rattle.user_calls.specs.declared.calls.Call.{Call}
use Rattle.user_calls.specs.declared.calls.Reply.{Reply}
use Rattle.mem_files.specs.Name.{Bytes, Name}
use Rattle.mem_files.specs.Listing.{AreFiles}
use Rattle.proc_table.specs.declared.states.Status.{Status}
use Rattle.proc_table.specs.declared.states.Status.TheVariants.{Runnable, Running, Asleep, Zombie}
use Rattle.proc_table.specs.Slots.{Slot, Table, Process, at, put_of, has_status, is_asleep, is_asleep_status, is_running, is_running_on, is_running_status, is_runnable, is_runnable_status, tally}
use Rattle.proc_table.specs.Calls.{dispatched, with_status}
use Rattle.proc_table.proofs.Counts.{status_counts}
use Rattle.kernel_model.specs.declared.events.Event.{Event}
use Rattle.kernel_model.specs.declared.events.Event.TheVariants.{Dispatch, Trap}
use Rattle.kernel_model.specs.KernelState.{KernelState}
use Rattle.kernel_model.specs.Boot.{boot_kernel}
use Rattle.kernel_model.specs.Events.{acted, counted, can_dispatch, happens, is_dispatch, run, trapped}
use Rattle.kernel_model.specs.Sound.{IsSound}
use Rattle.kernel_model.proofs.Acts.{acted_after}
use Rattle.kernel_model.proofs.Keeps.{mid}
use Rattle.kernel_model.proofs.Runs.{run_more}
use Rattle.law_kernel.proofs.outcomes.Outcomes.{every_call_ends}
use Rattle.law_kernel.specs.Sleeping.{Rests}
use Rattle.law_kernel.proofs.kernel.Runs.{every_run_rests}
use Rattle.law_kernel.proofs.kernel.SoundRuns.{every_run_is_sound, every_run_has_files, hart_runs}
use Rattle.law_kernel.specs.Kinds.{fell_asleep, only_sleeps, does_more, count_event, count_events}
use Rattle.law_kernel.proofs.lengths.Falling.{falls}
use Rattle.kernel_model.proofs.Lasting.{no_run}

-- from k on, n events led to m, of which d were dispatches, s calls that only sleep, and o calls that do more
pub record Spent {S : Type 0} (k m : KernelState S) (n d s o : ℕ) : Type 0 where
  pub kinds : n ≡ d + (s + o)
  pub turns : count_by is_running m.table + (s + o) ≡ count_by is_running k.table + d
  pub naps : count_by is_asleep k.table + s ≤ count_by is_asleep m.table + 64 * o

joined : {S : Type 0} (k l m : KernelState S) (n p d e s t o u : ℕ) → Spent k l n d s o → Spent l m p e t u → Spent k m (n + p) (d + e) (s + t) (o + u)
joined k l m n p d e s t o u a b =
    record {
      kinds = omega (arith, a.kinds, b.kinds);
      turns = omega (arith, a.turns, b.turns);
      naps = omega (arith, a.naps, b.naps);
    }

if_true : {X : Type 0} (b : Bool) (o : Option X) (x : X) → (if b then o else None) ≡ Some x → (b ≡ true) × (o ≡ Some x)
if_true true o x is = (refl, is)
if_true false o x is = absurd (let z : ⊥ = cc in z)

-- ---- a dispatch

module _ {S : Type 0} (t : Table S) (pid h : ℕ) where
  given_by : (x : Slot S) → at t pid ≡ x → is_runnable x ≡ true → (count_by is_running (dispatched t pid h) ≡ count_by is_running t + 1) × (count_by is_asleep (dispatched t pid h) ≡ count_by is_asleep t)
  given_by None is ready = absurd (let z : ⊥ = cc in z)
  given_by (Some p) is ready = (
    omega (arith, status_counts is_running_status t pid p (with_status (Running h) (at t pid)) (Running h) is (ap (λ (x : Slot S). has_status is_running_status (with_status (Running h) x)) is), ap tally (not_running p.status ready)),
    omega (arith, status_counts is_asleep_status t pid p (with_status (Running h) (at t pid)) (Running h) is (ap (λ (x : Slot S). has_status is_asleep_status (with_status (Running h) x)) is), ap tally (not_asleep p.status ready)),
  ) where
    not_running : (s : Status) → is_runnable_status s ≡ true → is_running_status s ≡ false
    not_running Runnable r = refl
    not_running (Running other) r = absurd (let z : ⊥ = cc in z)
    not_running (Asleep c) r = refl
    not_running Zombie r = refl

    not_asleep : (s : Status) → is_runnable_status s ≡ true → is_asleep_status s ≡ false
    not_asleep Runnable r = refl
    not_asleep (Running other) r = refl
    not_asleep (Asleep c) r = absurd (let z : ⊥ = cc in z)
    not_asleep Zombie r = refl

module _ {S : Type 0} (call : S → Reply → Call) (next : S → Reply → S) where
  -- what an event comes to, in a kernel of a run
  abbrev SpentBy : KernelState S → Event → KernelState S → Type 0
  SpentBy k e new = Spent k new 1 (tally (is_dispatch e)) (tally (only_sleeps k e new)) (tally (does_more k e new))

  module _ (k : KernelState S) (rests : Rests k.table k.pipes) (sound : IsSound k.table k.entries) (files : AreFiles k.files) where
    dispatch_spends : (h pid : ℕ) (new : KernelState S) → is_runnable (at k.table pid) ≡ true → record (counted k) { table = dispatched k.table pid h } ≡ new → SpentBy k (Dispatch h pid) new
    dispatch_spends h pid new ready is =
        let table : new.table ≡ dispatched k.table pid h = ap (λ (l : KernelState S). l.table) (sym is) in
        let counts = given_by k.table pid h (at k.table pid) refl ready in
        record {
          kinds = refl;
          turns = omega (arith, counts.0, ap (count_by is_running) table);
          naps = omega (arith, counts.1, ap (count_by is_asleep) table);
        }

    at_most : count_by is_asleep k.table ≤ 64
    at_most = omega (arith, count_by-le-length is_asleep k.table, sound.slots)

    -- a trap, by whether it only sleeps
    by_kind : (b : Bool) (pid h : ℕ) (p : Process S) (after : S) (c : Call) (refused : Bool) → at k.table pid ≡ Some p → is_running_on h (Some p) ≡ true
        → fell_asleep k pid (acted (counted k) pid after c refused) ≡ b
        → count_by is_asleep k.table + tally b ≤ count_by is_asleep (acted (counted k) pid after c refused).table + 64 * tally (not b)
    by_kind false pid h p after c refused is runs kind = omega (arith, at_most)
    by_kind true pid h p after c refused is runs kind =
        let new = acted (counted k) pid after c refused in
        let parts = and_parts (is_asleep (at new.table pid)) (not (nat_lt (put_of (at k.table pid)) (put_of (at new.table pid)))) kind in
        omega (arith, falls (counted k) pid h p is runs rests.waits after c new (every_call_ends (counted k) pid after c refused) parts.0 (not-true (nat_lt (put_of (at k.table pid)) (put_of (at new.table pid))) parts.1))

    trap_spends : (h pid : ℕ) (x : Slot S) (refused : Bool) (new : KernelState S) → at k.table pid ≡ x → is_running_on h x ≡ true → trapped call next k pid x refused ≡ Some new → SpentBy k (Trap h pid) new
    trap_spends h pid None refused new is runs went = absurd (let z : ⊥ = cc in z)
    trap_spends h pid (Some p) refused new is runs went =
        let after = next p.machine p.reply in
        let c = call p.machine p.reply in
        let it : acted (counted k) pid after c refused ≡ new = cc in
        let keeps = acted_after (count_by is_running k.table) pid (counted k) after c refused files (mid k.table k.entries pid sound (ap is_running is ∙ hart_runs h p.status runs)) in
        subst (SpentBy k (Trap h pid)) it
        (record {
          kinds = one (fell_asleep k pid (acted (counted k) pid after c refused));
          turns = omega (arith, keeps.count, one (fell_asleep k pid (acted (counted k) pid after c refused)));
          naps = by_kind (fell_asleep k pid (acted (counted k) pid after c refused)) pid h p after c refused is runs refl;
        }) where
          one : (b : Bool) → 1 ≡ 0 + (tally b + tally (not b))
          one true = refl
          one false = refl

    event_spends : (e : Event) (refused : Bool) (new : KernelState S) → happens call next k e refused ≡ Some new → SpentBy k e new
    event_spends (Dispatch h pid) refused new went =
        let both = if_true (can_dispatch k.table h pid) (Some (record (counted k) { table = dispatched k.table pid h })) new went in
        let is : record (counted k) { table = dispatched k.table pid h } ≡ new = let e = both.1 in cc in
        dispatch_spends h pid new (and_parts _ (is_runnable (at k.table pid)) both.0).1 is
    event_spends (Trap h pid) refused new went =
        let both = if_true (is_running_on h (at k.table pid)) (trapped call next k pid (at k.table pid) refused) new went in
        trap_spends h pid (at k.table pid) refused new refl both.0 both.1

  module _ (init shell : S) (input : Bytes) (list : List (Name × Bytes)) (are : AreFiles list) where
    abbrev boot : KernelState S
    boot = boot_kernel init shell input list

    -- what the rest of a run comes to
    abbrev pub SpentIn : KernelState S → KernelState S → List Event → List Bool → Type 0
    SpentIn k m events notes = Spent k m (length events) (count_by is_dispatch events) (count_events call next only_sleeps (Some k) events notes) (count_events call next does_more (Some k) events notes)

    spends : (events : List Event) (notes : List Bool) (k m : KernelState S) (before : List Event) (noted : List Bool) → run call next (Some boot) before noted ≡ Some k → run call next (Some k) events notes ≡ Some m → SpentIn k m events notes
    spends [] [] k m before noted so_far is =
        let it : k ≡ m = cc in
        subst (λ (l : KernelState S). SpentIn k l [] []) it (record { kinds = refl; turns = omega arith; naps = omega arith })
    spends [] (n ∷ ns) k m before noted so_far is = absurd (let z : ⊥ = cc in z)
    spends (e ∷ es) [] k m before noted so_far is = absurd (let z : ⊥ = cc in z)
    spends (e ∷ es) (n ∷ ns) k m before noted so_far is =
        by (happens call next k e n) refl is (λ new so_on goes. spends es ns new m (before ++ e ∷ []) (noted ++ n ∷ []) so_on goes) where
          first : Rests k.table k.pipes
          first = every_run_rests call next init shell input list before noted k so_far

          order : IsSound k.table k.entries
          order = every_run_is_sound call next init shell input list before noted k are so_far

          named : AreFiles k.files
          named = every_run_has_files call next init shell input list before noted k are so_far

          dispatches : count_by is_dispatch (e ∷ es) ≡ tally (is_dispatch e) + count_by is_dispatch es
          dispatches = omega (arith, sum_by-cons (λ y. cond {A = ℕ} (is_dispatch y) 1 0) e es, as_tally (is_dispatch e)) where
            as_tally : (b : Bool) → cond {A = ℕ} b 1 0 ≡ tally b
            as_tally true = refl
            as_tally false = refl

          by : (o : Option (KernelState S)) → happens call next k e n ≡ o → run call next o es ns ≡ Some m
              → ((new : KernelState S) → run call next (Some boot) (before ++ e ∷ []) (noted ++ n ∷ []) ≡ Some new → run call next (Some new) es ns ≡ Some m → SpentIn new m es ns)
              → Spent k m (suc (length es)) (count_by is_dispatch (e ∷ es)) (count_event call next only_sleeps k e o + count_events call next only_sleeps o es ns) (count_event call next does_more k e o + count_events call next does_more o es ns)
          by None went goes rest = absurd (no_run call next es ns m goes)
          by (Some new) went goes rest =
              let later = rest new (run_more call next (Some boot) before noted k new e n so_far went) goes in
              let one = event_spends k first order named e n new went in
              let all = joined k new m 1 (length es) (tally (is_dispatch e)) (count_by is_dispatch es) _ _ _ _ one later in
              record {
                kinds = omega (arith, all.kinds, dispatches);
                turns = omega (arith, all.turns, dispatches);
                naps = all.naps;
              }

    pub every_run_spends : (events : List Event) (notes : List Bool) (m : KernelState S) → run call next (Some boot) events notes ≡ Some m → SpentIn boot m events notes
    every_run_spends events notes m is = spends events notes boot m [] [] refl is

    pub nobody_runs : count_by is_running boot.table ≡ 0
    nobody_runs = refl

    pub nobody_sleeps : count_by is_asleep boot.table ≡ 0
    nobody_sleeps = refl

    pub within : (events : List Event) (notes : List Bool) (m : KernelState S) → run call next (Some boot) events notes ≡ Some m → (count_by is_running m.table ≤ 64) × (count_by is_asleep m.table ≤ 64)
    within events notes m is =
        let slots = (every_run_is_sound call next init shell input list events notes m are is).slots in
        (omega (arith, count_by-le-length is_running m.table, slots), omega (arith, count_by-le-length is_asleep m.table, slots))
