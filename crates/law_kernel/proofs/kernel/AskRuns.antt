-- In every run from the start whoever sleeps makes a call that may sleep there.
use Rattle.std.proofs.Common.{◌≡◌, ◌⊎◌, ℕ, zero, suc, List, [], ◌∷◌, Bool, true, false, Option, Some, None, refl, sym, ap, subst, ◌∙◌, inl, inr}
use Rattle.std.specs.Prelude.{⊤, if◌then◌else◌}
use Rattle.user_calls.specs.declared.calls.Call.{Call}
use Rattle.user_calls.specs.declared.calls.Reply.{Reply}
use Rattle.proc_table.specs.declared.states.Channel.{Channel}
use Rattle.proc_table.specs.declared.states.Status.TheVariants.{Runnable, Running, Asleep}
use Rattle.proc_table.specs.Slots.{Slot, Process, at, is_running, is_running_on}
use Rattle.proc_table.specs.Calls.{dispatched, with_status}
use Rattle.mem_files.specs.Name.{Name, Bytes}
use Rattle.mem_files.specs.Listing.{AreFiles}
use Rattle.kernel_model.specs.declared.events.Event.{Event}
use Rattle.kernel_model.specs.declared.events.Event.TheVariants.{Dispatch, Trap}
use Rattle.kernel_model.specs.KernelState.{KernelState}
use Rattle.kernel_model.specs.Boot.{boot_kernel}
use Rattle.kernel_model.specs.Events.{counted, trapped, can_dispatch, happens, then_happens, run}
use Rattle.kernel_model.proofs.Offsets.{slot_cases}
use Rattle.law_kernel.specs.Sleeping.{SleepsOn}
use Rattle.law_kernel.proofs.kernel.Runs.{nobody_sleeps}
use Rattle.law_kernel.proofs.kernel.SoundRuns.{InOrder, InOrderIf, hart_runs, boot_in_order, then_in_order}
use Rattle.law_kernel.specs.Asking.{AllAsk}
use Rattle.law_kernel.proofs.kernel.Others.{Kept, kept_same}
use Rattle.law_kernel.proofs.kernel.Leaves.{leaves, leaves_same}
use Rattle.law_kernel.proofs.kernel.Asking.{asks_still}
use Rattle.law_kernel.proofs.kernel.AskCalls.{outcome_asks}
use Rattle.law_kernel.proofs.outcomes.Outcomes.{every_call_ends}

given_awake : {S : Type 0} (h : ℕ) (x : Slot S) (now : Process S) (c : Channel) → with_status (Running h) x ≡ Some now → now.status ≡ Asleep c → ⊥
given_awake h None now c is sleeps = cc
given_awake h (Some p) now c is sleeps = let runs : now.status ≡ Running h = let it : record p { status = Running h } ≡ now = cc in ap (λ (q : Process _). q.status) (sym it) in cc

module _ {S : Type 0} (call : S → Reply → Call) (next : S → Reply → S) where
  abbrev AsksIf : Option (KernelState S) → Type 0
  AsksIf None = ⊤
  AsksIf (Some k) = AllAsk call k

  -- that an event is counted changes nothing of it
  counted_asks : (k : KernelState S) → AllAsk call k → AllAsk call (counted k)
  counted_asks k all q now c is sleeps = asks_still call k (counted k) q all (leaves_same q k) now c is sleeps

  dispatch_asks : (k : KernelState S) (pid h : ℕ) → AllAsk call k → AllAsk call (record (counted k) { table = dispatched k.table pid h })
  dispatch_asks k pid h all q now c is sleeps = asks_still call k l q all (leaves q k l (by (slot_cases k.table pid q (with_status (Running h) (at k.table pid)))) (λ p at_q fd e object held has. has)) now c is sleeps where
    l : KernelState S
    l = record (counted k) { table = dispatched k.table pid h }

    by : (at l.table q ≡ with_status (Running h) (at k.table pid)) ⊎ (at l.table q ≡ at k.table q) → Kept (at k.table q) (at l.table q)
    by (inl given) = λ now c is sleeps. absurd (given_awake h (at k.table pid) now c (sym given ∙ is) sleeps)
    by (inr same) = kept_same (at k.table q) (at l.table q) same

  asks_where : (b : Bool) (o : Option (KernelState S)) → (b ≡ true → AsksIf o) → AsksIf (if b then o else None)
  asks_where true o a = a refl
  asks_where false o a = tt

  trap_asks : (k : KernelState S) (h pid : ℕ) (x : Slot S) (refused : Bool) → at k.table pid ≡ x → is_running_on h x ≡ true → InOrder k → AllAsk call k → AsksIf (trapped call next k pid x refused)
  trap_asks k h pid None refused is runs order all = tt
  trap_asks k h pid (Some p) refused is runs order all =
      let after : S = next p.machine p.reply in
      outcome_asks call (counted k) pid p is (counted_asks k all) order.sound (ap is_running is ∙ hart_runs h p.status runs) after _ (every_call_ends (counted k) pid after (call p.machine p.reply) refused)

  happens_asks : (k : KernelState S) (e : Event) (refused : Bool) → InOrder k → AllAsk call k → AsksIf (happens call next k e refused)
  happens_asks k (Dispatch h pid) refused order all =
      asks_where (can_dispatch k.table h pid) (Some (record (counted k) { table = dispatched k.table pid h })) (λ _. dispatch_asks k pid h all)
  happens_asks k (Trap h pid) refused order all =
      asks_where (is_running_on h (at k.table pid)) (trapped call next k pid (at k.table pid) refused) (λ runs. trap_asks k h pid (at k.table pid) refused refl runs order all)

  then_asks : (o : Option (KernelState S)) (e : Event) (refused : Bool) → InOrderIf o → AsksIf o → AsksIf (then_happens call next o e refused)
  then_asks None e refused order all = tt
  then_asks (Some k) e refused order all = happens_asks k e refused order all

  run_asks : (o : Option (KernelState S)) (events : List Event) (notes : List Bool) → InOrderIf o → AsksIf o → AsksIf (run call next o events notes)
  run_asks o [] [] order all = all
  run_asks o (e ∷ es) (n ∷ ns) order all = run_asks (then_happens call next o e n) es ns (then_in_order call next o e n order) (then_asks o e n order all)
  run_asks o [] (n ∷ ns) order all = tt
  run_asks o (e ∷ es) [] order all = tt

  nobody_asks : (init shell : S) (input : Bytes) (list : List (Name × Bytes)) → AllAsk call (boot_kernel init shell input list)
  nobody_asks init shell input list zero now c is sleeps = absurd (let z : ⊥ = let it : Runnable ≡ now.status = cc in cc in z)
  nobody_asks init shell input list (suc zero) now c is sleeps = absurd (let z : ⊥ = let it : Runnable ≡ now.status = cc in cc in z)
  nobody_asks init shell input list (suc (suc q)) now c is sleeps =
      absurd (nobody_sleeps init shell (suc (suc q)) c (subst (λ (x : Slot S). SleepsOn x c) (sym is) sleeps))

  pub every_run_asks : (init shell : S) (input : Bytes) (list : List (Name × Bytes)) (events : List Event) (notes : List Bool) (m : KernelState S)
      → AreFiles list → run call next (Some (boot_kernel init shell input list)) events notes ≡ Some m → AllAsk call m
  every_run_asks init shell input list events notes m are is =
      let boot = boot_kernel init shell input list in
      subst AsksIf is (run_asks (Some boot) events notes (boot_in_order init shell input list are) (nobody_asks init shell input list))
