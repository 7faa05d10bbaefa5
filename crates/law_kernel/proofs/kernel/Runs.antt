-- In every run from the start whoever sleeps has to: at the start nobody sleeps, and each event keeps it.
use Rattle.std.proofs.Common.{◌≡◌, ℕ, zero, suc, List, [], ◌∷◌, Bool, true, false, Option, Some, None, refl, sym, ap, subst, ◌∙◌}
use Rattle.std.proofs.lemmas.Bool.{both_ways, eqb-true}
use Rattle.std.specs.Prelude.{⊤, if◌then◌else◌, replicate}
use Rattle.user_calls.specs.declared.calls.Call.{Call}
use Rattle.user_calls.specs.declared.calls.Reply.{Reply}
use Rattle.fd_table.specs.declared.names.Object.TheVariants.{Input, Out, Diag}
use Rattle.proc_table.specs.declared.states.Channel.{Channel}
use Rattle.proc_table.specs.declared.states.Status.{Status}
use Rattle.proc_table.specs.declared.states.Status.TheVariants.{Runnable, Running, Asleep, Zombie}
use Rattle.proc_table.specs.Slots.{Table, Slot, at, is_free, is_child_of, is_zombie, is_zombie_status, is_running_on, is_running_on_status}
use Rattle.proc_table.specs.Calls.{boot_table, dispatched, with_status}
use Rattle.proc_table.proofs.Changes.{written}
use Rattle.mem_files.specs.Name.{Name, Bytes}
use Rattle.kernel_model.specs.declared.events.Event.{Event}
use Rattle.kernel_model.specs.declared.events.Event.TheVariants.{Dispatch, Trap}
use Rattle.kernel_model.specs.KernelState.{KernelState}
use Rattle.kernel_model.specs.Pipes.{Pipes}
use Rattle.kernel_model.specs.Descriptors.{with_open}
use Rattle.kernel_model.specs.Boot.{closed_kernel, boot_kernel}
use Rattle.kernel_model.specs.Events.{counted, trapped, can_dispatch, happens, then_happens, run}
use Rattle.law_kernel.specs.Sleeping.{SleepsOn, Lives, Rests}
use Rattle.law_kernel.specs.Busy.{IsBusy}
use Rattle.law_kernel.proofs.kernel.Slots.{rests, running_busy}
use Rattle.law_kernel.proofs.kernel.Closes.{open_busy}
use Rattle.law_kernel.proofs.kernel.Calls.{acted_rests}

-- what rests, rests for whoever calls next
busy : {S : Type 0} (t : Table S) (pipes : Pipes) (pid : ℕ) → Rests t pipes → IsBusy t pipes pid
busy t pipes pid r = record { others = λ q c ne sleeps. r.waits q c sleeps; small = r.small; family = r.family }

-- ---- the start

pub past_two : (S : Type 0) (n q : ℕ) → at {S = S} (replicate n None) q ≡ None
past_two S zero q = refl
past_two S (suc n) zero = refl
past_two S (suc n) (suc q) = past_two S n q

module _ {S : Type 0} (init shell : S) where
  pub nobody_sleeps : (q : ℕ) (c : Channel) → SleepsOn (at (boot_table init shell) q) c → ⊥
  nobody_sleeps zero c sleeps = cc
  nobody_sleeps (suc zero) c sleeps = cc
  nobody_sleeps (suc (suc q)) c sleeps = subst (λ (x : Slot S). SleepsOn x c) (past_two S 62 q) sleeps

  nobody_is_its_own : (i : ℕ) → is_child_of i (at (boot_table init shell) i) ≡ false
  nobody_is_its_own zero = refl
  nobody_is_its_own (suc zero) = refl
  nobody_is_its_own (suc (suc i)) = ap (is_child_of (suc (suc i))) (past_two S 62 i)

  init_lives : Lives (at (boot_table init shell) 0)
  init_lives = record { used = refl; alive = refl }

  parents_live : (i q : ℕ) → is_child_of q (at (boot_table init shell) i) ≡ true → Lives (at (boot_table init shell) q)
  parents_live zero q c = absurd (let z : ⊥ = cc in z)
  parents_live (suc zero) q c = subst (λ (k : ℕ). Lives (at (boot_table init shell) k)) (sym (eqb-true q 0 c)) init_lives
  parents_live (suc (suc i)) q c = absurd (both_ways (is_child_of q (at (boot_table init shell) (suc (suc i)))) (ap (is_child_of q) (past_two S 62 i)) c)

  booting : IsBusy (boot_table init shell) [] 1
  booting =
      record {
        others = λ q c ne sleeps. absurd (nobody_sleeps q c sleeps);
        small = tt;
        family = record { init = init_lives; eldest = λ r. refl; own = nobody_is_its_own; parents = parents_live };
      }

  pub boot_rests : (input : Bytes) (list : List (Name × Bytes)) → Rests (boot_kernel init shell input list).table (boot_kernel init shell input list).pipes
  boot_rests input list =
      let k0 = closed_kernel init shell input list in
      let k1 = with_open k0 1 Input in
      let k2 = with_open k1 1 Out in
      let k3 = with_open k2 1 Diag in
      rests k3.table k3.pipes 1 (open_busy 1 k2 Diag (open_busy 1 k1 Out (open_busy 1 k0 Input booting))) (λ c sleeps. absurd (let z : ⊥ = cc in z))

-- ---- an event

given_awake : {S : Type 0} (h : ℕ) (x : Slot S) (c : Channel) → SleepsOn (with_status (Running h) x) c → ⊥
given_awake h None c sleeps = sleeps
given_awake h (Some p) c sleeps = cc

dispatch_rests : {S : Type 0} (t : Table S) (pipes : Pipes) (pid h : ℕ) → Rests t pipes → Rests (dispatched t pid h) pipes
dispatch_rests t pipes pid h r =
    rests (dispatched t pid h) pipes pid (running_busy t pipes pid h (busy t pipes pid r))
    (λ c sleeps. absurd (given_awake h (at t pid) c (subst (λ (x : Slot _). SleepsOn x c) (written (with_status (Running h)) refl t pid) sleeps)))

-- the kernel, if there is one, rests
abbrev RestsIf : {S : Type 0} → Option (KernelState S) → Type 0
RestsIf None = ⊤
RestsIf (Some k) = Rests k.table k.pipes

rests_where : {S : Type 0} (b : Bool) (o : Option (KernelState S)) → (b ≡ true → RestsIf o) → RestsIf (if b then o else None)
rests_where true o r = r refl
rests_where false o r = tt

-- who runs lives
pub runs_alive : (h : ℕ) (s : Status) → is_running_on_status h s ≡ true → is_zombie_status s ≡ false
runs_alive h Runnable runs = refl
runs_alive h (Running other) runs = refl
runs_alive h (Asleep c) runs = refl
runs_alive h Zombie runs = absurd (let z : ⊥ = cc in z)

module _ {S : Type 0} (call : S → Reply → Call) (next : S → Reply → S) where
  trap_rests : (k : KernelState S) (pid : ℕ) (x : Slot S) (h : ℕ) (refused : Bool) → at k.table pid ≡ x → is_running_on h x ≡ true → Rests k.table k.pipes → RestsIf (trapped call next k pid x refused)
  trap_rests k pid None h refused is runs r = tt
  trap_rests k pid (Some p) h refused is runs r =
      acted_rests pid (next p.machine p.reply) (counted k) (call p.machine p.reply) refused (record { used = ap is_free is; alive = ap is_zombie is ∙ runs_alive h p.status runs }) (busy k.table k.pipes pid r)

  happens_rests : (k : KernelState S) (e : Event) (refused : Bool) → Rests k.table k.pipes → RestsIf (happens call next k e refused)
  happens_rests k (Dispatch h pid) refused r =
      rests_where (can_dispatch k.table h pid) (Some (record (counted k) { table = dispatched k.table pid h })) (λ _. dispatch_rests k.table k.pipes pid h r)
  happens_rests k (Trap h pid) refused r =
      rests_where (is_running_on h (at k.table pid)) (trapped call next k pid (at k.table pid) refused) (λ runs. trap_rests k pid (at k.table pid) h refused refl runs r)

  then_rests : (o : Option (KernelState S)) (e : Event) (refused : Bool) → RestsIf o → RestsIf (then_happens call next o e refused)
  then_rests None e refused r = tt
  then_rests (Some k) e refused r = happens_rests k e refused r

  pub run_rests : (o : Option (KernelState S)) (events : List Event) (notes : List Bool) → RestsIf o → RestsIf (run call next o events notes)
  run_rests o [] [] r = r
  run_rests o (e ∷ es) (n ∷ ns) r = run_rests (then_happens call next o e n) es ns (then_rests o e n r)
  run_rests o [] (n ∷ ns) r = tt
  run_rests o (e ∷ es) [] r = tt

  -- so in every run from the start
  pub every_run_rests : (init shell : S) (input : Bytes) (list : List (Name × Bytes)) (events : List Event) (notes : List Bool) (m : KernelState S)
      → run call next (Some (boot_kernel init shell input list)) events notes ≡ Some m → Rests m.table m.pipes
  every_run_rests init shell input list events notes m is =
      subst RestsIf is (run_rests (Some (boot_kernel init shell input list)) events notes (boot_rests init shell input list))
