-- In every run from the start each process but init has a parent: no call takes it away.
use Rattle.std.proofs.Common.{◌≡◌, ◌≢◌, ◌⊎◌, inl, inr, ℕ, zero, suc, List, [], ◌∷◌, Bool, true, false, Option, Some, None, refl, sym, ap, ◌∙◌, subst}
use Rattle.std.proofs.lemmas.Bool.{cases_eq}
use Rattle.std.proofs.Math.ListN.{set}
use Rattle.std.specs.Prelude.{if◌then◌else◌, is_some, map, Result, Ok, Err}
use Rattle.mem_files.specs.Name.{Name, Bytes}
use Rattle.user_calls.specs.declared.calls.Call.{Call}
use Rattle.user_calls.specs.declared.calls.Reply.{Reply}
use Rattle.fd_table.specs.declared.descriptors.TheConstants.{DESCRIPTORS}
use Rattle.fd_table.specs.declared.faults.FdFault.{FdFault}
use Rattle.fd_table.specs.declared.names.Object.{Object}
use Rattle.fd_table.specs.declared.names.Object.TheVariants.{Input, Out, Diag, File, PipeRead, PipeWrite}
use Rattle.fd_table.specs.Descriptors.{Descriptors, entry_of, close_answer}
use Rattle.fd_table.specs.Entries.{lowest_free_entry}
use Rattle.proc_table.specs.declared.states.Channel.{Channel}
use Rattle.proc_table.specs.declared.states.Channel.TheVariants.{Children, PipeBytes, PipeRoom}
use Rattle.proc_table.specs.declared.states.Status.{Status}
use Rattle.proc_table.specs.declared.states.Status.TheVariants.{Running, Zombie}
use Rattle.proc_table.specs.Slots.{Slot, Table, at, is_number, is_running_on, parent_of}
use Rattle.proc_table.specs.Calls.{all_woken, boot_table, buried, exited, fds_set, forked, freed, given, made_ready, newborn, put_to_sleep, readied, reaped, slept, with_fds, with_status, woken, zombie_child}
use Rattle.proc_table.proofs.Changes.{kept, mapped}
use Rattle.kernel_model.specs.declared.events.Event.{Event}
use Rattle.kernel_model.specs.declared.events.Event.TheVariants.{Dispatch, Trap}
use Rattle.kernel_model.specs.KernelState.{KernelState, fds_at}
use Rattle.kernel_model.specs.Boot.{boot_kernel, closed_kernel}
use Rattle.kernel_model.specs.Descriptors.{let_go, let_go_of, taken_away, closed, closed_below, opened_at, with_open, with_reader}
use Rattle.kernel_model.specs.Events.{acted, can_dispatch, counted, happens, run, then_happens, trapped}
use Rattle.law_kernel.specs.Outcome.{Outcome, refused, lacks, forks, runs, exits, reaps, waits, opens, opens_empty, closes, dups, pipes, reads_input, reads_file, takes, waits_for_bytes, meets_end, tells, complains, writes_over, appends, puts_all, puts_part}
use Rattle.law_kernel.proofs.outcomes.Outcomes.{every_call_ends}
use Rattle.law_kernel.proofs.kernel.Runs.{past_two}

-- the slot is free, or its process has a parent
abbrev pub has_parent : {S : Type 0} → Slot S → Bool
has_parent None = true
has_parent (Some p) = is_some p.parent

-- so has each but init
abbrev pub HaveParents : {S : Type 0} → Table S → Type 0
HaveParents t = (q : ℕ) → q ≢ 0 → has_parent (at t q) ≡ true

-- ---- changes of one slot, and of all

heir : (b : Bool) (o : Option ℕ) → is_some o ≡ true → is_some (if b then Some 0 else o) ≡ true
heir true o h = refl
heir false o h = h

module _ {S : Type 0} where
  abbrev Leaves : (Slot S → Slot S) → Type 0
  Leaves f = (x : Slot S) → has_parent x ≡ true → has_parent (f x) ≡ true

  set_has : (t : Table S) (p : ℕ) (x : Slot S) → (p ≢ 0 → has_parent x ≡ true) → HaveParents t → HaveParents (set t p x)
  set_has t p x has h q ne = by (cases_eq q p) where
    past : (t : Table S) (p : ℕ) → (at (set t p x) p ≡ x) ⊎ (at (set t p x) p ≡ None)
    past [] p = inr refl
    past (y ∷ t) zero = inl refl
    past (y ∷ t) (suc p) = past t p

    self : (at (set t p x) p ≡ x) ⊎ (at (set t p x) p ≡ None) → p ≢ 0 → has_parent (at (set t p x) p) ≡ true
    self (inl is) up = ap has_parent is ∙ has up
    self (inr none) up = ap has_parent none

    by : (q ≡ p) ⊎ (q ≢ p) → has_parent (at (set t p x) q) ≡ true
    by (inl same) = ap (λ n. has_parent (at (set t p x) n)) same ∙ self (past t p) (λ z. ne (same ∙ z))
    by (inr other) = ap has_parent (kept t p q x other) ∙ h q ne

  slot_has : (f : Slot S → Slot S) → Leaves f → (t : Table S) (p : ℕ) → HaveParents t → HaveParents (set t p (f (at t p)))
  slot_has f leaves t p h = set_has t p (f (at t p)) (λ up. leaves (at t p) (h p up)) h

  all_has : (f : Slot S → Slot S) → f None ≡ None → Leaves f → (t : Table S) → HaveParents t → HaveParents (map f t)
  all_has f free leaves t h q ne = ap has_parent (mapped f free t q) ∙ leaves (at t q) (h q ne)

  ready_leaves : (m : S) (r : Reply) → Leaves (made_ready m r)
  ready_leaves m r None h = h
  ready_leaves m r (Some p) h = h

  sleep_leaves : (c : Channel) (put : ℕ) → Leaves (put_to_sleep c put)
  sleep_leaves c put None h = h
  sleep_leaves c put (Some p) h = h

  fds_leave : (d : Descriptors) → Leaves (with_fds d)
  fds_leave d None h = h
  fds_leave d (Some p) h = h

  status_leaves : (s : Status) → Leaves (with_status s)
  status_leaves s None h = h
  status_leaves s (Some p) h = h

  wake_leaves : (c : Channel) → Leaves (woken c)
  wake_leaves c None h = h
  wake_leaves c (Some p) h = h

  given_leaves : (pid : ℕ) → Leaves (given pid)
  given_leaves pid None h = h
  given_leaves pid (Some p) h = heir (is_number pid p.parent) p.parent h

  -- ---- what calls do to the table

  ready_has : (t : Table S) (p : ℕ) (m : S) (r : Reply) → HaveParents t → HaveParents (readied t p m r)
  ready_has t p m r h = slot_has (made_ready m r) (ready_leaves m r) t p h

  slept_has : (t : Table S) (p : ℕ) (c : Channel) (put : ℕ) → HaveParents t → HaveParents (slept t p c put)
  slept_has t p c put h = slot_has (put_to_sleep c put) (sleep_leaves c put) t p h

  woken_has : (t : Table S) (c : Channel) → HaveParents t → HaveParents (all_woken c t)
  woken_has t c h = all_has (woken c) refl (wake_leaves c) t h

  set_fds_has : (t : Table S) (p : ℕ) (d : Descriptors) → HaveParents t → HaveParents (fds_set t p d)
  set_fds_has t p d h = slot_has (with_fds d) (fds_leave d) t p h

  reaped_has : (t : Table S) (o : Option ℕ) → HaveParents t → HaveParents (freed t o)
  reaped_has t None h = h
  reaped_has t (Some child) h = set_has t child None (λ up. refl) h

  wakes_if : (b : Bool) (t : Table S) → HaveParents t → HaveParents (if b then all_woken (Children 0) t else t)
  wakes_if true t h = woken_has t (Children 0) h
  wakes_if false t h = h

  exited_has : (t : Table S) (p : ℕ) → HaveParents t → HaveParents (exited t p)
  exited_has t p h =
      wakes_if (is_some (zombie_child t p)) (all_woken (Children (parent_of (at t p))) (buried t p))
      (woken_has (buried t p) (Children (parent_of (at t p))) (slot_has (with_status Zombie) (status_leaves Zombie) (map (given p) t) p (all_has (given p) refl (given_leaves p) t h)))

  abbrev Has : KernelState S → Type 0
  Has k = HaveParents k.table

  let_go_has : (k : KernelState S) (object : Object) → Has k → Has (let_go k object)
  let_go_has k Input h = h
  let_go_has k Out h = h
  let_go_has k Diag h = h
  let_go_has k (File name mode) h = h
  let_go_has k (PipeRead id) h = woken_has k.table (PipeRoom id) h
  let_go_has k (PipeWrite id) h = woken_has k.table (PipeBytes id) h

  let_go_of_has : (k : KernelState S) (o : Result (Option Object) FdFault) → Has k → Has (let_go_of k o)
  let_go_of_has k (Err fault) h = h
  let_go_of_has k (Ok None) h = h
  let_go_of_has k (Ok (Some object)) h = let_go_has k object h

  closed_has : (pid : ℕ) (k : KernelState S) (fd : ℕ) → Has k → Has (closed k pid fd)
  closed_has pid k fd h =
      let e = entry_of (fds_at k pid) fd in
      let_go_of_has (taken_away k pid fd e) (close_answer k.entries e) (set_fds_has k.table pid _ h)

  closed_below_has : (pid : ℕ) (k : KernelState S) (n : ℕ) → Has k → Has (closed_below k pid n)
  unfolding closed_below
  closed_below_has pid k zero h = h
  closed_below_has pid k (suc n) h = closed_has pid (closed_below k pid n) n (closed_below_has pid k n h)

  opened_has : (pid : ℕ) (k : KernelState S) (object : Object) (place : Option ℕ) → Has k → Has (opened_at k pid object place)
  opened_has pid k object None h = h
  opened_has pid k object (Some e) h = set_fds_has k.table pid _ h

  open_has : (pid : ℕ) (k : KernelState S) (object : Object) → Has k → Has (with_open k pid object)
  open_has pid k object h = opened_has pid k object (lowest_free_entry k.entries) h

  -- ---- a call

  module _ (k : KernelState S) (pid : ℕ) (after : S) (h : Has k) where
    by : (new : KernelState S) (t : Table S) → HaveParents t → new.table ≡ t → Has new
    by new t h is = subst HaveParents (sym is) h

    replies : (r : Reply) (t : Table S) → HaveParents t → HaveParents (readied t pid after r)
    replies r t h = ready_has t pid after r h

    ends_has : (id : ℕ) → HaveParents (with_open (with_reader k pid id) pid (PipeWrite id)).table
    ends_has id = open_has pid (with_reader k pid id) (PipeWrite id) (open_has pid (record k { pipes = Rattle.kernel_model.specs.Pipes.with_new k.pipes id }) (PipeRead id) h)

    table : {x y : KernelState S} → x ≡ y → x.table ≡ y.table
    table is = ap (λ (l : KernelState S). l.table) is

    call_has : (call : Call) (new : KernelState S) → Outcome k pid after call new → Has new
    call_has call new (refused is) = by new _ (replies _ k.table h) (table is)
    call_has call new (lacks full is) = by new _ (replies _ k.table h) (table is)
    call_has call new (forks child called free is) = by new _ (replies _ (forked k.table child pid after (fds_at k pid)) (set_has k.table child (Some (newborn pid after (fds_at k pid))) (λ up. refl) h)) (table is)
    call_has call new (runs called is) = by new _ (replies _ k.table h) (table is)
    call_has call new (exits called ne is) = by new _ (exited_has (closed_below k pid DESCRIPTORS).table pid (closed_below_has pid k DESCRIPTORS h)) (table is)
    call_has call new (reaps child called found is) = by new _ (replies _ (reaped k.table pid) (reaped_has k.table (zombie_child k.table pid) h)) (table is)
    call_has call new (waits child called none found is) = by new _ (slept_has k.table pid _ _ h) (table is)
    call_has call new (opens name mode fd called is) = by new _ (replies _ _ (open_has pid k _ h)) (table is)
    call_has call new (opens_empty name mode fd called is) = by new _ (replies _ _ (open_has pid (Rattle.kernel_model.specs.Opening.with_bytes k name []) _ h)) (table is)
    call_has call new (closes fd called is) = by new _ (replies _ _ (closed_has pid k fd h)) (table is)
    call_has call new (dups fd entry place called held free is) = by new _ (replies _ _ (set_fds_has k.table pid _ h)) (table is)
    call_has call new (pipes reader writer called free is) = by new _ (replies _ _ (ends_has k.events)) (table is)
    call_has call new (reads_input n read is) = by new _ (replies _ k.table h) (table is)
    call_has call new (reads_file name mode entry n got read is) = by new _ (replies _ k.table h) (table is)
    call_has call new (takes id n p read found some is) = by new _ (woken_has _ (PipeRoom id) (replies _ k.table h)) (table is)
    call_has call new (waits_for_bytes id p read found none writer is) = by new _ (slept_has k.table pid _ _ h) (table is)
    call_has call new (meets_end id p read found none closed is) = by new _ (replies _ k.table h) (table is)
    call_has call new (tells b wrote is) = by new _ (replies _ k.table h) (table is)
    call_has call new (complains b wrote is) = by new _ (replies _ k.table h) (table is)
    call_has call new (writes_over name mode entry b bytes wrote is) = by new _ (replies _ k.table h) (table is)
    call_has call new (appends name mode entry b bytes wrote is) = by new _ (replies _ k.table h) (table is)
    call_has call new (puts_all id p b wrote found all is) = by new _ (woken_has _ (PipeBytes id) (replies _ k.table h)) (table is)
    call_has call new (puts_part id n p b wrote found reader space part more is) = by new _ (woken_has _ (PipeBytes id) (slept_has k.table pid _ _ h)) (table is)

-- ---- along a run

abbrev HasIf : {S : Type 0} → Option (KernelState S) → Type 0
HasIf None = Unit {0}
HasIf (Some k) = HaveParents k.table

if_has : {S : Type 0} (b : Bool) (o : Option (KernelState S)) → HasIf o → HasIf (if b then o else None)
if_has true o h = h
if_has false o h = tt

first_has : {S : Type 0} (init shell : S) → HaveParents (boot_table init shell)
first_has init shell zero ne = absurd (ne refl)
first_has init shell (suc zero) ne = refl
first_has init shell (suc (suc q)) ne = ap has_parent (past_two _ 62 q)

module _ {S : Type 0} (call : S → Reply → Call) (next : S → Reply → S) where
  trap_has : (k : KernelState S) (pid : ℕ) (x : Slot S) (n : Bool) → HaveParents k.table → HasIf (trapped call next k pid x n)
  trap_has k pid None n h = tt
  trap_has k pid (Some p) n h =
      let after = next p.machine p.reply in
      let c = call p.machine p.reply in
      call_has (counted k) pid after h c (acted (counted k) pid after c n) (every_call_ends (counted k) pid after c n)

  event_has : (k : KernelState S) (e : Event) (n : Bool) → HaveParents k.table → HasIf (happens call next k e n)
  event_has k (Dispatch h pid) n has = if_has (can_dispatch k.table h pid) (Some _) (slot_has (with_status (Running h)) (status_leaves (Running h)) k.table pid has)
  event_has k (Trap h pid) n has = if_has (is_running_on h (at k.table pid)) (trapped call next k pid (at k.table pid) n) (trap_has k pid (at k.table pid) n has)

  then_has : (o : Option (KernelState S)) (e : Event) (n : Bool) → HasIf o → HasIf (then_happens call next o e n)
  then_has None e n h = tt
  then_has (Some k) e n h = event_has k e n h

  run_has : (es : List Event) (ns : List Bool) (o : Option (KernelState S)) → HasIf o → HasIf (run call next o es ns)
  run_has [] [] o h = h
  run_has (e ∷ es) (n ∷ ns) o h = run_has es ns (then_happens call next o e n) (then_has o e n h)
  run_has [] (n ∷ ns) o h = tt
  run_has (e ∷ es) [] o h = tt

  pub every_run_has_parents : (init shell : S) (input : Bytes) (list : List (Name × Bytes)) (events : List Event) (notes : List Bool) (m : KernelState S) → run call next (Some (boot_kernel init shell input list)) events notes ≡ Some m → HaveParents m.table
  every_run_has_parents init shell input list events notes m is = subst HasIf is (run_has events notes (Some (boot_kernel init shell input list)) boot_has) where
    boot_has : HaveParents (boot_kernel init shell input list).table
    boot_has =
        let k0 = closed_kernel init shell input list in
        let k1 = with_open k0 1 Input in
        let k2 = with_open k1 1 Out in
        open_has 1 k2 Diag (open_has 1 k1 Out (open_has 1 k0 Input (first_has init shell)))
