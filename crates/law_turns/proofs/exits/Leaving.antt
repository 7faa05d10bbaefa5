-- An exit as what it does to the kernel between two turns: the closes of all descriptors, and a burial.
use Rattle.std.proofs.Common.{◌≡◌, ◌≢◌, ◌⊎◌, ℕ, zero, suc, ◌+◌, Bool, true, false, Option, Some, None, inl, inr, refl, sym, ap, subst, ◌∙◌}
use Rattle.std.proofs.Math.ListN.{set}
use Rattle.std.proofs.lemmas.Bool.{cases_eq, ne_eqb}
use Rattle.std.proofs.lemmas.List.{map-set}
use Rattle.std.specs.Prelude.{map, ◌&&◌, if◌then◌else◌, Result, Ok, Err}
use Rattle.user_calls.specs.declared.calls.Call.{Call}
use Rattle.user_calls.specs.declared.calls.Call.TheVariants.{Exit}
use Rattle.user_calls.specs.declared.calls.Reply.{Reply}
use Rattle.user_calls.specs.declared.calls.Reply.TheVariants.{Refused}
use Rattle.fd_table.specs.declared.descriptors.TheConstants.{DESCRIPTORS}
use Rattle.fd_table.specs.declared.faults.FdFault.{FdFault}
use Rattle.fd_table.specs.declared.names.Object.{Object}
use Rattle.fd_table.specs.declared.names.Object.TheVariants.{Input, Out, Diag, File, PipeRead, PipeWrite}
use Rattle.fd_table.specs.Descriptors.{Descriptors, entry_of, close_answer, after_close, released_by_close}
use Rattle.proc_table.specs.declared.states.Channel.{Channel}
use Rattle.proc_table.specs.declared.states.Channel.TheVariants.{PipeBytes, PipeRoom}
use Rattle.proc_table.specs.declared.states.Status.{Status}
use Rattle.proc_table.specs.declared.states.Status.TheVariants.{Runnable, Running, Asleep, Zombie}
use Rattle.proc_table.specs.Slots.{Slot, Table, Process, at, same_channel, is_child_of, is_zombie_status, is_zombie_child_of, is_runnable_status}
use Rattle.proc_table.specs.Calls.{dispatched, with_status, with_fds, fds_set, woken, woken_status, all_woken, exited}
use Rattle.proc_table.proofs.Changes.{written, kept, mapped}
use Rattle.kernel_model.specs.KernelState.{KernelState, fds_of, fds_at}
use Rattle.kernel_model.specs.Pipes.{pipe_of, reader_gone, writer_gone}
use Rattle.kernel_model.specs.Replies.{answered}
use Rattle.kernel_model.specs.Descriptors.{let_go_of, taken_away, closed_by, closed, closed_below}
use Rattle.kernel_model.specs.Processes.{ended}
use Rattle.kernel_model.specs.Events.{acted, counted}
use Rattle.kernel_model.specs.Idle.{idle_slot, idle_kernel}
use Rattle.kernel_model.specs.Alike.{IsStill, HasNamesUpTo, IsOneToOne}
use Rattle.kernel_model.specs.Woke.{woke_table, woke}
use Rattle.kernel_model.specs.Numbers.{SameButNumbers}
use Rattle.kernel_model.specs.Anyhow.{AlikeAnyhow}
use Rattle.kernel_model.specs.Turns.{after_turn}
use Rattle.law_turns.proofs.orders.Tables.{exited_table}
use Rattle.law_turns.proofs.orders.Follow.{given_0}
use Rattle.law_turns.proofs.private_turns.Staying.{Holds}
use Rattle.law_turns.proofs.private_turns.Turned.{set_twice, turn_is}
use Rattle.law_turns.proofs.private_turns.Woken.{exited_told}
use Rattle.law_turns.proofs.entry_numbers.Tables.{exited_table as exited_numbers}
use Rattle.law_turns.proofs.exits.Exiting.{set_itself, own_fds, exited_running}
use Rattle.law_turns.proofs.exits.Touched.{closed_events}
use Rattle.law_turns.proofs.exits.Fitting.{let_go_keeps}

-- ---- a descriptor that isn't open

pub closed_none : {S : Type 0} (k : KernelState S) (p fd : ℕ) → entry_of (fds_at k p) fd ≡ None → closed k p fd ≡ k
closed_none k p fd none = ap (closed_by k p fd) none ∙ (λ i. record k { table = (ap (set k.table p) (own_fds (at k.table p)) ∙ set_itself k.table p) i })

-- ---- closes don't see whether the process runs

run_fds : {S : Type 0} (fds : Descriptors) (x : Slot S) → with_fds fds (with_status (Running 0) x) ≡ with_status (Running 0) (with_fds fds x)
run_fds fds None = refl
run_fds fds (Some y) = refl

run_own : {S : Type 0} (x : Slot S) → fds_of (with_status (Running 0) x) ≡ fds_of x
run_own None = refl
run_own (Some y) = refl

run_woken : {S : Type 0} (c : Channel) (x : Slot S) → woken c (with_status (Running 0) x) ≡ with_status (Running 0) (woken c x)
run_woken c None = refl
run_woken c (Some y) = refl

module _ {S : Type 0} (p : ℕ) where
  abbrev run : Slot S → Slot S
  run x = with_status (Running 0) x

  abbrev ran : KernelState S → KernelState S
  ran k = record k { table = dispatched k.table p 0 }

  woken_run : (c : Channel) (t : Table S) → all_woken c (dispatched t p 0) ≡ dispatched (all_woken c t) p 0
  woken_run c t = map-set (woken c) t p (run (at t p)) ∙ ap (set (all_woken c t) p) (run_woken c (at t p) ∙ ap run (sym (mapped (woken c) refl t p)))

  let_go_run : (k : KernelState S) (r : Result (Option Object) FdFault) → let_go_of (ran k) r ≡ ran (let_go_of k r)
  let_go_run k (Err fault) = refl
  let_go_run k (Ok None) = refl
  let_go_run k (Ok (Some Input)) = refl
  let_go_run k (Ok (Some Out)) = refl
  let_go_run k (Ok (Some Diag)) = refl
  let_go_run k (Ok (Some (File name mode))) = refl
  let_go_run k (Ok (Some (PipeRead id))) = λ i. record k { pipes = reader_gone k.pipes id (pipe_of k.pipes id); table = woken_run (PipeRoom id) k.table i }
  let_go_run k (Ok (Some (PipeWrite id))) = λ i. record k { pipes = writer_gone k.pipes id (pipe_of k.pipes id); table = woken_run (PipeBytes id) k.table i }

  fds_run : (t : Table S) (fds : Descriptors) → fds_set (dispatched t p 0) p fds ≡ dispatched (fds_set t p fds) p 0
  fds_run t fds =
      ap (λ (y : Slot S). set (dispatched t p 0) p (with_fds fds y)) (written run refl t p) ∙ set_twice t p (run (at t p)) (with_fds fds (run (at t p))) ∙ ap (set t p) (run_fds fds (at t p)) ∙
      sym (ap (λ (y : Slot S). set (fds_set t p fds) p (run y)) (written (with_fds fds) refl t p) ∙ set_twice t p (with_fds fds (at t p)) (run (with_fds fds (at t p))))

  closed_run : (k : KernelState S) (fd : ℕ) → closed (ran k) p fd ≡ ran (closed k p fd)
  closed_run k fd =
      let o = entry_of (fds_at k p) fd in
      let own : fds_at (ran k) p ≡ fds_at k p = ap fds_of (written run refl k.table p) ∙ run_own (at k.table p) in
      (λ i. let_go_of (record (ran k) { table = fds_set (dispatched k.table p 0) p (after_close (own i) fd (entry_of (own i) fd)); entries = released_by_close k.entries (entry_of (own i) fd) }) (close_answer k.entries (entry_of (own i) fd))) ∙
      (λ i. let_go_of (record k { table = fds_run k.table (after_close (fds_at k p) fd o) i; entries = released_by_close k.entries o }) (close_answer k.entries o)) ∙ let_go_run (taken_away k p fd o) (close_answer k.entries o)

  below_run : (k : KernelState S) (n e : ℕ) → closed_below (record (ran k) { events = e }) p n ≡ record (ran (closed_below k p n)) { events = e }
  unfolding closed_below
  below_run k zero e = refl
  below_run k (suc n) e =
      ap (λ (j : KernelState S). closed j p n) (below_run k n e) ∙ closed_events (ran (closed_below k p n)) e p n ∙ ap (λ (j : KernelState S). record j { events = e }) (closed_run (closed_below k p n) n)

  -- ---- p's slot after closes

  -- no close but that of the descriptors changes it
  own_below : (k : KernelState S) (n : ℕ) (x : Process S) → Holds x (at k.table p) → (z : Process S) × (at (closed_below k p n).table p ≡ Some z) × (z.status ≡ Runnable)
  unfolding closed_below
  own_below k zero x h = (h.now, h.there, h.ready)
  own_below k (suc n) x h = by (own_below k n x h) where
    ready_closed : (j : KernelState S) (fd : ℕ) (z : Process S) → at j.table p ≡ Some z → z.status ≡ Runnable → (w : Process S) × (at (closed j p fd).table p ≡ Some w) × (w.status ≡ Runnable)
    ready_closed j fd z there ready =
        let o = entry_of (fds_at j p) fd in
        let now = after_close (fds_at j p) fd o in
        let_go_keeps (λ v. (w : Process S) × (v ≡ Some w) × (w.status ≡ Runnable)) (λ c v h. (record h.0 { status = Runnable }, ap (woken c) h.1 ∙ (λ i. Some (record h.0 { status = woken_status c (h.2 i) })), refl)) p (taken_away j p fd o) (close_answer j.entries o)
        (record z { fds = now }, written (with_fds now) refl j.table p ∙ ap (with_fds now) there, ready)

    by : (z : Process S) × (at (closed_below k p n).table p ≡ Some z) × (z.status ≡ Runnable) → (w : Process S) × (at (closed (closed_below k p n) p n).table p ≡ Some w) × (w.status ≡ Runnable)
    by z = ready_closed (closed_below k p n) n z.0 z.1 z.2

-- ---- the turn

-- p's burial, with its wake-ups
abbrev pub buries_in : {S : Type 0} → ℕ → KernelState S → KernelState S
buries_in p k = record k { table = exited k.table p }

module _ {S : Type 0} (call : S → Reply → Call) (next : S → Reply → S) (p : ℕ) (x : Process S) (exits : call x.machine x.reply ≡ Exit) (child : p ≢ 0) where
  abbrev pub leaves : KernelState S → KernelState S
  leaves k = record (buries_in p (closed_below k p DESCRIPTORS)) { events = k.events + 1 + 1 }

  pub own_exit : (k : KernelState S) → IsStill k → Holds x (at k.table p) → after_turn call next k p ≡ Some (leaves k)
  own_exit k still h =
      let d : KernelState S = counted (given_0 k p) in
      let m : S = next x.machine x.reply in
      let z = own_below p k DESCRIPTORS x h in
      let last : KernelState S = closed_below k p DESCRIPTORS in
      turn_is call next k p h.now still h.there (ap is_runnable_status h.ready) ∙
      ap Some (
      (λ i. acted d p (next (h.machine i) (h.reply i)) (call (h.machine i) (h.reply i)) false) ∙ ap (λ (c : Call). acted d p m c false) exits ∙
      ap (λ (b : Bool). if b then answered d p m Refused else ended p (closed_below d p DESCRIPTORS)) (ne_eqb p 0 child) ∙ ap (ended p) (below_run p k DESCRIPTORS (k.events + 1 + 1)) ∙
      (λ i. record last { table = exited_running last.table p z.0 z.1 z.2 i; events = k.events + 1 + 1 }))

-- ---- a burial keeps kernels alike

module _ {S : Type 0} (p : ℕ) where
  named_exit : (name : ℕ → ℕ) → IsOneToOne name → (k : KernelState S) → idle_kernel name 0 (woke (buries_in p k)) ≡ buries_in p (idle_kernel name 0 (woke k))
  named_exit name one k =
      λ i. record (idle_kernel name 0 (woke k)) { table = (ap (map (idle_slot name)) (sym (exited_told k.table p)) ∙ sym (exited_table name one (woke_table k.table) p)) i }

  numbers_exit : (k l : KernelState S) → SameButNumbers k l → SameButNumbers (buries_in p k) (buries_in p l)
  numbers_exit k l a =
      record {
        numbering = a.numbering;
        is = record { entries = a.is.entries; rest = (λ i. record k { table = sym (exited_numbers a.numbering.to k.table p) i; entries = l.entries }) ∙ ap (buries_in p) a.is.rest };
      }

  pub alike_exit : (k l : KernelState S) → AlikeAnyhow k l → AlikeAnyhow (buries_in p k) (buries_in p l)
  alike_exit k l a =
      record {
        first = a.first;
        second = a.second;
        first_one_to_one = a.first_one_to_one;
        second_one_to_one = a.second_one_to_one;
        same =
            subst (λ (j : KernelState S). SameButNumbers j (idle_kernel a.second 0 (woke (buries_in p l)))) (sym (named_exit a.first a.first_one_to_one k))
            (subst (λ (j : KernelState S). SameButNumbers (buries_in p (idle_kernel a.first 0 (woke k))) j) (sym (named_exit a.second a.second_one_to_one l)) (numbers_exit _ _ a.same));
      }

  pub names_exit : (n : ℕ) (k : KernelState S) → HasNamesUpTo n k → HasNamesUpTo n (buries_in p k)
  names_exit n k names f g one two agree =
      (λ i. record (idle_kernel f 0 k) { table = sym (exited_table f one k.table p) i }) ∙ ap (buries_in p) (names f g one two agree) ∙ (λ i. record (idle_kernel g 0 k) { table = exited_table g two k.table p i })

-- ---- closes of p don't see who descends from whom

zombie_woken : (c : Channel) (s : Status) → is_zombie_status (woken_status c s) ≡ is_zombie_status s
zombie_woken c Runnable = refl
zombie_woken c (Running h) = refl
zombie_woken c (Asleep d) = by (same_channel c d) where
  by : (b : Bool) → is_zombie_status (if b then Runnable else Asleep d) ≡ false
  by true = refl
  by false = refl
zombie_woken c Zombie = refl

child_woken : {S : Type 0} (r : ℕ) (c : Channel) (x : Slot S) → is_child_of r (woken c x) ≡ is_child_of r x
child_woken r c None = refl
child_woken r c (Some y) = refl

zombie_child_woken : {S : Type 0} (r : ℕ) (c : Channel) (x : Slot S) → is_zombie_child_of r (woken c x) ≡ is_zombie_child_of r x
zombie_child_woken r c None = refl
zombie_child_woken r c (Some y) = ap (λ (b : Bool). is_child_of r (Some y) && b) (zombie_woken c y.status)

child_fds : {S : Type 0} (r : ℕ) (fds : Descriptors) (x : Slot S) → is_child_of r (with_fds fds x) ≡ is_child_of r x
child_fds r fds None = refl
child_fds r fds (Some y) = refl

zombie_child_fds : {S : Type 0} (r : ℕ) (fds : Descriptors) (x : Slot S) → is_zombie_child_of r (with_fds fds x) ≡ is_zombie_child_of r x
zombie_child_fds r fds None = refl
zombie_child_fds r fds (Some y) = refl

module _ {S : Type 0} (p : ℕ) (test : Slot S → Bool) (awake : (c : Channel) (x : Slot S) → test (woken c x) ≡ test x) (with_others : (fds : Descriptors) (x : Slot S) → test (with_fds fds x) ≡ test x) where
  test_closed : (k : KernelState S) (fd i : ℕ) → test (at (closed k p fd).table i) ≡ test (at k.table i)
  test_closed k fd i =
      let o = entry_of (fds_at k p) fd in
      let now = after_close (fds_at k p) fd o in
      let_go_keeps (λ x. test x ≡ test (at k.table i)) (λ c x h. awake c x ∙ h) i (taken_away k p fd o) (close_answer k.entries o) (by now (cases_eq i p))
    where
      by : (fds : Descriptors) → (i ≡ p) ⊎ (i ≢ p) → test (at (fds_set k.table p fds) i) ≡ test (at k.table i)
      by fds (inl is) = let P : ℕ → Type 0 = λ j. test (at (fds_set k.table p fds) j) ≡ test (at k.table j) in subst P (sym is) (ap test (written (with_fds fds) refl k.table p) ∙ with_others fds (at k.table p))
      by fds (inr ne) = ap test (kept k.table p i (with_fds fds (at k.table p)) ne)

  test_below : (k : KernelState S) (n i : ℕ) → test (at (closed_below k p n).table i) ≡ test (at k.table i)
  unfolding closed_below
  test_below k zero i = refl
  test_below k (suc n) i = test_closed (closed_below k p n) n i ∙ test_below k n i

module _ {S : Type 0} where
  pub children_below : (k : KernelState S) (p n r i : ℕ) → is_child_of r (at (closed_below k p n).table i) ≡ is_child_of r (at k.table i)
  children_below k p n r i = test_below p (is_child_of r) (child_woken r) (child_fds r) k n i

  pub zombies_below : (k : KernelState S) (p n r i : ℕ) → is_zombie_child_of r (at (closed_below k p n).table i) ≡ is_zombie_child_of r (at k.table i)
  zombies_below k p n r i = test_below p (is_zombie_child_of r) (zombie_child_woken r) (zombie_child_fds r) k n i
