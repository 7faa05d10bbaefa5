-- A wait that frees a zombie's slot, and another process's turn, in either order.
use Rattle.std.proofs.Common.{◌≡◌, ◌≢◌, ◌⊎◌, ℕ, ◌+◌, ◌<◌, [], ◌∷◌, true, false, Option, Some, None, length, inl, inr, refl, sym, ap, subst, ◌∙◌, arith}
use Rattle.std.proofs.Math.ListN.{set, length-set}
use Rattle.std.proofs.lemmas.Bool.{eq-eqb}
use Rattle.std.proofs.lemmas.List.{map-set, set_comm}
use Rattle.std.specs.Prelude.{map, ◌&&◌}
use Rattle.user_calls.specs.declared.calls.Call.{Call}
use Rattle.user_calls.specs.declared.calls.Call.TheVariants.{Fork, Exec, Exit, Wait, MakePipe, Read, Write, OpenFile, Close, Dup}
use Rattle.user_calls.specs.declared.calls.Reply.{Reply}
use Rattle.user_calls.specs.declared.calls.Reply.TheVariants.{Done, Refused}
use Rattle.fd_table.proofs.Lists.{position_found, within_list}
use Rattle.proc_table.specs.declared.pid.TheConstants.{PROCS}
use Rattle.proc_table.specs.declared.states.Status.{Status}
use Rattle.proc_table.specs.declared.states.Status.TheVariants.{Runnable, Running}
use Rattle.proc_table.specs.Slots.{Slot, Table, Process, at, is_free, is_number, is_runnable_status, is_zombie, is_zombie_status, is_zombie_child_of}
use Rattle.proc_table.specs.Calls.{dispatched, with_status, made_ready, readied, lowest_free, zombie_child, some_child, wait_by as waited, freed}
use Rattle.proc_table.proofs.Changes.{written, kept, child_within, was_free}
use Rattle.kernel_model.specs.KernelState.{KernelState}
use Rattle.kernel_model.specs.Replies.{answered}
use Rattle.kernel_model.specs.Processes.{fork_into, wait_by}
use Rattle.kernel_model.specs.Events.{acted, counted}
use Rattle.law_kernel.proofs.kernel.Children.{none_at}
use Rattle.kernel_model.specs.Idle.{idle_slot, idle_kernel}
use Rattle.kernel_model.specs.Alike.{Alike, IsStill, HasNamesUpTo}
use Rattle.kernel_model.specs.Turns.{after_turn}
use Rattle.kernel_model.specs.Begun.{IsBegun}
use Rattle.law_turns.proofs.orders.Names.{acted_alike}
use Rattle.law_turns.proofs.orders.Follow.{after_turn as turned, given_0, given_names}
use Rattle.law_turns.proofs.orders.Back.{could_turn}
use Rattle.law_turns.proofs.orders.Turning.{relike}
use Rattle.law_turns.proofs.orders.Booted.{alike_itself}
use Rattle.law_turns.specs.Retold.{Left, retold_slot, retold_table, retold}
use Rattle.law_turns.proofs.private_turns.Unseen.{position_same, status_told}
use Rattle.law_turns.proofs.private_turns.Unheard.{acted_told}
use Rattle.law_turns.proofs.private_turns.Staying.{Holds, holds_itself, holds_alive, in_own}
use Rattle.law_turns.proofs.private_turns.Begun.{begun_on, begun_still}
use Rattle.law_turns.proofs.private_turns.Turned.{set_twice, idle_told, turn_is, turn_keeps, ready_slot, runnable_by}
use Rattle.law_turns.proofs.entry_numbers.Numberings.{unchanged}
use Rattle.kernel_model.specs.Slots.{IsZombieOf, SameButSlots}
use Rattle.kernel_model.specs.Giving.{FindsSlotNext, ReapsNext}
use Rattle.law_turns.proofs.slot_numbers.Slots.{dead, child_of, zombie_is}
use Rattle.law_turns.proofs.slot_numbers.Acted.{Mid, but_slots, finds_free, forks_into, reaps}
use Rattle.law_turns.proofs.slot_numbers.Calls.{SameEntries, Same}
use Rattle.law_turns.proofs.slot_numbers.Same.{moves_itself, same_itself, same_on}
use Rattle.law_turns.proofs.slot_numbers.Turns.{begun_mid}
use Rattle.law_turns.specs.Waits.{InEitherOrderButSlots}
use Rattle.law_turns.proofs.waits.Freed.{Freed, keeps, fork_so, acted_so}

-- ---- calls that fork, and others

abbrev pub IsFork : Call → Type 0
IsFork c = (c ≡ Fork) ⊎ (c ≢ Fork)

pub which : (c : Call) → IsFork c
which Fork = inl refl
which (Exec found) = inr (λ is. let z : ⊥ = cc in z)
which Exit = inr (λ is. let z : ⊥ = cc in z)
which Wait = inr (λ is. let z : ⊥ = cc in z)
which MakePipe = inr (λ is. let z : ⊥ = cc in z)
which (Read fd n) = inr (λ is. let z : ⊥ = cc in z)
which (Write fd b) = inr (λ is. let z : ⊥ = cc in z)
which (OpenFile file mode) = inr (λ is. let z : ⊥ = cc in z)
which (Close fd) = inr (λ is. let z : ⊥ = cc in z)
which (Dup fd) = inr (λ is. let z : ⊥ = cc in z)

-- ---- a dispatch

freed_running : {S : Type 0} (x : Slot S) → is_free (with_status (Running 0) x) ≡ is_free x
freed_running None = refl
freed_running (Some p) = refl

pub lowest_dispatched : {S : Type 0} (t : Table S) (q : ℕ) → lowest_free (dispatched t q 0) ≡ lowest_free t
lowest_dispatched t q = position_same is_free t q (with_status (Running 0) (at t q)) None (freed_running (at t q))

ready_child : {S : Type 0} (p : ℕ) (x : Process S) → x.status ≡ Runnable → is_zombie_child_of p (with_status (Running 0) (Some x)) ≡ is_zombie_child_of p (Some x)
ready_child p x ready = sym (ap (λ (s : Status). is_number p x.parent && is_zombie_status s) ready)

-- a zombie isn't Runnable
pub other_slot : {S : Type 0} (t : Table S) (p z : ℕ) (parent : Option ℕ) (x : Process S) → IsZombieOf parent (at t z) → at t p ≡ Some x → x.status ≡ Runnable → p ≢ z
other_slot t p z parent x zombie there ready is =
    let it : is_zombie (at t z) ≡ is_zombie_status x.status = ap (λ (i : ℕ). is_zombie (at t i)) (sym is) ∙ ap is_zombie there in
    absurd (let no : true ≡ false = sym (dead parent (at t z) zombie) ∙ it ∙ ap is_zombie_status ready in let v : ⊥ = cc in v)

-- ---- the two events of a turn

events_so : {S : Type 0} (k l : KernelState S) → SameButSlots k l → SameButSlots (record k { events = k.events + 1 + 1 }) (record l { events = l.events + 1 + 1 })
events_so k l a = record { numbering = a.numbering; moved = a.moved; rest = ap (λ (j : KernelState _). record j { events = j.events + 1 + 1 }) a.rest }

-- ---- what a call of p that is carried out leaves in its slot

module _ {S : Type 0} (next : S → Reply → S) (p : ℕ) (x : Process S) where
  abbrev pub left : Left S
  left = record { machine = next x.machine x.reply; reply = Done; fds = x.fds; put = 0 }

  slot_left : (y : Slot S) → Holds x y → made_ready (next x.machine x.reply) Done (with_status (Running 0) y) ≡ retold_slot left y
  slot_left y h =
      ap (λ (v : Slot S). made_ready (next x.machine x.reply) Done (with_status (Running 0) v)) h.there ∙
      (λ i. Some (record h.now { status = sym h.ready i; machine = next x.machine x.reply; reply = Done; fds = h.fds i; put = 0 })) ∙ sym (ap (retold_slot left) h.there)

  pub table_left : (t : Table S) → Holds x (at t p) → readied (dispatched t p 0) p (next x.machine x.reply) Done ≡ retold_table p left t
  table_left t h =
      ap (λ (y : Slot S). set (dispatched t p 0) p (made_ready (next x.machine x.reply) Done y)) (written (with_status (Running 0)) refl t p) ∙
      set_twice t p (with_status (Running 0) (at t p)) (made_ready (next x.machine x.reply) Done (with_status (Running 0) (at t p))) ∙ ap (λ (y : Slot S). set t p y) (slot_left (at t p) h)

  -- where another slot was written before
  pub table_beside : (t : Table S) (z : ℕ) (v : Slot S) → p ≢ z → Holds x (at t p) → readied (set (dispatched t p 0) z v) p (next x.machine x.reply) Done ≡ set (retold_table p left t) z v
  table_beside t z v ne h =
      let d : Table S = dispatched t p 0 in
      ap (λ (y : Slot S). set (set d z v) p (made_ready (next x.machine x.reply) Done y)) (kept d z p v ne) ∙ set_comm d z p v (made_ready (next x.machine x.reply) Done (at d p)) (λ is. ne (sym is)) ∙ ap (λ (u : Table S). set u z v) (table_left t h)

-- ---- a wait of p

module _ {S : Type 0} (call : S → Reply → Call) (next : S → Reply → S) (p : ℕ) (x : Process S) (waits : call x.machine x.reply ≡ Wait) where
  -- what p's turn changes where it frees the slot z
  abbrev pub change : ℕ → KernelState S → KernelState S
  change z k = record k { table = set (retold_table p (left next p x) k.table) z None }

  abbrev pub changes : ℕ → KernelState S → KernelState S
  changes z k = record (change z k) { events = k.events + 1 + 1 }

  -- p's turn, where it frees z
  reap_is : (k : KernelState S) (z : ℕ) → p ≢ z → Holds x (at k.table p) → answered (record (counted (given_0 k p)) { table = freed (dispatched k.table p 0) (Some z) }) p (next x.machine x.reply) Done ≡ changes z k
  reap_is k z ne h = λ i. record (changes z k) { table = table_beside next p x k.table z None ne h i }

  zombie_dispatched : (k : KernelState S) → Holds x (at k.table p) → zombie_child (dispatched k.table p 0) p ≡ zombie_child k.table p
  zombie_dispatched k h =
      position_same (is_zombie_child_of p) k.table p (with_status (Running 0) (at k.table p)) None
      (ap (λ (y : Slot S). is_zombie_child_of p (with_status (Running 0) y)) h.there ∙ ready_child p h.now h.ready ∙ sym (ap (is_zombie_child_of p) h.there))

  pub own : (k : KernelState S) (z : ℕ) → IsStill k → Holds x (at k.table p) → p ≢ z → zombie_child k.table p ≡ Some z → after_turn call next k p ≡ Some (changes z k)
  own k z still h ne is =
      let d : KernelState S = counted (given_0 k p) in
      let after : S = next x.machine x.reply in
      let first : zombie_child d.table p ≡ Some z = zombie_dispatched k h ∙ is in
      turn_is call next k p h.now still h.there (ap is_runnable_status h.ready) ∙
      ap Some (
      (λ i. acted d p (next (h.machine i) (h.reply i)) (call (h.machine i) (h.reply i)) false) ∙ ap (λ (c : Call). acted d p after c false) waits ∙
      ap (λ (o : Option ℕ). wait_by d p after (waited o (some_child d.table p))) first ∙ ap (λ (o : Option ℕ). answered (record d { table = freed d.table o }) p after Done) first ∙ reap_is k z ne h)

  change_names : (z n : ℕ) (k : KernelState S) → HasNamesUpTo n k → HasNamesUpTo n (change z k)
  change_names z n k names f g one two agree =
      (λ i. record (idle_kernel f 0 k) { table = idle f i }) ∙ ap (change z) (names f g one two agree) ∙ sym (λ i. record (idle_kernel g 0 k) { table = idle g i })
    where
      idle : (f : ℕ → ℕ) → map (idle_slot f) (set (retold_table p (left next p x) k.table) z None) ≡ set (retold_table p (left next p x) (map (idle_slot f) k.table)) z None
      idle f = map-set (idle_slot f) (retold_table p (left next p x) k.table) z None ∙ ap (λ (t : Table S). set t z None) (idle_told p (left next p x) f k.table)

  module _ (k : KernelState S) (b : IsBegun call next k) (q : ℕ) (y : Process S) (ne : q ≢ p) (h : Holds x (at k.table p)) (z : ℕ) (found : zombie_child k.table p ≡ Some z)
      (there : at k.table q ≡ Some y) (ready : y.status ≡ Runnable) where
    abbrev l : KernelState S
    l = turned call next k q y false

    abbrev d : KernelState S
    d = counted (given_0 k q)

    abbrev after_q : S
    after_q = next y.machine y.reply

    zombie : IsZombieOf (Some p) (at k.table z)
    zombie = zombie_is p (at k.table z) (position_found (is_zombie_child_of p) k.table None z found).1

    p_not_z : p ≢ z
    p_not_z = other_slot k.table p z (Some p) h.now zombie h.there h.ready

    q_not_z : q ≢ z
    q_not_z = other_slot k.table q z (Some p) y zombie there ready

    told : KernelState S
    told = retold p (left next p x) d

    zombie_d : IsZombieOf (Some p) (at d.table z)
    zombie_d = subst (IsZombieOf (Some p)) (sym (kept k.table q z (with_status (Running 0) (at k.table q)) (λ is. q_not_z (sym is)))) zombie

    told_at : (t : Table S) → at (retold_table p (left next p x) t) z ≡ at t z
    told_at t = kept t p z (retold_slot (left next p x) (at t p)) (λ is. p_not_z (sym is))

    start : Freed p q z ne q_not_z (retold_table p (left next p x) d.table) (set (retold_table p (left next p x) d.table) z None)
    start = record { is = refl; zombie = subst (IsZombieOf (Some p)) (sym (told_at d.table)) zombie_d }

    d_holds : Holds x (at d.table p)
    d_holds = in_own x p q ne k.table _ h

    -- q's call, made where p's turn came first but z is still there
    told_is : acted (retold p (left next p x) d) q after_q (call y.machine y.reply) false ≡ retold p (left next p x) l
    told_is = acted_told p (left next p x) q ne after_q d (call y.machine y.reply) false (ap is_free d_holds.there) (holds_alive x (at d.table p) d_holds)

    -- what comes of it is what the other order comes to, up to slots; and z is a zombie still
    pub record Comes : Type 0 where
      pub same : SameButSlots (acted (change z d) q after_q (call y.machine y.reply) false) (change z l)
      pub zombie : IsZombieOf (Some p) (at l.table z)

    by_same : (m : KernelState S) → Same q q (λ c. c) (SameEntries (Freed p q z ne q_not_z)) (keeps p q z ne q_not_z) (retold p (left next p x) l) m → (m ≡ change z l) × IsZombieOf (Some p) (at l.table z)
    by_same m s =
        (sym s.rest ∙ (λ i. record l { table = s.related.0.is i; entries = s.related.1 i }), subst (IsZombieOf (Some p)) (told_at l.table) s.related.0.zombie)

    no_fork : call y.machine y.reply ≢ Fork → Comes
    no_fork other =
        let s = acted_so p q z ne q_not_z after_q (retold p (left next p x) d) (set (retold_table p (left next p x) d.table) z None) start (call y.machine y.reply) false other in
        let it = by_same (acted (change z d) q after_q (call y.machine y.reply) false)
        (subst (λ (j : KernelState S). Same q q (λ c. c) (SameEntries (Freed p q z ne q_not_z)) (keeps p q z ne q_not_z) j (acted (change z d) q after_q (call y.machine y.reply) false)) told_is s) in
        record { same = subst (λ (j : KernelState S). SameButSlots (acted (change z d) q after_q (call y.machine y.reply) false) j) it.0 (same_itself (acted (change z d) q after_q (call y.machine y.reply) false)); zombie = it.1 }

    -- the kernel between the two turns, with q dispatched, is in the middle of q's call
    a_begun : IsBegun call next (changes z k)
    a_begun = begun_on call next k (changes z k) (p ∷ []) b (own k z (begun_still call next k b) h p_not_z found)

    a_there : at (changes z k).table q ≡ Some y
    a_there = kept (retold_table p (left next p x) k.table) z q None q_not_z ∙ kept k.table p q (retold_slot (left next p x) (at k.table p)) ne ∙ there

    given_table : dispatched (set (retold_table p (left next p x) k.table) z None) q 0 ≡ set (retold_table p (left next p x) (dispatched k.table q 0)) z None
    given_table =
        ap (λ (v : Slot S). set (set (retold_table p (left next p x) k.table) z None) q (with_status (Running 0) v)) (kept (retold_table p (left next p x) k.table) z q None q_not_z) ∙
        set_comm (retold_table p (left next p x) k.table) z q None (with_status (Running 0) (at (retold_table p (left next p x) k.table) q)) (λ is. q_not_z (sym is)) ∙ ap (λ (t : Table S). set t z None) (status_told p (left next p x) q ne k.table (Running 0))

    mid : Mid (set (retold_table p (left next p x) d.table) z None) q
    mid = subst (λ (t : Table S). Mid t q) given_table (begun_mid call next (changes z k) q y a_begun a_there (ap is_runnable_status ready))

    -- q forks into the slot c, which is free without p's turn too
    forks : (c : ℕ) → call y.machine y.reply ≡ Fork → lowest_free k.table ≡ Some c → Comes
    forks c is free =
        let t : Table S = set (retold_table p (left next p x) d.table) z None in
        let lowest : lowest_free (retold_table p (left next p x) d.table) ≡ Some c =
        position_same is_free d.table p (retold_slot (left next p x) (at d.table p)) None (told_free (at d.table p)) ∙ lowest_dispatched k.table q ∙ free in
        let none : at (retold_table p (left next p x) d.table) c ≡ None = was_free (retold_table p (left next p x) d.table) c lowest in
        let c_not_z : c ≢ z = λ same.
        let no : true ≡ false = sym (dead (Some p) (at (retold_table p (left next p x) d.table) z) start.zombie) ∙ ap is_zombie (ap (at (retold_table p (left next p x) d.table)) (sym same) ∙ none) in
        absurd (let v : ⊥ = cc in v) in
        let none_t : at t c ≡ None = kept (retold_table p (left next p x) d.table) z c None c_not_z ∙ none in
        let within : c < length t = subst (λ (i : ℕ). c < i) (sym (length-set (retold_table p (left next p x) d.table) z None)) (child_within (retold_table p (left next p x) d.table) c lowest) in
        let s = fork_so p q z ne q_not_z after_q (retold p (left next p x) d) t start c c_not_z in
        let left_is : fork_into (retold p (left next p x) d) q after_q (Some c) ≡ retold p (left next p x) l =
        ap (fork_into (retold p (left next p x) d) q after_q) (sym lowest) ∙ ap (λ (e : Call). acted (retold p (left next p x) d) q after_q e false) (sym is) ∙ told_is in
        let it = by_same (fork_into (change z d) q after_q (Some c))
        (subst (λ (j : KernelState S). Same q q (λ e. e) (SameEntries (Freed p q z ne q_not_z)) (keeps p q z ne q_not_z) j (fork_into (change z d) q after_q (Some c))) left_is s) in
        by (lowest_free t) refl none_t within it
      where
        told_free : (v : Slot S) → is_free (retold_slot (left next p x) v) ≡ is_free v
        told_free None = refl
        told_free (Some v) = refl

        by : (o : Option ℕ) → lowest_free (set (retold_table p (left next p x) d.table) z None) ≡ o → at (set (retold_table p (left next p x) d.table) z None) c ≡ None → c < length (set (retold_table p (left next p x) d.table) z None)
            → (fork_into (change z d) q after_q (Some c) ≡ change z l) × IsZombieOf (Some p) (at l.table z) → Comes
        by None full none within it = absurd (finds_free (set (retold_table p (left next p x) d.table) z None) c within none full)
        by (Some e) has none within it =
            let t : Table S = set (retold_table p (left next p x) d.table) z None in
            let two = forks_into unchanged q q after_q (change z d) t (moves_itself t q) mid mid.long e c (subst (λ (i : ℕ). e < i) mid.long (child_within t e has)) (subst (λ (i : ℕ). c < i) mid.long within) (was_free t e has) none in
            let one : acted (change z d) q after_q (call y.machine y.reply) false ≡ fork_into (change z d) q after_q (Some e) = ap (λ (v : Call). acted (change z d) q after_q v false) is ∙ ap (fork_into (change z d) q after_q) has in
            record {
              same = subst (λ (j : KernelState S). SameButSlots j (change z l)) (sym one) (subst (λ (j : KernelState S). SameButSlots (fork_into (change z d) q after_q (Some e)) j) it.0 (but_slots q q _ _ two));
              zombie = it.1;
            }

    -- where no slot is free q's fork is refused
    refused : call y.machine y.reply ≡ Fork → lowest_free k.table ≡ None → IsZombieOf (Some p) (at l.table z)
    refused is full =
        let gone : l ≡ fork_into d q after_q None = ap (λ (c : Call). acted d q after_q c false) is ∙ ap (fork_into d q after_q) (lowest_dispatched k.table q ∙ full) in
        subst (λ (j : KernelState S). IsZombieOf (Some p) (at j.table z)) (sym gone)
        (subst (IsZombieOf (Some p)) (sym (kept d.table q z (made_ready after_q Refused (at d.table q)) (λ same. q_not_z (sym same)))) zombie_d)

    zombie_stays : IsZombieOf (Some p) (at l.table z)
    zombie_stays = by (which (call y.machine y.reply)) (lowest_free k.table) refl where
      by : IsFork (call y.machine y.reply) → (o : Option ℕ) → lowest_free k.table ≡ o → IsZombieOf (Some p) (at l.table z)
      by (inr other) o is = (no_fork other).zombie
      by (inl fork) None is = refused fork is
      by (inl fork) (Some c) is = (forks c fork is).zombie

    comes : FindsSlotNext call next k q → Comes
    comes room = by (which (call y.machine y.reply)) (lowest_free k.table) refl where
      by : IsFork (call y.machine y.reply) → (o : Option ℕ) → lowest_free k.table ≡ o → Comes
      by (inr other) o is = no_fork other
      by (inl fork) None is = absurd (room y there fork is)
      by (inl fork) (Some c) is = forks c fork is

    -- q's turn after p's
    abbrev later : KernelState S
    later = turned call next (changes z k) q y false

    abbrev so_far : KernelState S
    so_far = acted (change z d) q after_q (call y.machine y.reply) false

    later_alike : Alike later so_far
    later_alike =
        let names : HasNamesUpTo k.events (change z d) = change_names z k.events d (given_names call next k q y false (begun_still call next k b) there (ap is_runnable_status ready)) in
        let ahead : KernelState S = record (change z d) { events = k.events + 1 + 1 + 1 + 1 } in
        let given : counted (given_0 (changes z k) q) ≡ ahead = λ i. record (counted (given_0 (changes z k) q)) { table = given_table i } in
        subst (λ (m : KernelState S). Alike (acted m q after_q (call y.machine y.reply) false) so_far) (sym given)
        (acted_alike ahead (change z d) k.events k.events q after_q (call y.machine y.reply) false names names (omega arith) (omega arith) (relike (change z d) ahead (change z d) (change z d) (alike_itself (change z d)) refl refl))

    l_turn : after_turn call next k q ≡ Some l
    l_turn = turn_is call next k q y (begun_still call next k b) there (ap is_runnable_status ready)

    l_begun : IsBegun call next l
    l_begun = begun_on call next k l (q ∷ []) b l_turn

    l_holds : Holds x (at l.table p)
    l_holds = turn_keeps call next k p q x y ne h

    -- p frees this zombie after q's turn
    module _ (same : SameButSlots so_far (change z l)) (zombie_l : IsZombieOf (Some p) (at l.table z)) (z1 : ℕ) (found_l : zombie_child l.table p ≡ Some z1) where
      its_child : (i : ℕ) → IsZombieOf (Some p) (at l.table i) → is_zombie_child_of p (at (dispatched l.table p 0) i) ≡ true
      its_child i it =
          let ne : p ≢ i = other_slot l.table p i (Some p) l_holds.now it l_holds.there l_holds.ready in
          ap (is_zombie_child_of p) (kept l.table p i (with_status (Running 0) (at l.table p)) (λ is. ne (sym is))) ∙ (λ j. (child_of p (Some p) (at l.table i) it ∙ eq-eqb p p refl) j && dead (Some p) (at l.table i) it j)

      slot_within : (i : ℕ) → IsZombieOf (Some p) (at l.table i) → i < PROCS
      slot_within i it = subst (λ (m : ℕ). i < m) (begun_still call next l l_begun).sound.slots (within_list l.table i it.process it.there)

      zombie_1 : IsZombieOf (Some p) (at l.table z1)
      zombie_1 = zombie_is p (at l.table z1) (position_found (is_zombie_child_of p) l.table None z1 found_l).1

      p_not_z1 : p ≢ z1
      p_not_z1 = other_slot l.table p z1 (Some p) l_holds.now zombie_1 l_holds.there l_holds.ready

      reaped : SameButSlots (changes z l) (changes z1 l)
      reaped =
          let m : KernelState S = counted (given_0 l p) in
          let mid_l : Mid m.table p = begun_mid call next l p l_holds.now l_begun l_holds.there (ap is_runnable_status l_holds.ready) in
          let it = reaps unchanged p p (next x.machine x.reply) m m.table (moves_itself m.table p) mid_l mid_l.long z z1 (slot_within z zombie_l) (slot_within z1 zombie_1) (its_child z zombie_l) (its_child z1 zombie_1) in
          subst (λ (j : KernelState S). SameButSlots (changes z l) j) (reap_is l z1 p_not_z1 l_holds)
          (subst (λ (j : KernelState S). SameButSlots j (answered (record m { table = freed m.table (Some z1) }) p (next x.machine x.reply) Done)) (reap_is l z p_not_z l_holds) (but_slots p p _ _ it))

      in_order : InEitherOrderButSlots call next (changes z k) l p q
      in_order =
          record {
            after = later;
            second = turn_is call next (changes z k) q y (begun_still call next (changes z k) a_begun) a_there (ap is_runnable_status ready);
            both = changes z1 l;
            taken = own l z1 (begun_still call next l l_begun) l_holds p_not_z1 found_l;
            between = record so_far { events = so_far.events + 1 + 1 };
            alike = relike later later so_far (record so_far { events = so_far.events + 1 + 1 }) later_alike refl refl;
            same = same_on (record so_far { events = so_far.events + 1 + 1 }) (changes z l) (changes z1 l) (events_so so_far (change z l) same) reaped;
          }

    pub either_by : FindsSlotNext call next k q → InEitherOrderButSlots call next (changes z k) l p q
    either_by room = by (comes room) (zombie_child l.table p) refl where
      by : Comes → (o : Option ℕ) → zombie_child l.table p ≡ o → InEitherOrderButSlots call next (changes z k) l p q
      by c (Some z1) found_l = in_order c.same c.zombie z1 found_l
      by c None none =
          let it : is_zombie_child_of p (at l.table z) ≡ true = λ j. (child_of p (Some p) (at l.table z) c.zombie ∙ eq-eqb p p refl) j && dead (Some p) (at l.table z) c.zombie j in
          absurd (let no : true ≡ false = sym it ∙ none_at (is_zombie_child_of p) refl l.table none z in let v : ⊥ = cc in v)

-- ---- the law

module _ {S : Type 0} (call : S → Reply → Call) (next : S → Reply → S) where
  -- the lowest zombie of such a process
  first_zombie : (t : Table S) (p i : ℕ) → is_zombie_child_of p (at t i) ≡ true → (z : ℕ) × (zombie_child t p ≡ Some z)
  first_zombie t p i is = by (zombie_child t p) refl where
    by : (o : Option ℕ) → zombie_child t p ≡ o → (z : ℕ) × (zombie_child t p ≡ Some z)
    by (Some z) found = (z, found)
    by None none = absurd (let no : true ≡ false = sym is ∙ none_at (is_zombie_child_of p) refl t none i in let v : ⊥ = cc in v)

  pub reaps_either : (k a l : KernelState S) (p q : ℕ) → IsBegun call next k → ReapsNext call next k p → q ≢ p → FindsSlotNext call next k q
      → after_turn call next k p ≡ Some a → after_turn call next k q ≡ Some l → InEitherOrderButSlots call next a l p q
  reaps_either k a l p q b e ne room first second =
      let x : Process S = e.process in
      let h : Holds x (at k.table p) = holds_itself x (at k.table p) e.there e.ready in
      let z = first_zombie k.table p e.zombie e.dead in
      let r = ready_slot (at k.table q) (could_turn call next k (record { pid = q; refused = false }) (l, second)) in
      let ready : r.process.status ≡ Runnable = runnable_by r.process.status r.ready in
      let still : IsStill k = begun_still call next k b in
      let apart : p ≢ z.0 = other_slot k.table p z.0 (Some p) x (zombie_is p (at k.table z.0) (position_found (is_zombie_child_of p) k.table None z.0 z.1).1) e.there e.ready in
      let one : Some (changes call next p x e.calls z.0 k) ≡ Some a = sym (own call next p x e.calls k z.0 still h apart z.1) ∙ first in
      let two : Some (turned call next k q r.process false) ≡ Some l = sym (turn_is call next k q r.process still r.there r.ready) ∙ second in
      let same_a : changes call next p x e.calls z.0 k ≡ a = cc in
      let same_l : turned call next k q r.process false ≡ l = cc in
      subst (λ (j : KernelState S). InEitherOrderButSlots call next j l p q) same_a
      (subst (λ (j : KernelState S). InEitherOrderButSlots call next (changes call next p x e.calls z.0 k) j p q) same_l (either_by call next p x e.calls k b q r.process ne h z.0 z.1 r.there ready room))

  pub reaps_stays : (k l : KernelState S) (p q : ℕ) → IsBegun call next k → ReapsNext call next k p → q ≢ p → after_turn call next k q ≡ Some l → ReapsNext call next l p
  reaps_stays k l p q b e ne second =
      let x : Process S = e.process in
      let h : Holds x (at k.table p) = holds_itself x (at k.table p) e.there e.ready in
      let z = first_zombie k.table p e.zombie e.dead in
      let r = ready_slot (at k.table q) (could_turn call next k (record { pid = q; refused = false }) (l, second)) in
      let ready : r.process.status ≡ Runnable = runnable_by r.process.status r.ready in
      let two : Some (turned call next k q r.process false) ≡ Some l = sym (turn_is call next k q r.process (begun_still call next k b) r.there r.ready) ∙ second in
      let same_l : turned call next k q r.process false ≡ l = cc in
      let it : IsZombieOf (Some p) (at l.table z.0) = subst (λ (j : KernelState S). IsZombieOf (Some p) (at j.table z.0)) same_l (zombie_stays call next p x e.calls k b q r.process ne h z.0 z.1 r.there ready) in
      let now : Holds x (at l.table p) = subst (λ (j : KernelState S). Holds x (at j.table p)) same_l (turn_keeps call next k p q x r.process ne h) in
      record {
        process = now.now;
        there = now.there;
        ready = now.ready;
        calls = (λ i. call (now.machine i) (now.reply i)) ∙ e.calls;
        zombie = z.0;
        dead = λ j. (child_of p (Some p) (at l.table z.0) it ∙ eq-eqb p p refl) j && dead (Some p) (at l.table z.0) it j;
      }
