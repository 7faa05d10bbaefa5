-- A fork that finds a free slot, and another process's turn, in either order.
use Rattle.std.proofs.Common.{◌≡◌, ◌≢◌, ℕ, ◌+◌, ◌<◌, [], ◌∷◌, true, false, Option, Some, None, length, inl, inr, refl, sym, ap, subst, ◌∙◌, arith, get_or-set_same}
use Rattle.std.proofs.Math.ListN.{set, length-set}
use Rattle.std.proofs.lemmas.List.{map-set, set_comm}
use Rattle.std.specs.Prelude.{map}
use Rattle.user_calls.specs.declared.calls.Call.{Call}
use Rattle.user_calls.specs.declared.calls.Call.TheVariants.{Fork}
use Rattle.user_calls.specs.declared.calls.Reply.{Reply}
use Rattle.user_calls.specs.declared.calls.Reply.TheVariants.{Done}
use Rattle.fd_table.specs.Entries.{OpenFile, entry_at, count_of}
use Rattle.fd_table.specs.Descriptors.{Descriptors, holders_in, all_held}
use Rattle.fd_table.specs.Holders.{HasHolders, holders}
use Rattle.proc_table.specs.declared.pid.TheConstants.{PROCS}
use Rattle.proc_table.specs.declared.states.Status.{Status}
use Rattle.proc_table.specs.declared.states.Status.TheVariants.{Runnable, Running}
use Rattle.proc_table.specs.Slots.{Slot, Table, Process, at, is_free, is_runnable_status, is_zombie, is_zombie_status}
use Rattle.proc_table.specs.Calls.{dispatched, with_status, made_ready, readied, lowest_free, newborn, forked}
use Rattle.proc_table.proofs.Changes.{written, kept, child_within, was_free}
use Rattle.kernel_model.specs.KernelState.{KernelState, fds_of}
use Rattle.kernel_model.specs.Sound.{IsSound, tables}
use Rattle.kernel_model.specs.Processes.{fork_into}
use Rattle.kernel_model.specs.Events.{acted, counted}
use Rattle.law_kernel.specs.Sleeping.{Lives}
use Rattle.kernel_model.specs.Idle.{idle_slot, idle_kernel}
use Rattle.kernel_model.specs.Alike.{Alike, IsStill, HasNamesUpTo}
use Rattle.kernel_model.specs.Turns.{after_turn}
use Rattle.kernel_model.specs.Begun.{IsBegun}
use Rattle.kernel_model.specs.Numbers.{Numbering}
use Rattle.law_turns.proofs.orders.Names.{acted_alike}
use Rattle.law_turns.proofs.orders.Follow.{after_turn as turned, given_0, given_names}
use Rattle.law_turns.proofs.orders.Back.{could_turn}
use Rattle.law_turns.proofs.orders.Turning.{relike}
use Rattle.law_turns.proofs.orders.Booted.{alike_itself}
use Rattle.law_turns.specs.Retold.{Left, retold_slot, retold_table, retold}
use Rattle.law_turns.proofs.private_turns.Unseen.{status_told, ready_told, fds_told}
use Rattle.law_turns.proofs.private_turns.Unheard.{acted_told}
use Rattle.law_turns.proofs.private_turns.Staying.{Holds, holds_itself, holds_alive, in_own}
use Rattle.law_turns.proofs.private_turns.Holders.{two_holders}
use Rattle.law_turns.proofs.private_turns.Shared.{given_sound}
use Rattle.law_turns.proofs.private_turns.Begun.{begun_on, begun_still}
use Rattle.law_turns.proofs.private_turns.Turned.{idle_told, turn_is, turn_keeps, ready_slot, runnable_by}
use Rattle.law_turns.proofs.entry_numbers.Numberings.{unchanged}
use Rattle.kernel_model.specs.Slots.{IsMoved, SameButSlots}
use Rattle.kernel_model.specs.Giving.{ForksNext}
use Rattle.law_turns.proofs.slot_numbers.Slots.{exactly}
use Rattle.law_turns.proofs.slot_numbers.Tables.{Moves, ready_moved, dispatched_moved}
use Rattle.law_turns.proofs.slot_numbers.Calls.{Same}
use Rattle.law_turns.proofs.slot_numbers.Acted.{Mid, but_slots, swapped, living, forks_moves, forks_into}
use Rattle.law_turns.proofs.slot_numbers.Same.{moves_itself, same_back}
use Rattle.law_turns.proofs.slot_numbers.Turns.{begun_mid}
use Rattle.law_turns.specs.Waits.{InEitherOrderButSlots}
use Rattle.law_turns.proofs.waits.Turned.{IsFork, which, lowest_dispatched, left, table_beside}
use Rattle.law_turns.specs.Forks.{HasSlot}
use Rattle.law_turns.proofs.forks.Held.{AreCounted, all_renamed}
use Rattle.law_turns.proofs.forks.Filled.{Filled, keeps, fork_so, acted_so}

-- ---- facts of slots

pub slot_of : (o : Option ℕ) → o ≢ None → (c : ℕ) × (o ≡ Some c)
slot_of None some = absurd (some refl)
slot_of (Some c) some = (c, refl)

not_there : {S : Type 0} (t : Table S) (p c : ℕ) (x : Process S) → at t p ≡ Some x → at t c ≡ None → p ≢ c
not_there t p c x there none is = absurd (let no : None ≡ Some x = sym none ∙ ap (at t) (sym is) ∙ there in let z : ⊥ = cc in z)

told_free : {S : Type 0} (l : Left S) (v : Slot S) → is_free (retold_slot l v) ≡ is_free v
told_free l None = refl
told_free l (Some v) = refl

alive_ready : (s : Status) → s ≡ Runnable → is_zombie_status s ≡ false
alive_ready s is = ap is_zombie_status is

counted_is : (x : Option OpenFile) (n : ℕ) → HasHolders x n → count_of x ≡ n
counted_is None n h = sym h
counted_is (Some f) n h = h.0

module _ {S : Type 0} (call : S → Reply → Call) (next : S → Reply → S) (p : ℕ) (x : Process S) (forks : call x.machine x.reply ≡ Fork) where
  abbrev after : S
  after = next x.machine x.reply

  abbrev child : Slot S
  child = Some (newborn p (next x.machine x.reply) x.fds)

  -- what p's turn changes where it takes the slot c
  abbrev pub change : ℕ → KernelState S → KernelState S
  change c k = record k { table = set (retold_table p (left next p x) k.table) c child; entries = all_held k.entries x.fds }

  abbrev pub changes : ℕ → KernelState S → KernelState S
  changes c k = record (change c k) { events = k.events + 1 + 1 }

  own_fds : (k : KernelState S) → Holds x (at k.table p) → fds_of (at (dispatched k.table p 0) p) ≡ x.fds
  own_fds k h = ap fds_of (written (with_status (Running 0)) refl k.table p ∙ ap (with_status (Running 0)) h.there) ∙ h.fds

  -- p's turn, where it takes c
  pub fork_is : (k : KernelState S) (c : ℕ) → p ≢ c → Holds x (at k.table p) → fork_into (counted (given_0 k p)) p (next x.machine x.reply) (Some c) ≡ changes c k
  fork_is k c ne h =
      (λ i. record (changes c k) { table = readied (forked (dispatched k.table p 0) c p (next x.machine x.reply) (own_fds k h i)) p (next x.machine x.reply) Done; entries = all_held k.entries (own_fds k h i) }) ∙
      (λ i. record (changes c k) { table = table_beside next p x k.table c child ne h i })

  pub own : (k : KernelState S) (c : ℕ) → IsStill k → Holds x (at k.table p) → lowest_free k.table ≡ Some c → after_turn call next k p ≡ Some (changes c k)
  own k c still h is =
      let d : KernelState S = counted (given_0 k p) in
      let ne : p ≢ c = not_there k.table p c h.now h.there (was_free k.table c is) in
      turn_is call next k p h.now still h.there (ap is_runnable_status h.ready) ∙
      ap Some (
      (λ i. acted d p (next (h.machine i) (h.reply i)) (call (h.machine i) (h.reply i)) false) ∙ ap (λ (e : Call). acted d p (next x.machine x.reply) e false) forks ∙
      ap (fork_into d p (next x.machine x.reply)) (lowest_dispatched k.table p ∙ is) ∙ fork_is k c ne h)

  change_names : (c n : ℕ) (k : KernelState S) → HasNamesUpTo n k → HasNamesUpTo n (change c k)
  change_names c n k names f g one two agree =
      (λ i. record (idle_kernel f 0 k) { table = idle f i; entries = all_renamed f k.entries x.fds i }) ∙ ap (change c) (names f g one two agree) ∙ sym (λ i. record (idle_kernel g 0 k) { table = idle g i; entries = all_renamed g k.entries x.fds i })
    where
      idle : (f : ℕ → ℕ) → map (idle_slot f) (set (retold_table p (left next p x) k.table) c child) ≡ set (retold_table p (left next p x) (map (idle_slot f) k.table)) c child
      idle f = map-set (idle_slot f) (retold_table p (left next p x) k.table) c child ∙ ap (λ (t : Table S). set t c child) (idle_told p (left next p x) f k.table)

  module _ (k : KernelState S) (b : IsBegun call next k) (q : ℕ) (y : Process S) (ne : q ≢ p) (h : Holds x (at k.table p)) (c : ℕ) (found : lowest_free k.table ≡ Some c)
      (there : at k.table q ≡ Some y) (ready : y.status ≡ Runnable) where
    abbrev l : KernelState S
    l = turned call next k q y false

    abbrev d : KernelState S
    d = counted (given_0 k q)

    abbrev after_q : S
    after_q = next y.machine y.reply

    still : IsStill k
    still = begun_still call next k b

    free : at k.table c ≡ None
    free = was_free k.table c found

    p_not_c : p ≢ c
    p_not_c = not_there k.table p c h.now h.there free

    q_not_c : q ≢ c
    q_not_c = not_there k.table q c y there free

    free_d : at d.table c ≡ None
    free_d = kept k.table q c (with_status (Running 0) (at k.table q)) (λ is. q_not_c (sym is)) ∙ free

    told_at : (t : Table S) → at (retold_table p (left next p x) t) c ≡ at t c
    told_at t = kept t p c (retold_slot (left next p x) (at t p)) (λ is. p_not_c (sym is))

    d_holds : Holds x (at d.table p)
    d_holds = in_own x p q ne k.table _ h

    sound_d : IsSound d.table d.entries
    sound_d = given_sound call next k q y still there (ap is_runnable_status ready)

    counted_d : AreCounted x.fds d.entries (fds_of (at d.table q))
    counted_d =
        record {
          enough =
              λ e some. omega (arith, two_holders e d.table p q (λ is. ne (sym is)), counted_is (entry_at d.entries e) (holders (tables d.table) e) (sound_d.counts e), ap (λ (f : Descriptors). holders_in f e) (ap fds_of d_holds.there ∙ d_holds.fds), some);
        }

    start : Filled p q c (next x.machine x.reply) x.fds ne q_not_c (retold_table p (left next p x) d.table) d.entries (set (retold_table p (left next p x) d.table) c child) (all_held d.entries x.fds)
    start = record { is = refl; none = told_at d.table ∙ free_d; held = refl; counted = subst (AreCounted x.fds d.entries) (sym (fds_told p (left next p x) q ne d.table)) counted_d }

    alive_q : is_zombie (at (retold_table p (left next p x) d.table) q) ≡ false
    alive_q =
        ap is_zombie (kept d.table p q (retold_slot (left next p x) (at d.table p)) ne ∙ written (with_status (Running 0)) refl k.table q ∙ ap (with_status (Running 0)) there)

    told_is : acted (retold p (left next p x) d) q after_q (call y.machine y.reply) false ≡ retold p (left next p x) l
    told_is = acted_told p (left next p x) q ne after_q d (call y.machine y.reply) false (ap is_free d_holds.there) (holds_alive x (at d.table p) d_holds)

    -- what q's call comes to after p's turn is what p's turn makes of it
    exact : (was m : KernelState S) → Same q q (λ ch. ch) (Filled p q c (next x.machine x.reply) x.fds ne q_not_c) (keeps p q c (next x.machine x.reply) x.fds ne q_not_c) (retold p (left next p x) was) m → m ≡ change c was
    exact was m s = sym s.rest ∙ (λ i. record was { table = s.related.is i; entries = s.related.held i })

    -- ---- in the middle of turns

    own_k : after_turn call next k p ≡ Some (changes c k)
    own_k = own k c still h found

    a_begun : IsBegun call next (changes c k)
    a_begun = begun_on call next k (changes c k) (p ∷ []) b own_k

    a_there : at (changes c k).table q ≡ Some y
    a_there = kept (retold_table p (left next p x) k.table) c q child q_not_c ∙ kept k.table p q (retold_slot (left next p x) (at k.table p)) ne ∙ there

    given_table : dispatched (set (retold_table p (left next p x) k.table) c child) q 0 ≡ set (retold_table p (left next p x) (dispatched k.table q 0)) c child
    given_table =
        ap (λ (v : Slot S). set (set (retold_table p (left next p x) k.table) c child) q (with_status (Running 0) v)) (kept (retold_table p (left next p x) k.table) c q child q_not_c) ∙
        set_comm (retold_table p (left next p x) k.table) c q child (with_status (Running 0) (at (retold_table p (left next p x) k.table) q)) (λ is. q_not_c (sym is)) ∙ ap (λ (t : Table S). set t c child) (status_told p (left next p x) q ne k.table (Running 0))

    abbrev later : KernelState S
    later = turned call next (changes c k) q y false

    abbrev so_far : KernelState S
    so_far = acted (change c d) q after_q (call y.machine y.reply) false

    later_alike : Alike later so_far
    later_alike =
        let names : HasNamesUpTo k.events (change c d) = change_names c k.events d (given_names call next k q y false still there (ap is_runnable_status ready)) in
        let ahead : KernelState S = record (change c d) { events = k.events + 1 + 1 + 1 + 1 } in
        let given : counted (given_0 (changes c k) q) ≡ ahead = λ i. record (counted (given_0 (changes c k) q)) { table = given_table i } in
        subst (λ (m : KernelState S). Alike (acted m q after_q (call y.machine y.reply) false) so_far) (sym given)
        (acted_alike ahead (change c d) k.events k.events q after_q (call y.machine y.reply) false names names (omega arith) (omega arith) (relike (change c d) ahead (change c d) (change c d) (alike_itself (change c d)) refl refl))

    l_turn : after_turn call next k q ≡ Some l
    l_turn = turn_is call next k q y still there (ap is_runnable_status ready)

    l_begun : IsBegun call next l
    l_begun = begun_on call next k l (q ∷ []) b l_turn

    l_holds : Holds x (at l.table p)
    l_holds = turn_keeps call next k p q x y ne h

    mid_l : Mid (counted (given_0 l p)).table p
    mid_l = begun_mid call next l p l_holds.now l_begun l_holds.there (ap is_runnable_status l_holds.ready)

    -- ---- both orders

    module _ (c1 : ℕ) (found_l : lowest_free l.table ≡ Some c1) where
      p_not_c1 : p ≢ c1
      p_not_c1 = not_there l.table p c1 l_holds.now l_holds.there (was_free l.table c1 found_l)

      within_1 : c1 < PROCS
      within_1 = subst (λ (i : ℕ). c1 < i) (begun_still call next l l_begun).sound.slots (child_within l.table c1 found_l)

      free_1 : at (counted (given_0 l p)).table c1 ≡ None
      free_1 = kept l.table p c1 (with_status (Running 0) (at l.table p)) (λ is. p_not_c1 (sym is)) ∙ was_free l.table c1 found_l

      within_c : c < PROCS
      within_c = subst (λ (i : ℕ). c < i) still.sound.slots (child_within k.table c found)

      -- q's turn after p's, with both events of p's counted
      abbrev between : KernelState S
      between = record so_far { events = so_far.events + 1 + 1 }

      in_order : SameButSlots between (changes c1 l) → InEitherOrderButSlots call next (changes c k) l p q
      in_order same =
          record {
            after = later;
            second = turn_is call next (changes c k) q y (begun_still call next (changes c k) a_begun) a_there (ap is_runnable_status ready);
            both = changes c1 l;
            taken = own l c1 (begun_still call next l l_begun) l_holds found_l;
            between = between;
            alike = relike later later so_far between later_alike refl refl;
            same = same;
          }

      -- q doesn't fork: c is free still
      no_fork : call y.machine y.reply ≢ Fork → InEitherOrderButSlots call next (changes c k) l p q
      no_fork other =
          let s = acted_so p q c (next x.machine x.reply) x.fds ne q_not_c after_q (retold p (left next p x) d) (set (retold_table p (left next p x) d.table) c child) (all_held d.entries x.fds) start alive_q (call y.machine y.reply) false other in
          let it = subst (λ (j : KernelState S). Same q q (λ ch. ch) (Filled p q c (next x.machine x.reply) x.fds ne q_not_c) (keeps p q c (next x.machine x.reply) x.fds ne q_not_c) j so_far) told_is s in
          let free_l : at l.table c ≡ None = sym (told_at l.table) ∙ it.related.none in
          let free_dl : at (counted (given_0 l p)).table c ≡ None = kept l.table p c (with_status (Running 0) (at l.table p)) (λ is. p_not_c (sym is)) ∙ free_l in
          let slots = forks_into unchanged p p (next x.machine x.reply) (counted (given_0 l p)) (counted (given_0 l p)).table (moves_itself (counted (given_0 l p)).table p) mid_l mid_l.long c c1 within_c within_1 free_dl free_1 in
          let two : SameButSlots (changes c l) (changes c1 l) =
          subst (λ (j : KernelState S). SameButSlots (changes c l) j) (fork_is l c1 p_not_c1 l_holds)
          (subst (λ (j : KernelState S). SameButSlots j (fork_into (counted (given_0 l p)) p (next x.machine x.reply) (Some c1))) (fork_is l c p_not_c l_holds) (but_slots p p _ _ slots)) in
          in_order (subst (λ (j : KernelState S). SameButSlots j (changes c1 l)) (sym (ap (λ (j : KernelState S). record j { events = j.events + 1 + 1 }) (exact l so_far it))) two)

      -- q forks too, into the slot e
      module _ (is : call y.machine y.reply ≡ Fork) (e : ℕ) (found_a : lowest_free (changes c k).table ≡ Some e) where
        abbrev into : ℕ → KernelState S
        into i = fork_into d q after_q (Some i)

        lowest_d : lowest_free (set (retold_table p (left next p x) d.table) c child) ≡ Some e
        lowest_d = ap lowest_free (sym given_table) ∙ lowest_dispatched (changes c k).table q ∙ found_a

        free_e : at (set (retold_table p (left next p x) d.table) c child) e ≡ None
        free_e = was_free (set (retold_table p (left next p x) d.table) c child) e lowest_d

        within_e : e < PROCS
        within_e = subst (λ (i : ℕ). e < i) (begun_still call next (changes c k) a_begun).sound.slots (child_within (changes c k).table e found_a)

        child_there : at (set (retold_table p (left next p x) d.table) c child) c ≡ child
        child_there = get_or-set_same (retold_table p (left next p x) d.table) c child None (subst (λ (i : ℕ). c < i) (sym (length-set d.table p (retold_slot (left next p x) (at d.table p)) ∙ sound_d.slots)) within_c)

        e_not_c : e ≢ c
        e_not_c same = absurd (let no : None ≡ child = sym free_e ∙ ap (at (set (retold_table p (left next p x) d.table) c child)) same ∙ child_there in let z : ⊥ = cc in z)

        free_told : at (retold_table p (left next p x) d.table) e ≡ None
        free_told = sym (kept (retold_table p (left next p x) d.table) c e child e_not_c) ∙ free_e

        p_there : at (retold_table p (left next p x) d.table) p ≡ retold_slot (left next p x) (at d.table p)
        p_there = written (retold_slot (left next p x)) refl d.table p

        p_not_e : p ≢ e
        p_not_e same =
            absurd (let no : true ≡ false = ap is_free (sym (ap (at (retold_table p (left next p x) d.table)) same ∙ free_told)) ∙ ap is_free p_there ∙ told_free (left next p x) (at d.table p) ∙ ap is_free d_holds.there in let z : ⊥ = cc in z)

        free_in_d : at d.table e ≡ None
        free_in_d = sym (kept d.table p e (retold_slot (left next p x) (at d.table p)) (λ same. p_not_e (sym same))) ∙ free_told

        q_not_e : e ≢ q
        q_not_e same =
            absurd (let no : None ≡ Some (record y { status = Running 0 }) = sym free_in_d ∙ ap (at d.table) same ∙ written (with_status (Running 0)) refl k.table q ∙ ap (with_status (Running 0)) there in let z : ⊥ = cc in z)

        -- what p's turn leaves in its slot q's fork carries along
        told_fork : fork_into (retold p (left next p x) d) q after_q (Some e) ≡ retold p (left next p x) (into e)
        told_fork =
            let t : Table S = d.table in
            let v : Slot S = retold_slot (left next p x) (at t p) in
            let dq : Descriptors = fds_of (at t q) in
            let filled : set (retold_table p (left next p x) t) e (Some (newborn q after_q dq)) ≡ retold_table p (left next p x) (set t e (Some (newborn q after_q dq))) =
            set_comm t p e v (Some (newborn q after_q dq)) p_not_e ∙ ap (λ (w : Slot S). set (set t e (Some (newborn q after_q dq))) p (retold_slot (left next p x) w)) (sym (kept t e p (Some (newborn q after_q dq)) p_not_e)) in
            (λ i. record d { table = readied (set (retold_table p (left next p x) t) e (Some (newborn q after_q (fds_told p (left next p x) q ne t i)))) q after_q Done; entries = all_held d.entries (fds_told p (left next p x) q ne t i) }) ∙
            (λ i. record d { table = readied (filled i) q after_q Done; entries = all_held d.entries dq }) ∙
            (λ i. record d { table = ready_told p (left next p x) q ne (set t e (Some (newborn q after_q dq))) after_q Done i; entries = all_held d.entries dq })

        so_far_is : so_far ≡ change c (into e)
        so_far_is =
            let s = fork_so p q c (next x.machine x.reply) x.fds ne q_not_c after_q (retold p (left next p x) d) (set (retold_table p (left next p x) d.table) c child) (all_held d.entries x.fds) start alive_q e e_not_c q_not_e in
            let it = subst (λ (j : KernelState S). Same q q (λ ch. ch) (Filled p q c (next x.machine x.reply) x.fds ne q_not_c) (keeps p q c (next x.machine x.reply) x.fds ne q_not_c) j (fork_into (change c d) q after_q (Some e))) told_fork s in
            ap (λ (v : Call). acted (change c d) q after_q v false) is ∙ ap (fork_into (change c d) q after_q) lowest_d ∙ exact (into e) (fork_into (change c d) q after_q (Some e)) it

        l_is : l ≡ into c
        l_is = ap (λ (v : Call). acted d q after_q v false) is ∙ ap (fork_into d q after_q) (lowest_dispatched k.table q ∙ found)

        -- p's slot in both
        at_p : (i : ℕ) → p ≢ i → at (into i).table p ≡ at d.table p
        at_p i far =
            kept (forked d.table i q after_q (fds_of (at d.table q))) q p (made_ready after_q Done (at (forked d.table i q after_q (fds_of (at d.table q))) q)) (λ same. ne (sym same)) ∙
            kept d.table i p (Some (newborn q after_q (fds_of (at d.table q)))) far

        holds_in : (i : ℕ) → p ≢ i → Holds x (at (into i).table p)
        holds_in i far = subst (Holds x) (sym (at_p i far)) d_holds

        mid_d : Mid d.table q
        mid_d = begun_mid call next k q y b there (ap is_runnable_status ready)

        lives_p : Lives (at d.table p)
        lives_p = record { used = ap is_free d_holds.there; alive = holds_alive x (at d.table p) d_holds }

        abbrev numbers : Numbering
        numbers = swapped unchanged q q after_q d d.table (moves_itself d.table q) mid_d mid_d.long c e within_c within_e free_d free_in_d

        number_p : numbers.to p ≡ p
        number_p = sym (living unchanged q q after_q d d.table (moves_itself d.table q) mid_d mid_d.long c e within_c within_e free_d free_in_d p lives_p)

        moves_q : Moves numbers q q (into c).table (into e).table
        moves_q =
            ready_moved numbers q q (forked d.table c q after_q (fds_of (at d.table q))) (forked d.table e q after_q (fds_of (at d.table q))) after_q Done
            (forks_moves unchanged q q after_q d d.table (moves_itself d.table q) mid_d mid_d.long c e within_c within_e free_d free_in_d)

        moves_p : Moves numbers p p (into c).table (into e).table
        moves_p =
            let here = subst (λ (i : ℕ). IsMoved numbers.to (at (into c).table p) (at (into e).table i)) number_p (moves_q.moved.slots p) in
            record { moved = moves_q.moved; number = number_p; mine = exactly numbers (at (into c).table p) (at (into e).table p) here (holds_alive x (at (into c).table p) (holds_in c p_not_c)) }

        free_ec : at (counted (given_0 (into e) p)).table c ≡ None
        free_ec =
            let t : Table S = forked d.table e q after_q (fds_of (at d.table q)) in
            kept (into e).table p c (with_status (Running 0) (at (into e).table p)) (λ same. p_not_c (sym same)) ∙ kept t q c (made_ready after_q Done (at t q)) (λ same. q_not_c (sym same)) ∙
            kept d.table e c (Some (newborn q after_q (fds_of (at d.table q)))) (λ same. e_not_c (sym same)) ∙ free_d

        long_e : length (counted (given_0 (into e) p)).table ≡ PROCS
        long_e =
            let t : Table S = forked d.table e q after_q (fds_of (at d.table q)) in
            length-set (into e).table p (with_status (Running 0) (at (into e).table p)) ∙ length-set t q (made_ready after_q Done (at t q)) ∙ length-set d.table e (Some (newborn q after_q (fds_of (at d.table q)))) ∙ mid_d.long

        both_fork : InEitherOrderButSlots call next (changes c k) l p q
        both_fork =
            let mid_c : Mid (counted (given_0 (into c) p)).table p = subst (λ (j : KernelState S). Mid (counted (given_0 j p)).table p) l_is mid_l in
            let free_c1 : at (counted (given_0 (into c) p)).table c1 ≡ None = subst (λ (j : KernelState S). at (counted (given_0 j p)).table c1 ≡ None) l_is free_1 in
            let slots = forks_into numbers p p (next x.machine x.reply) (counted (given_0 (into c) p)) (counted (given_0 (into e) p)).table (dispatched_moved numbers p p (into c).table (into e).table moves_p) mid_c long_e c1 c within_1 within_c free_c1 free_ec in
            let two : SameButSlots (changes c1 (into c)) (changes c (into e)) =
            subst (λ (j : KernelState S). SameButSlots (changes c1 (into c)) j) (fork_is (into e) c p_not_c (holds_in e p_not_e))
            (subst (λ (j : KernelState S). SameButSlots j (fork_into (counted (given_0 (into e) p)) p (next x.machine x.reply) (Some c))) (fork_is (into c) c1 p_not_c1 (holds_in c p_not_c)) (but_slots p p _ _ slots)) in
            let back : SameButSlots (changes c (into e)) (changes c1 l) = subst (λ (j : KernelState S). SameButSlots (changes c (into e)) (changes c1 j)) (sym l_is) (same_back (changes c1 (into c)) (changes c (into e)) two) in
            in_order (subst (λ (j : KernelState S). SameButSlots j (changes c1 l)) (sym (ap (λ (j : KernelState S). record j { events = j.events + 1 + 1 }) so_far_is)) back)

    -- p finds a slot after q's turn, and q, if it forks, after p's
    pub either_by : HasSlot l → (call y.machine y.reply ≡ Fork → HasSlot (changes c k)) → InEitherOrderButSlots call next (changes c k) l p q
    either_by room_l room_a = by (which (call y.machine y.reply)) where
      c1 : (i : ℕ) × (lowest_free l.table ≡ Some i)
      c1 = slot_of (lowest_free l.table) room_l

      by : IsFork (call y.machine y.reply) → InEitherOrderButSlots call next (changes c k) l p q
      by (inr other) = no_fork c1.0 c1.1 other
      by (inl is) = let e = slot_of (lowest_free (changes c k).table) (room_a is) in both_fork c1.0 c1.1 is e.0 e.1

-- ---- the law

module _ {S : Type 0} (call : S → Reply → Call) (next : S → Reply → S) where
  pub forks_either : (k a l : KernelState S) (p q : ℕ) → IsBegun call next k → ForksNext call k p → q ≢ p → HasSlot k → HasSlot l → ((y : Process S) → at k.table q ≡ Some y → call y.machine y.reply ≡ Fork → HasSlot a)
      → after_turn call next k p ≡ Some a → after_turn call next k q ≡ Some l → InEitherOrderButSlots call next a l p q
  forks_either k a l p q b f ne room room_l room_a first second =
      let x : Process S = f.process in
      let h : Holds x (at k.table p) = holds_itself x (at k.table p) f.there f.ready in
      let c = slot_of (lowest_free k.table) room in
      let r = ready_slot (at k.table q) (could_turn call next k (record { pid = q; refused = false }) (l, second)) in
      let ready : r.process.status ≡ Runnable = runnable_by r.process.status r.ready in
      let still : IsStill k = begun_still call next k b in
      let one : Some (changes call next p x f.calls c.0 k) ≡ Some a = sym (own call next p x f.calls k c.0 still h c.1) ∙ first in
      let two : Some (turned call next k q r.process false) ≡ Some l = sym (turn_is call next k q r.process still r.there r.ready) ∙ second in
      let same_a : changes call next p x f.calls c.0 k ≡ a = cc in
      let same_l : turned call next k q r.process false ≡ l = cc in
      subst (λ (j : KernelState S). InEitherOrderButSlots call next j l p q) same_a
      (subst (λ (j : KernelState S). InEitherOrderButSlots call next (changes call next p x f.calls c.0 k) j p q) same_l
      (either_by call next p x f.calls k b q r.process ne h c.0 c.1 r.there ready (subst HasSlot (sym same_l) room_l) (λ is. subst HasSlot (sym same_a) (room_a r.process r.there is))))

  pub forks_stay : (k l : KernelState S) (p q : ℕ) → IsBegun call next k → ForksNext call k p → q ≢ p → after_turn call next k q ≡ Some l → ForksNext call l p
  forks_stay k l p q b f ne second =
      let x : Process S = f.process in
      let h : Holds x (at k.table p) = holds_itself x (at k.table p) f.there f.ready in
      let r = ready_slot (at k.table q) (could_turn call next k (record { pid = q; refused = false }) (l, second)) in
      let two : Some (turned call next k q r.process false) ≡ Some l = sym (turn_is call next k q r.process (begun_still call next k b) r.there r.ready) ∙ second in
      let same_l : turned call next k q r.process false ≡ l = cc in
      let now : Holds x (at l.table p) = subst (λ (j : KernelState S). Holds x (at j.table p)) same_l (turn_keeps call next k p q x r.process ne h) in
      record { process = now.now; there = now.there; ready = now.ready; calls = (λ i. call (now.machine i) (now.reply i)) ∙ f.calls }
