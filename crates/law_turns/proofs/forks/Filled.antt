-- Calls of a process commute with another process's fork into a slot that is free: a child in that slot, and one holder more of each
-- entry for each of its descriptors.
use Rattle.std.proofs.Common.{◌≡◌, ◌≢◌, ℕ, ◌≤◌, Bool, true, false, Option, Some, None, refl, sym, ap, subst, ◌∙◌, arith}
use Rattle.std.proofs.Math.ListN.{set}
use Rattle.std.proofs.lemmas.Bool.{ne_eqb}
use Rattle.std.proofs.lemmas.List.{map-set, set_comm}
use Rattle.std.specs.Prelude.{map, is_some, ◌&&◌, if◌then◌else◌}
use Rattle.user_calls.specs.declared.calls.Call.{Call}
use Rattle.user_calls.specs.declared.calls.Call.TheVariants.{Fork, Exec, Exit, Wait, MakePipe, Read, Write, OpenFile, Close, Dup}
use Rattle.user_calls.specs.declared.calls.Reply.{Reply}
use Rattle.user_calls.specs.declared.calls.Reply.TheVariants.{Done, Refused}
use Rattle.fd_table.specs.Entries.{Entries, entry_at, lowest_free_entry, free_count, added, advanced, moved_to}
use Rattle.fd_table.specs.Descriptors.{Descriptors, entry_of, lowest_free, installed, holders_in, close_answer, after_close, released_by_close, after_dup, held_by_dup, all_held}
use Rattle.fd_table.proofs.Lists.{position_found}
use Rattle.proc_table.specs.declared.states.Channel.{Channel}
use Rattle.proc_table.specs.declared.states.Channel.TheVariants.{Children}
use Rattle.proc_table.specs.declared.states.Status.TheVariants.{Zombie}
use Rattle.proc_table.specs.declared.table.Waited.{Waited}
use Rattle.proc_table.specs.declared.table.Waited.TheVariants.{Reaped}
use Rattle.proc_table.specs.Slots.{Slot, Table, at, is_number, is_child_of, is_zombie, is_zombie_child_of, parent_of, put_of}
use Rattle.proc_table.specs.Calls.{with_status, made_ready, put_to_sleep, with_fds, fds_set, woken, all_woken, given, buried, exited, zombie_child, some_child, wait_answer, wait_by as waited, freed, newborn, forked}
use Rattle.proc_table.proofs.Changes.{written, kept, mapped}
use Rattle.kernel_model.specs.KernelState.{KernelState, fds_of, fds_at}
use Rattle.kernel_model.specs.Replies.{answered}
use Rattle.kernel_model.specs.Processes.{fork_into, wait, wait_by}
use Rattle.kernel_model.specs.Events.{acted}
use Rattle.law_turns.proofs.private_turns.Unseen.{position_same}
use Rattle.law_turns.proofs.private_turns.Holders.{free_holds_none}
use Rattle.kernel_model.specs.Slots.{IsZombieOf}
use Rattle.law_turns.proofs.slot_numbers.Slots.{dead, zombie_is}
use Rattle.law_turns.proofs.slot_numbers.Calls.{Keeps, seen, Same, here, sleeping, answering, close_so, exit_so, dup_call_so, open_so, pipe_so, read_so, write_so}
use Rattle.law_turns.proofs.forks.Held.{AreCounted, fewer, look_held, lowest_held, free_held, advance_held, move_held, copy_held, answer_held, close_held, open_held, counted_advance, counted_move, counted_close, counted_copy, counted_open, counted_held, twice_held}

-- ---- what a change of a slot leaves of its descriptors

ready_fds : {S : Type 0} (m : S) (reply : Reply) (x : Slot S) → fds_of (made_ready m reply x) ≡ fds_of x
ready_fds m reply None = refl
ready_fds m reply (Some p) = refl

sleep_fds : {S : Type 0} (c : Channel) (many : ℕ) (x : Slot S) → fds_of (put_to_sleep c many x) ≡ fds_of x
sleep_fds c many None = refl
sleep_fds c many (Some p) = refl

woken_fds : {S : Type 0} (c : Channel) (x : Slot S) → fds_of (woken c x) ≡ fds_of x
woken_fds c None = refl
woken_fds c (Some p) = refl

given_fds : {S : Type 0} (pid : ℕ) (x : Slot S) → fds_of (given pid x) ≡ fds_of x
given_fds pid None = refl
given_fds pid (Some p) = refl

zombie_fds : {S : Type 0} (x : Slot S) → fds_of (with_status Zombie x) ≡ fds_of x
zombie_fds None = refl
zombie_fds (Some p) = refl

no_parent : (p q : ℕ) → q ≢ p → is_number q (Some p) ≡ false
no_parent p q apart = ne_eqb q p apart

module _ {S : Type 0} (p q c : ℕ) (m : S) (fds : Descriptors) (apart : q ≢ p) (other : q ≢ c) where
  -- the child
  abbrev pub child : Slot S
  child = Some (newborn p m fds)

  -- u is t with the child in the slot c, which is free in t, and F counts its descriptors too; E counts those of p and q, as is right
  pub record Filled (t : Table S) (E : Entries) (u : Table S) (F : Entries) : Type 0 where
    pub is : u ≡ set t c child
    pub none : at t c ≡ None
    pub held : F ≡ all_held E fds
    pub counted : AreCounted fds E (fds_of (at t q))

  own_at : (t u : Table S) (E F : Entries) → Filled t E u F → at u q ≡ at t q
  own_at t u E F r = ap (λ (v : Table S). at v q) r.is ∙ kept t c q child other

  -- ---- tables

  -- the process's own slot, and every slot, becomes what a function makes of it
  set_filled : (f : Slot S → Slot S) → f None ≡ None → ((x : Slot S) → fds_of (f x) ≡ fds_of x) → (t u : Table S) (E F : Entries) → Filled t E u F → Filled (set t q (f (at t q))) E (set u q (f (at u q))) F
  set_filled f none same t u E F r =
      record {
        is = (λ i. set (r.is i) q (f (at (r.is i) q))) ∙ ap (λ (x : Slot S). set (set t c child) q (f x)) (kept t c q child other) ∙ set_comm t c q child (f (at t q)) (λ eq. other (sym eq));
        none = kept t q c (f (at t q)) (λ eq. other (sym eq)) ∙ r.none;
        held = r.held;
        counted = subst (AreCounted fds E) (sym (ap fds_of (written f none t q) ∙ same (at t q))) r.counted;
      }

  map_filled : (f : Slot S → Slot S) → f None ≡ None → f child ≡ child → ((x : Slot S) → fds_of (f x) ≡ fds_of x) → (t u : Table S) (E F : Entries) → Filled t E u F → Filled (map f t) E (map f u) F
  map_filled f none stays same t u E F r =
      record {
        is = ap (map f) r.is ∙ map-set f t c child ∙ ap (λ (x : Slot S). set (map f t) c x) stays;
        none = mapped f none t c ∙ ap f r.none ∙ none;
        held = r.held;
        counted = subst (AreCounted fds E) (sym (ap fds_of (mapped f none t q) ∙ same (at t q))) r.counted;
      }

  woken_filled : (ch : Channel) (t u : Table S) (E F : Entries) → Filled t E u F → Filled (all_woken ch t) E (all_woken ch u) F
  woken_filled ch t u E F r = map_filled (woken ch) refl refl (woken_fds ch) t u E F r

  given_filled : (t u : Table S) (E F : Entries) → Filled t E u F → Filled (map (given q) t) E (map (given q) u) F
  given_filled t u E F r =
      map_filled (given q) refl (λ i. Some (record (newborn p m fds) { parent = if no_parent p q apart i then Some 0 else Some p })) (given_fds q) t u E F r

  -- ---- children

  zombie_so : (t u : Table S) (E F : Entries) → Filled t E u F → zombie_child u q ≡ zombie_child t q
  zombie_so t u E F r =
      ap (λ (v : Table S). zombie_child v q) r.is ∙ position_same (is_zombie_child_of q) t c child None (ap (λ (b : Bool). b && false) (no_parent p q apart) ∙ sym (ap (is_zombie_child_of q) r.none))

  some_so : (t u : Table S) (E F : Entries) → Filled t E u F → some_child u q ≡ some_child t q
  some_so t u E F r = ap (λ (v : Table S). some_child v q) r.is ∙ position_same (is_child_of q) t c child None (no_parent p q apart ∙ sym (ap (is_child_of q) r.none))

  -- ---- exit

  exited_by : (o e : Option ℕ) (t u : Table S) (E F : Entries) → e ≡ o → Filled t E u F → Filled (if is_some o then all_woken (Children 0) t else t) E (if is_some e then all_woken (Children 0) u else u) F
  exited_by o e t u E F same r =
      subst (λ (x : Option ℕ). Filled (if is_some o then all_woken (Children 0) t else t) E (if is_some x then all_woken (Children 0) u else u) F) (sym same) (by o) where
        by : (o : Option ℕ) → Filled (if is_some o then all_woken (Children 0) t else t) E (if is_some o then all_woken (Children 0) u else u) F
        by None = r
        by (Some i) = woken_filled (Children 0) t u E F r

  exited_filled : (t u : Table S) (E F : Entries) → Filled t E u F → Filled (exited t q) E (exited u q) F
  exited_filled t u E F r =
      let dead : Filled (buried t q) E (buried u q) F = set_filled (with_status Zombie) refl zombie_fds (map (given q) t) (map (given q) u) E F (given_filled t u E F r) in
      let gone : Filled (all_woken (Children (parent_of (at t q))) (buried t q)) E (all_woken (Children (parent_of (at u q))) (buried u q)) F =
      subst (λ (x : Slot S). Filled (all_woken (Children (parent_of (at t q))) (buried t q)) E (all_woken (Children (parent_of x)) (buried u q)) F) (sym (own_at t u E F r))
      (woken_filled (Children (parent_of (at t q))) (buried t q) (buried u q) E F dead) in
      exited_by (zombie_child t q) (zombie_child u q) _ _ E F (zombie_so t u E F r) gone

  -- ---- descriptors

  at_most : (d : Descriptors) (x : Slot S) (e : ℕ) → holders_in (fds_of (with_fds d x)) e ≤ holders_in d e
  at_most d None e = omega (arith, free_holds_none e)
  at_most d (Some y) e = omega arith

  -- q gets other descriptors, and entries change with them
  refiled : (d : Descriptors) (t u : Table S) (E F E2 F2 : Entries) → Filled t E u F → AreCounted fds E2 d → F2 ≡ all_held E2 fds → Filled (fds_set t q d) E2 (fds_set u q d) F2
  refiled d t u E F E2 F2 r counted held =
      record {
        is = (λ i. set (r.is i) q (with_fds d (at (r.is i) q))) ∙ ap (λ (x : Slot S). set (set t c child) q (with_fds d x)) (kept t c q child other) ∙ set_comm t c q child (with_fds d (at t q)) (λ eq. other (sym eq));
        none = kept t q c (with_fds d (at t q)) (λ eq. other (sym eq)) ∙ r.none;
        held = held;
        counted = subst (AreCounted fds E2) (sym (ap fds_of (written (with_fds d) refl t q))) (fewer fds E2 d counted (fds_of (with_fds d (at t q))) (at_most d (at t q)));
      }

  pub keeps : Keeps q q (λ ch. ch) Filled
  keeps =
      record {
        bytes = λ id. refl;
        room = λ id. refl;
        init = refl;
        fds = λ t u E F r. ap fds_of (own_at t u E F r);
        put = λ t u E F r. ap put_of (own_at t u E F r);
        ready = λ t u E F after reply r. set_filled (made_ready after reply) refl (ready_fds after reply) t u E F r;
        sleep = λ t u E F ch many r. set_filled (put_to_sleep ch many) refl (sleep_fds ch many) t u E F r;
        wake = λ t u E F ch r. woken_filled ch t u E F r;
        exit = exited_filled;
        look = λ t u E F e r. ap (λ (G : Entries). seen (entry_at G e)) r.held ∙ look_held fds E e;
        lowest = λ t u E F r. ap lowest_free_entry r.held ∙ lowest_held fds E;
        free = λ t u E F r. ap free_count r.held ∙ free_held fds E;
        answer = λ t u E F fd r. ap (λ (G : Entries). close_answer G (entry_of (fds_of (at t q)) fd)) r.held ∙ answer_held fds E (fds_of (at t q)) fd (entry_of (fds_of (at t q)) fd) r.counted refl;
        close =
            λ t u E F fd r. refiled (after_close (fds_of (at t q)) fd (entry_of (fds_of (at t q)) fd)) t u E F _ _ r (counted_close fds E (fds_of (at t q)) r.counted fd (entry_of (fds_of (at t q)) fd) refl)
            (ap (λ (G : Entries). released_by_close G (entry_of (fds_of (at t q)) fd)) r.held ∙ close_held fds E (fds_of (at t q)) fd (entry_of (fds_of (at t q)) fd) r.counted refl);
        copy =
            λ t u E F fd r. refiled (after_dup (fds_of (at t q)) (entry_of (fds_of (at t q)) fd) (lowest_free (fds_of (at t q)))) t u E F _ _ r
            (counted_copy fds E (fds_of (at t q)) r.counted fd (entry_of (fds_of (at t q)) fd) (lowest_free (fds_of (at t q))) refl refl)
            (ap (λ (G : Entries). held_by_dup G (entry_of (fds_of (at t q)) fd) (lowest_free (fds_of (at t q)))) r.held ∙ copy_held fds E (entry_of (fds_of (at t q)) fd) (lowest_free (fds_of (at t q))));
        opening =
            λ t u E F object e is r. refiled (installed (fds_of (at t q)) e) t u E F _ _ r (counted_open fds E (fds_of (at t q)) r.counted object e is)
            (ap (λ (G : Entries). added G object) r.held ∙ open_held fds E (fds_of (at t q)) object e r.counted is);
        advance = λ t u E F e many r. record { is = r.is; none = r.none; held = ap (λ (G : Entries). advanced G e many) r.held ∙ advance_held fds E e many; counted = counted_advance fds E (fds_of (at t q)) r.counted e many };
        move = λ t u E F e many r. record { is = r.is; none = r.none; held = ap (λ (G : Entries). moved_to G e many) r.held ∙ move_held fds E e many; counted = counted_move fds E (fds_of (at t q)) r.counted e many };
      }

  -- ---- calls

  module _ (after : S) (k : KernelState S) (u : Table S) (F : Entries) (r : Filled k.table k.entries u F) (alive : is_zombie (at k.table q) ≡ false) where
    abbrev l : KernelState S
    l = record k { table = u; entries = F }

    abbrev Both : KernelState S → KernelState S → Type 0
    Both x y = Same q q (λ ch. ch) Filled keeps x y

    start : Both k l
    start = here q q (λ ch. ch) Filled keeps k u F r

    -- a zombie is freed, of q
    reaps_too : (b : ℕ) → is_zombie_child_of q (at k.table b) ≡ true → Both (answered (record k { table = freed k.table (Some b) }) q after Done) (answered (record l { table = freed u (Some b) }) q after Done)
    reaps_too b zombie =
        let its = zombie_is q (at k.table b) zombie in
        let ne : b ≢ c = λ same.
        let no : None ≡ Some its.process = sym (ap (at k.table) same ∙ r.none) ∙ its.there in
        absurd (let v : ⊥ = cc in v) in
        let b_not_q : b ≢ q → Filled (set k.table b None) k.entries (set u b None) F = λ far.
        record {
          is = ap (λ (t : Table S). set t b None) r.is ∙ set_comm k.table c b child None (λ same. ne (sym same));
          none = kept k.table b c None (λ same. ne (sym same)) ∙ r.none;
          held = r.held;
          counted = subst (λ (x : Slot S). AreCounted fds k.entries (fds_of x)) (sym (kept k.table b q None (λ same. far (sym same)))) r.counted;
        } in
        answering q q (λ ch. ch) Filled keeps after (record k { table = set k.table b None }) (record k { table = set u b None; entries = F }) Done
        (here q q (λ ch. ch) Filled keeps (record k { table = set k.table b None }) (set u b None) F (b_not_q (not_own b its)))
      where
        not_own : (b : ℕ) → IsZombieOf (Some q) (at k.table b) → b ≢ q
        not_own b its same = absurd (let no : true ≡ false = sym (dead (Some q) (at k.table b) its) ∙ ap (λ (i : ℕ). is_zombie (at k.table i)) same ∙ alive in let v : ⊥ = cc in v)

    waits_by : (o e : Option ℕ) → zombie_child k.table q ≡ o → zombie_child u q ≡ o → Both (wait_by k q after (waited o e)) (wait_by l q after (waited o e))
    waits_by None None is is_u = answering q q (λ ch. ch) Filled keeps after k l Refused start
    waits_by None (Some e) is is_u = sleeping q q (λ ch. ch) Filled keeps k l (Children q) 0 start
    waits_by (Some b) e is is_u =
        let left : answered (record k { table = freed k.table (Some b) }) q after Done ≡ wait_by k q after (Reaped b) = ap (λ (o : Option ℕ). answered (record k { table = freed k.table o }) q after Done) (sym is) in
        let right : answered (record l { table = freed u (Some b) }) q after Done ≡ wait_by l q after (Reaped b) = ap (λ (o : Option ℕ). answered (record l { table = freed u o }) q after Done) (sym is_u) in
        subst (λ (j : KernelState S). Both (wait_by k q after (Reaped b)) j) right
        (subst (λ (j : KernelState S). Both j (answered (record l { table = freed u (Some b) }) q after Done)) left (reaps_too b (position_found (is_zombie_child_of q) k.table None b is).1))

    wait_so : Both (wait k q after) (wait l q after)
    wait_so =
        let answer : wait_answer u q ≡ wait_answer k.table q = λ i. waited (zombie_so k.table u k.entries F r i) (some_so k.table u k.entries F r i) in
        subst (λ (w : Waited). Both (wait k q after) (wait_by l q after w)) (sym answer) (waits_by (zombie_child k.table q) (some_child k.table q) refl (zombie_so k.table u k.entries F r))

    -- a fork of q into another slot
    pub fork_so : (b : ℕ) → b ≢ c → b ≢ q → Both (fork_into k q after (Some b)) (fork_into l q after (Some b))
    fork_so b ne far =
        let d : Descriptors = fds_at k q in
        let now : KernelState S = record k { table = forked k.table b q after d; entries = all_held k.entries d } in
        let both : Filled (forked k.table b q after d) (all_held k.entries d) (forked u b q after d) (all_held F d) =
        record {
          is = ap (λ (t : Table S). forked t b q after d) r.is ∙ set_comm k.table c b child (Some (newborn q after d)) (λ same. ne (sym same));
          none = kept k.table b c (Some (newborn q after d)) (λ same. ne (sym same)) ∙ r.none;
          held = ap (λ (G : Entries). all_held G d) r.held ∙ twice_held fds k.entries d;
          counted = subst (λ (x : Slot S). AreCounted fds (all_held k.entries d) (fds_of x)) (sym (kept k.table b q (Some (newborn q after d)) (λ same. far (sym same)))) (counted_held fds k.entries (fds_of (at k.table q)) r.counted d);
        } in
        subst (λ (e : Descriptors). Both (fork_into k q after (Some b)) (answered (record l { table = forked u b q after e; entries = all_held F e }) q after Done)) (sym (ap fds_of (own_at k.table u k.entries F r)))
        (answering q q (λ ch. ch) Filled keeps after now (record now { table = forked u b q after d; entries = all_held F d }) Done (here q q (λ ch. ch) Filled keeps now (forked u b q after d) (all_held F d) both))

    -- any other call
    pub acted_so : (e : Call) (refused : Bool) → e ≢ Fork → Both (acted k q after e refused) (acted l q after e refused)
    acted_so Fork refused ne = absurd (ne refl)
    acted_so (Exec found) refused ne = answering q q (λ ch. ch) Filled keeps after k l _ start
    acted_so Exit refused ne = exit_so q q (λ ch. ch) Filled keeps after k l start
    acted_so Wait refused ne = wait_so
    acted_so MakePipe refused ne = pipe_so q q (λ ch. ch) Filled keeps after k u F r refused
    acted_so (Read fd long) refused ne = read_so q q (λ ch. ch) Filled keeps after k fd long u F r
    acted_so (Write fd b) refused ne = write_so q q (λ ch. ch) Filled keeps after k fd b refused u F r
    acted_so (OpenFile file mode) refused ne = open_so q q (λ ch. ch) Filled keeps after k u F r file mode refused
    acted_so (Close fd) refused ne = close_so q q (λ ch. ch) Filled keeps after k l fd start
    acted_so (Dup fd) refused ne = dup_call_so q q (λ ch. ch) Filled keeps after k fd u F r
