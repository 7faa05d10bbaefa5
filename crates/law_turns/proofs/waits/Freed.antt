-- Calls of a process commute with the freeing of another process's zombie child.
use Rattle.std.proofs.Common.{◌≡◌, ◌≢◌, ℕ, Bool, true, false, Option, Some, None, refl, sym, ap, subst, ◌∙◌}
use Rattle.std.proofs.Math.ListN.{set}
use Rattle.std.proofs.lemmas.Bool.{eq-eqb, ne_eqb}
use Rattle.std.proofs.lemmas.List.{map-set, set_comm}
use Rattle.std.specs.Prelude.{map, is_some, ◌&&◌, if◌then◌else◌}
use Rattle.user_calls.specs.declared.calls.Call.{Call}
use Rattle.user_calls.specs.declared.calls.Call.TheVariants.{Fork, Exec, Exit, Wait, MakePipe, Read, Write, OpenFile, Close, Dup}
use Rattle.user_calls.specs.declared.calls.Reply.TheVariants.{Done, Refused}
use Rattle.fd_table.specs.Descriptors.{Descriptors, all_held}
use Rattle.fd_table.proofs.Lists.{position_found}
use Rattle.proc_table.specs.declared.states.Channel.{Channel}
use Rattle.proc_table.specs.declared.states.Channel.TheVariants.{Children}
use Rattle.proc_table.specs.declared.states.Status.TheVariants.{Zombie}
use Rattle.proc_table.specs.declared.table.Waited.{Waited}
use Rattle.proc_table.specs.declared.table.Waited.TheVariants.{Reaped}
use Rattle.proc_table.specs.Slots.{Slot, Table, at, is_number, is_child_of, is_zombie, is_zombie_child_of, parent_of, put_of}
use Rattle.proc_table.specs.Calls.{with_status, made_ready, put_to_sleep, with_fds, woken, all_woken, parent_after, given, buried, exited, zombie_child, some_child, wait_answer, wait_by as waited, freed, newborn, forked}
use Rattle.proc_table.proofs.Changes.{kept, mapped}
use Rattle.kernel_model.specs.KernelState.{KernelState, fds_of, fds_at}
use Rattle.kernel_model.specs.Replies.{answered}
use Rattle.kernel_model.specs.Processes.{fork_into, wait, wait_by}
use Rattle.kernel_model.specs.Events.{acted}
use Rattle.law_turns.proofs.private_turns.Unseen.{position_same}
use Rattle.kernel_model.specs.Slots.{IsZombieOf}
use Rattle.law_turns.proofs.slot_numbers.Slots.{zombie_given, zombie_woken, child_of, zombie_is}
use Rattle.law_turns.proofs.slot_numbers.Calls.{Keeps, KeepsTables, SameEntries, with_entries, Same, here, sleeping, answering, close_so, exit_so, dup_call_so, open_so, pipe_so, read_so, write_so}

no_parent : (p q : ℕ) → q ≢ p → is_number q (Some p) ≡ false
no_parent p q apart = ne_eqb q p apart

after_is : (p q : ℕ) → q ≢ p → parent_after q (Some p) ≡ Some p
after_is p q apart = ap (λ (b : Bool). if b then Some 0 else Some p) (no_parent p q apart)

module _ {S : Type 0} (p q z : ℕ) (apart : q ≢ p) (other : q ≢ z) where
  -- u is t without the slot z, of a zombie child of p
  pub record Freed (t u : Table S) : Type 0 where
    pub is : u ≡ set t z None
    pub zombie : IsZombieOf (Some p) (at t z)

  -- the process's own slot, and every slot, becomes what a function makes of it
  set_freed : (f : Slot S → Slot S) (t u : Table S) → Freed t u → Freed (set t q (f (at t q))) (set u q (f (at u q)))
  set_freed f t u r =
      record {
        is =
            (λ i. set (r.is i) q (f (at (r.is i) q))) ∙ ap (λ (x : Slot S). set (set t z None) q (f x)) (kept t z q None other) ∙ set_comm t z q None (f (at t q)) (λ same. other (sym same));
        zombie = subst (IsZombieOf (Some p)) (sym (kept t q z (f (at t q)) (λ same. other (sym same)))) r.zombie;
      }

  map_freed : (f : Slot S → Slot S) → f None ≡ None → ((x : Slot S) → IsZombieOf (Some p) x → IsZombieOf (Some p) (f x)) → (t u : Table S) → Freed t u → Freed (map f t) (map f u)
  map_freed f none stays t u r =
      record {
        is = ap (map f) r.is ∙ map-set f t z None ∙ ap (λ (x : Slot S). set (map f t) z x) none;
        zombie = subst (IsZombieOf (Some p)) (sym (mapped f none t z)) (stays (at t z) r.zombie);
      }

  own_at : (t u : Table S) → Freed t u → at u q ≡ at t q
  own_at t u r = ap (λ (v : Table S). at v q) r.is ∙ kept t z q None other

  woken_freed : (c : Channel) (t u : Table S) → Freed t u → Freed (all_woken c t) (all_woken c u)
  woken_freed c t u r = map_freed (woken c) refl (λ x zombie. zombie_woken c (Some p) x zombie) t u r

  -- ---- children

  not_child : (t : Table S) → IsZombieOf (Some p) (at t z) → is_child_of q (at t z) ≡ false
  not_child t zombie = child_of q (Some p) (at t z) zombie ∙ no_parent p q apart

  zombie_so : (t u : Table S) → Freed t u → zombie_child u q ≡ zombie_child t q
  zombie_so t u r =
      ap (λ (v : Table S). zombie_child v q) r.is ∙ position_same (is_zombie_child_of q) t z None None (sym (ap (λ (b : Bool). b && is_zombie (at t z)) (not_child t r.zombie)))

  some_so : (t u : Table S) → Freed t u → some_child u q ≡ some_child t q
  some_so t u r = ap (λ (v : Table S). some_child v q) r.is ∙ position_same (is_child_of q) t z None None (sym (not_child t r.zombie))

  -- ---- exit

  given_freed : (t u : Table S) → Freed t u → Freed (map (given q) t) (map (given q) u)
  given_freed t u r = map_freed (given q) refl (λ x zombie. subst (λ (o : Option ℕ). IsZombieOf o (given q x)) (after_is p q apart) (zombie_given q (Some p) x zombie)) t u r

  exited_by : (o e : Option ℕ) (t u : Table S) → e ≡ o → Freed t u → Freed (if is_some o then all_woken (Children 0) t else t) (if is_some e then all_woken (Children 0) u else u)
  exited_by o e t u same r = subst (λ (x : Option ℕ). Freed (if is_some o then all_woken (Children 0) t else t) (if is_some x then all_woken (Children 0) u else u)) (sym same) (by o) where
    by : (o : Option ℕ) → Freed (if is_some o then all_woken (Children 0) t else t) (if is_some o then all_woken (Children 0) u else u)
    by None = r
    by (Some i) = woken_freed (Children 0) t u r

  exited_freed : (t u : Table S) → Freed t u → Freed (exited t q) (exited u q)
  exited_freed t u r =
      let buried_both : Freed (buried t q) (buried u q) = set_freed (with_status Zombie) (map (given q) t) (map (given q) u) (given_freed t u r) in
      let gone : Freed (all_woken (Children (parent_of (at t q))) (buried t q)) (all_woken (Children (parent_of (at u q))) (buried u q)) =
      subst (λ (x : Slot S). Freed (all_woken (Children (parent_of (at t q))) (buried t q)) (all_woken (Children (parent_of x)) (buried u q))) (sym (own_at t u r))
      (woken_freed (Children (parent_of (at t q))) (buried t q) (buried u q) buried_both) in
      exited_by (zombie_child t q) (zombie_child u q) _ _ (zombie_so t u r) gone

  keeps_tables : KeepsTables q q (λ c. c) Freed
  keeps_tables =
      record {
        bytes = λ id. refl;
        room = λ id. refl;
        init = refl;
        fds = λ t u r. ap fds_of (own_at t u r);
        put = λ t u r. ap put_of (own_at t u r);
        ready = λ t u m reply r. set_freed (made_ready m reply) t u r;
        sleep = λ t u c many r. set_freed (put_to_sleep c many) t u r;
        set_fds = λ t u d r. set_freed (with_fds d) t u r;
        wake = λ t u c r. woken_freed c t u r;
        exit = exited_freed;
      }

  pub keeps : Keeps q q (λ c. c) (SameEntries Freed)
  keeps = with_entries q q (λ c. c) Freed keeps_tables

  -- ---- calls

  module _ (after : S) (k : KernelState S) (u : Table S) (r : Freed k.table u) where
    abbrev l : KernelState S
    l = record k { table = u }

    abbrev Both : KernelState S → KernelState S → Type 0
    Both x y = Same q q (λ c. c) (SameEntries Freed) keeps x y

    start : Both k l
    start = here q q (λ c. c) (SameEntries Freed) keeps k u k.entries (r, refl)

    -- another zombie is freed, of q
    reaps_too : (b : ℕ) → is_zombie_child_of q (at k.table b) ≡ true → Both (answered (record k { table = freed k.table (Some b) }) q after Done) (answered (record l { table = freed u (Some b) }) q after Done)
    reaps_too b zombie =
        let its = zombie_is q (at k.table b) zombie in
        let ne : b ≢ z = λ same.
        let mine : is_child_of q (at k.table z) ≡ true = ap (λ (i : ℕ). is_child_of q (at k.table i)) (sym same) ∙ child_of q (Some q) (at k.table b) its ∙ own_number in
        absurd (let no : true ≡ false = sym mine ∙ not_child k.table r.zombie in let v : ⊥ = cc in v) in
        let both : Freed (set k.table b None) (set u b None) =
        record {
          is = ap (λ (t : Table S). set t b None) r.is ∙ set_comm k.table z b None None (λ same. ne (sym same));
          zombie = subst (IsZombieOf (Some p)) (sym (kept k.table b z None (λ same. ne (sym same)))) r.zombie;
        } in
        answering q q (λ c. c) (SameEntries Freed) keeps after (record k { table = set k.table b None }) (record k { table = set u b None }) Done (here q q (λ c. c) (SameEntries Freed) keeps (record k { table = set k.table b None }) (set u b None) k.entries (both, refl))
      where
        own_number : is_number q (Some q) ≡ true
        own_number = eq-eqb q q refl

    waits_by : (o c : Option ℕ) → zombie_child k.table q ≡ o → zombie_child u q ≡ o → Both (wait_by k q after (waited o c)) (wait_by l q after (waited o c))
    waits_by None None is is_u = answering q q (λ c. c) (SameEntries Freed) keeps after k l Refused start
    waits_by None (Some c) is is_u = sleeping q q (λ c. c) (SameEntries Freed) keeps k l (Children q) 0 start
    waits_by (Some b) c is is_u =
        let left : answered (record k { table = freed k.table (Some b) }) q after Done ≡ wait_by k q after (Reaped b) = ap (λ (o : Option ℕ). answered (record k { table = freed k.table o }) q after Done) (sym is) in
        let right : answered (record l { table = freed u (Some b) }) q after Done ≡ wait_by l q after (Reaped b) = ap (λ (o : Option ℕ). answered (record l { table = freed u o }) q after Done) (sym is_u) in
        subst (λ (j : KernelState S). Both (wait_by k q after (Reaped b)) j) right
        (subst (λ (j : KernelState S). Both j (answered (record l { table = freed u (Some b) }) q after Done)) left (reaps_too b (position_found (is_zombie_child_of q) k.table None b is).1))

    wait_so : Both (wait k q after) (wait l q after)
    wait_so =
        let answer : wait_answer u q ≡ wait_answer k.table q = λ i. waited (zombie_so k.table u r i) (some_so k.table u r i) in
        subst (λ (w : Waited). Both (wait k q after) (wait_by l q after w)) (sym answer) (waits_by (zombie_child k.table q) (some_child k.table q) refl (zombie_so k.table u r))

    -- a fork into a slot that is free in both
    pub fork_so : (a : ℕ) → a ≢ z → Both (fork_into k q after (Some a)) (fork_into l q after (Some a))
    fork_so a ne =
        let d : Descriptors = fds_at k q in
        let now : KernelState S = record k { table = forked k.table a q after d; entries = all_held k.entries d } in
        let both : Freed (forked k.table a q after d) (forked u a q after d) =
        record {
          is = ap (λ (t : Table S). forked t a q after d) r.is ∙ set_comm k.table z a None (Some (newborn q after d)) (λ same. ne (sym same));
          zombie = subst (IsZombieOf (Some p)) (sym (kept k.table a z (Some (newborn q after d)) (λ same. ne (sym same)))) r.zombie;
        } in
        subst (λ (e : Descriptors). Both (fork_into k q after (Some a)) (answered (record l { table = forked u a q after e; entries = all_held k.entries e }) q after Done)) (sym (ap fds_of (own_at k.table u r)))
        (answering q q (λ c. c) (SameEntries Freed) keeps after now (record now { table = forked u a q after d }) Done (here q q (λ c. c) (SameEntries Freed) keeps now (forked u a q after d) now.entries (both, refl)))

    -- any other call
    pub acted_so : (c : Call) (refused : Bool) → c ≢ Fork → Both (acted k q after c refused) (acted l q after c refused)
    acted_so Fork refused ne = absurd (ne refl)
    acted_so (Exec found) refused ne = answering q q (λ c. c) (SameEntries Freed) keeps after k l _ start
    acted_so Exit refused ne = exit_so q q (λ c. c) (SameEntries Freed) keeps after k l start
    acted_so Wait refused ne = wait_so
    acted_so MakePipe refused ne = pipe_so q q (λ c. c) (SameEntries Freed) keeps after k u k.entries (r, refl) refused
    acted_so (Read fd long) refused ne = read_so q q (λ c. c) (SameEntries Freed) keeps after k fd long u k.entries (r, refl)
    acted_so (Write fd b) refused ne = write_so q q (λ c. c) (SameEntries Freed) keeps after k fd b refused u k.entries (r, refl)
    acted_so (OpenFile file mode) refused ne = open_so q q (λ c. c) (SameEntries Freed) keeps after k u k.entries (r, refl) file mode refused
    acted_so (Close fd) refused ne = close_so q q (λ c. c) (SameEntries Freed) keeps after k l fd start
    acted_so (Dup fd) refused ne = dup_call_so q q (λ c. c) (SameEntries Freed) keeps after k fd u k.entries (r, refl)
