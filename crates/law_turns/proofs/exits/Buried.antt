-- Calls of a process commute with another process's burial, but for who sleeps.
use Rattle.std.proofs.Common.{◌≡◌, ◌≢◌, ℕ, Bool, true, false, Option, Some, None, refl, sym, ap, subst, ◌∙◌}
use Rattle.std.proofs.Math.ListN.{set}
use Rattle.std.proofs.lemmas.Bool.{ne_eqb}
use Rattle.std.proofs.lemmas.List.{map-set, set_comm}
use Rattle.std.specs.Prelude.{map, is_some, ◌==◌, if◌then◌else◌}
use Rattle.user_calls.specs.declared.calls.Call.{Call}
use Rattle.user_calls.specs.declared.calls.Call.TheVariants.{Fork, Exec, Exit, Wait, MakePipe, Read, Write, OpenFile, Close, Dup}
use Rattle.user_calls.specs.declared.calls.Reply.{Reply}
use Rattle.user_calls.specs.declared.calls.Reply.TheVariants.{Done}
use Rattle.fd_table.specs.Descriptors.{Descriptors, all_held}
use Rattle.proc_table.specs.declared.states.Channel.{Channel}
use Rattle.proc_table.specs.declared.states.Channel.TheVariants.{Children}
use Rattle.proc_table.specs.declared.states.Status.TheVariants.{Zombie}
use Rattle.proc_table.specs.Slots.{Slot, Table, at, is_free, parent_of, put_of}
use Rattle.proc_table.specs.Calls.{with_status, made_ready, readied, put_to_sleep, slept, with_fds, fds_set, woken, all_woken, parent_after, given, buried, exited, zombie_child, lowest_free, newborn, forked}
use Rattle.proc_table.proofs.Changes.{kept, mapped, was_free}
use Rattle.kernel_model.specs.declared.events.Full.TheVariants.{Procs}
use Rattle.kernel_model.specs.KernelState.{KernelState, fds_of, fds_at}
use Rattle.kernel_model.specs.Replies.{answered}
use Rattle.kernel_model.specs.Processes.{fork, fork_into}
use Rattle.kernel_model.specs.Events.{acted}
use Rattle.kernel_model.specs.Woke.{woke_table, woke}
use Rattle.law_turns.proofs.orders.Tables.{map_swap, position_map}
use Rattle.law_turns.proofs.private_turns.Unseen.{position_same}
use Rattle.law_turns.proofs.private_turns.Woken.{all_woken_woke, fds_told, put_told, ready_told, sleep_told, set_fds_told, lowest_told, forked_told, exited_told}
use Rattle.law_turns.proofs.slot_numbers.Calls.{Keeps, KeepsTables, SameEntries, with_entries, Same, here, answering, refusing, close_so, exit_so, dup_call_so, open_so, pipe_so, read_so, write_so}

-- ---- parents

same_either : (b : Bool) → if◌then◌else◌ {A = Option ℕ} b (Some 0) (Some 0) ≡ Some 0
same_either true = refl
same_either false = refl

to_init : (p : ℕ) → parent_after p (Some 0) ≡ Some 0
to_init p = same_either (p == 0)

parents_swap_by : (p q n : ℕ) (a b : Bool) → (p == n) ≡ a → (q == n) ≡ b → parent_after q (parent_after p (Some n)) ≡ parent_after p (parent_after q (Some n))
parents_swap_by p q n a b is is_too = by a b is is_too where
  taken : (r : ℕ) → (r == n) ≡ true → parent_after r (Some n) ≡ Some 0
  taken r same = ap (λ (c : Bool). if◌then◌else◌ {A = Option ℕ} c (Some 0) (Some n)) same

  left : (r : ℕ) → (r == n) ≡ false → parent_after r (Some n) ≡ Some n
  left r other = ap (λ (c : Bool). if◌then◌else◌ {A = Option ℕ} c (Some 0) (Some n)) other

  by : (a b : Bool) → (p == n) ≡ a → (q == n) ≡ b → parent_after q (parent_after p (Some n)) ≡ parent_after p (parent_after q (Some n))
  by true true is is_too = ap (parent_after q) (taken p is) ∙ to_init q ∙ sym (to_init p) ∙ sym (ap (parent_after p) (taken q is_too))
  by true false is is_too = ap (parent_after q) (taken p is) ∙ to_init q ∙ sym (taken p is) ∙ sym (ap (parent_after p) (left q is_too))
  by false true is is_too = ap (parent_after q) (left p is) ∙ taken q is_too ∙ sym (to_init p) ∙ sym (ap (parent_after p) (taken q is_too))
  by false false is is_too = ap (parent_after q) (left p is) ∙ left q is_too ∙ sym (left p is) ∙ sym (ap (parent_after p) (left q is_too))

parents_swap : (p q : ℕ) (o : Option ℕ) → parent_after q (parent_after p o) ≡ parent_after p (parent_after q o)
parents_swap p q None = refl
parents_swap p q (Some n) = parents_swap_by p q n (p == n) (q == n) refl refl

pub other_parent : (p q : ℕ) → q ≢ p → parent_after p (Some q) ≡ Some q
other_parent p q other = ap (λ (c : Bool). if◌then◌else◌ {A = Option ℕ} c (Some 0) (Some q)) (ne_eqb p q (λ is. other (sym is)))

-- ---- one slot

given_ready : {S : Type 0} (p : ℕ) (m : S) (reply : Reply) (x : Slot S) → made_ready m reply (given p x) ≡ given p (made_ready m reply x)
given_ready p m reply None = refl
given_ready p m reply (Some y) = refl

given_sleep : {S : Type 0} (p : ℕ) (c : Channel) (put : ℕ) (x : Slot S) → put_to_sleep c put (given p x) ≡ given p (put_to_sleep c put x)
given_sleep p c put None = refl
given_sleep p c put (Some y) = refl

given_with_fds : {S : Type 0} (p : ℕ) (fds : Descriptors) (x : Slot S) → with_fds fds (given p x) ≡ given p (with_fds fds x)
given_with_fds p fds None = refl
given_with_fds p fds (Some y) = refl

given_woken : {S : Type 0} (p : ℕ) (c : Channel) (x : Slot S) → woken c (given p x) ≡ given p (woken c x)
given_woken p c None = refl
given_woken p c (Some y) = refl

pub given_zombie : {S : Type 0} (p : ℕ) (x : Slot S) → with_status Zombie (given p x) ≡ given p (with_status Zombie x)
given_zombie p None = refl
given_zombie p (Some y) = refl

given_swap : {S : Type 0} (p q : ℕ) (x : Slot S) → given q (given p x) ≡ given p (given q x)
given_swap p q None = refl
given_swap p q (Some y) = λ i. Some (record y { parent = parents_swap p q y.parent i })

zombie_woken : {S : Type 0} (c : Channel) (x : Slot S) → woken c (with_status Zombie x) ≡ with_status Zombie (woken c x)
zombie_woken c None = refl
zombie_woken c (Some y) = refl

zombie_given : {S : Type 0} (q : ℕ) (x : Slot S) → given q (with_status Zombie x) ≡ with_status Zombie (given q x)
zombie_given q None = refl
zombie_given q (Some y) = refl

given_fds : {S : Type 0} (p : ℕ) (x : Slot S) → fds_of (given p x) ≡ fds_of x
given_fds p None = refl
given_fds p (Some y) = refl

given_put : {S : Type 0} (p : ℕ) (x : Slot S) → put_of (given p x) ≡ put_of x
given_put p None = refl
given_put p (Some y) = refl

given_free : {S : Type 0} (p : ℕ) (x : Slot S) → is_free (given p x) ≡ is_free x
given_free p None = refl
given_free p (Some y) = refl

zombie_free : {S : Type 0} (x : Slot S) → is_free (with_status Zombie x) ≡ is_free x
zombie_free None = refl
zombie_free (Some y) = refl

-- ---- the wake-ups of an exit aren't seen where all are awake

module _ {S : Type 0} where
  woken_by : (b : Bool) (t : Table S) → woke_table (if b then all_woken (Children 0) t else t) ≡ woke_table t
  woken_by true t = all_woken_woke (Children 0) t
  woken_by false t = refl

  pub buried_woke : (t : Table S) (p : ℕ) → woke_table (exited t p) ≡ woke_table (buried t p)
  buried_woke t p =
      woken_by (is_some (zombie_child t p)) (all_woken (Children (parent_of (at t p))) (buried t p)) ∙ all_woken_woke (Children (parent_of (at t p))) (buried t p)

  -- what is the same once all are awake is so after a burial
  pub burial_woke : (t u : Table S) (p : ℕ) → woke_table t ≡ woke_table u → woke_table (buried t p) ≡ woke_table (buried u p)
  burial_woke t u p is =
      sym (buried_woke t p) ∙ sym (exited_told t p) ∙ ap (λ (v : Table S). exited v p) is ∙ exited_told u p ∙ buried_woke u p

module _ {S : Type 0} (p q : ℕ) (other : q ≢ p) where
  abbrev Here : Table S → Table S
  Here t = buried t p

  pub at_buried : (t : Table S) → at (buried t p) q ≡ given p (at t q)
  at_buried t = kept (map (given p) t) p q (with_status Zombie (at (map (given p) t) p)) other ∙ mapped (given p) refl t q

  -- another slot is written
  pub set_buried : (c : ℕ) (x y : Slot S) → c ≢ p → x ≡ given p y → (t : Table S) → set (buried t p) c x ≡ buried (set t c y) p
  set_buried c x y ne is t =
      let m : Table S = map (given p) t in
      let v : Slot S = with_status Zombie (at m p) in
      set_comm m p c v x (λ same. ne (sym same)) ∙
      ap (λ (w : Slot S). set (set m c x) p (with_status Zombie w)) (sym (kept m c p x (λ same. ne (sym same)))) ∙
      ap (λ (u : Table S). set u p (with_status Zombie (at u p))) (ap (set m c) is ∙ sym (map-set (given p) t c y))

  pub change_buried : (g : Slot S → Slot S) → ((x : Slot S) → g (given p x) ≡ given p (g x)) → (t : Table S) → set (buried t p) q (g (at (buried t p) q)) ≡ buried (set t q (g (at t q))) p
  change_buried g each t = set_buried q (g (at (buried t p) q)) (g (at t q)) other (ap g (at_buried t) ∙ each (at t q)) t

  map_buried : (g : Slot S → Slot S) → g None ≡ None → ((x : Slot S) → g (given p x) ≡ given p (g x)) → ((x : Slot S) → g (with_status Zombie x) ≡ with_status Zombie (g x)) → (t : Table S) → map g (buried t p) ≡ buried (map g t) p
  map_buried g none each dead t =
      let m : Table S = map (given p) t in
      map-set g m p (with_status Zombie (at m p)) ∙ ap (set (map g m) p) (dead (at m p) ∙ ap (with_status Zombie) (sym (mapped g none m p))) ∙
      ap (λ (u : Table S). set u p (with_status Zombie (at u p))) (map_swap g (given p) g (given p) each t)

  burials_swap : (t : Table S) → buried (buried t p) q ≡ buried (buried t q) p
  burials_swap t =
      ap (λ (u : Table S). set u q (with_status Zombie (at u q))) (map_buried (given q) refl (given_swap p q) (zombie_given q) t) ∙ change_buried (with_status Zombie) (given_zombie p) (map (given q) t)

  lowest_buried : (t : Table S) → lowest_free (buried t p) ≡ lowest_free t
  lowest_buried t =
      position_same is_free (map (given p) t) p (with_status Zombie (at (map (given p) t) p)) None (zombie_free (at (map (given p) t) p)) ∙ position_map is_free is_free (given p) (given_free p) t

  -- ---- u is t after p's burial, but for who sleeps

  abbrev pub IsBuried : Table S → Table S → Type 0
  IsBuried t u = woke_table u ≡ woke_table (buried t p)

  exit_kept : (t u : Table S) → IsBuried t u → IsBuried (exited t q) (exited u q)
  exit_kept t u r =
      sym (exited_told u q) ∙ ap (λ (v : Table S). exited v q) r ∙ exited_told (buried t p) q ∙ buried_woke (buried t p) q ∙ ap woke_table (burials_swap t) ∙ burial_woke (buried t q) (exited t q) p (sym (buried_woke t q))

  pub fds_kept : (t u : Table S) → IsBuried t u → fds_of (at u q) ≡ fds_of (at t q)
  fds_kept t u r = sym (fds_told u q) ∙ ap (λ (v : Table S). fds_of (at v q)) r ∙ fds_told (buried t p) q ∙ ap fds_of (at_buried t) ∙ given_fds p (at t q)

  keeps_tables : KeepsTables q q (λ c. c) IsBuried
  keeps_tables =
      record {
        bytes = λ id. refl;
        room = λ id. refl;
        init = refl;
        fds = fds_kept;
        put = λ t u r. sym (put_told u q) ∙ ap (λ (v : Table S). put_of (at v q)) r ∙ put_told (buried t p) q ∙ ap put_of (at_buried t) ∙ given_put p (at t q);
        ready = λ t u m reply r. sym (ready_told u q m reply) ∙ ap (λ (v : Table S). readied v q m reply) r ∙ ready_told (buried t p) q m reply ∙ ap woke_table (change_buried (made_ready m reply) (given_ready p m reply) t);
        sleep = λ t u c many r. sym (sleep_told u q c many) ∙ ap (λ (v : Table S). woke_table (slept v q c many)) r ∙ sleep_told (buried t p) q c many ∙ ap woke_table (change_buried (put_to_sleep c many) (given_sleep p c many) t);
        set_fds = λ t u d r. sym (set_fds_told u q d) ∙ ap (λ (v : Table S). fds_set v q d) r ∙ set_fds_told (buried t p) q d ∙ ap woke_table (change_buried (with_fds d) (given_with_fds p d) t);
        wake = λ t u c r. all_woken_woke c u ∙ r ∙ sym (all_woken_woke c (buried t p)) ∙ ap woke_table (map_buried (woken c) refl (given_woken p c) (zombie_woken c) t);
        exit = exit_kept;
      }

  pub keeps : Keeps q q (λ c. c) (SameEntries IsBuried)
  keeps = with_entries q q (λ c. c) IsBuried keeps_tables

  -- ---- calls

  -- the kernel after p's burial, at which nobody is woken
  abbrev pub burial : KernelState S → KernelState S
  burial k = record k { table = buried k.table p }

  abbrev pub Both : KernelState S → KernelState S → Type 0
  Both x y = Same q q (λ c. c) (SameEntries IsBuried) keeps x y

  -- so they are the same but for who sleeps
  pub both_woke : (x y : KernelState S) → Both x y → woke y ≡ woke (burial x)
  both_woke x y s = sym (ap woke s.rest) ∙ (λ i. record x { table = s.related.0 i; entries = s.related.1 i })

  module _ (after : S) (k : KernelState S) (u : Table S) (r : IsBuried k.table u) where
    abbrev l : KernelState S
    l = record k { table = u }

    pub start : Both k l
    start = here q q (λ c. c) (SameEntries IsBuried) keeps k u k.entries (r, refl)

    -- p's slot isn't where a child is made
    fork_by : is_free (at k.table p) ≡ false → (o : Option ℕ) → lowest_free k.table ≡ o → Both (fork_into k q after o) (fork_into l q after o)
    fork_by used None free = refusing q q (λ c. c) (SameEntries IsBuried) keeps after k l Procs start
    fork_by used (Some c) free =
        let d : Descriptors = fds_at k q in
        let t : Table S = k.table in
        let now : KernelState S = record k { table = forked t c q after d; entries = all_held k.entries d } in
        let c_not_p : c ≢ p = λ same. let no : true ≡ false = sym (ap is_free (sym (ap (at t) same) ∙ was_free t c free)) ∙ used in absurd (let z : ⊥ = cc in z) in
        let new : Slot S = Some (newborn q after d) in
        let both : IsBuried (forked t c q after d) (forked u c q after d) =
        sym (forked_told u c q after d) ∙ ap (λ (v : Table S). forked v c q after d) r ∙ forked_told (buried t p) c q after d ∙
        ap woke_table (set_buried c new new c_not_p (λ i. Some (record (newborn q after d) { parent = sym (other_parent p q other) i })) t) in
        subst (λ (e : Descriptors). Both (fork_into k q after (Some c)) (answered (record l { table = forked u c q after e; entries = all_held k.entries e }) q after Done)) (sym (fds_kept t u r))
        (answering q q (λ c. c) (SameEntries IsBuried) keeps after now (record now { table = forked u c q after d }) Done (here q q (λ c. c) (SameEntries IsBuried) keeps now (forked u c q after d) now.entries (both, refl)))

    fork_so : is_free (at k.table p) ≡ false → Both (fork k q after) (fork l q after)
    fork_so used =
        let same : lowest_free u ≡ lowest_free k.table = sym (lowest_told u) ∙ ap lowest_free r ∙ lowest_told (buried k.table p) ∙ lowest_buried k.table in
        subst (λ (o : Option ℕ). Both (fork k q after) (fork_into l q after o)) (sym same) (fork_by used (lowest_free k.table) refl)

    -- any call but a wait
    pub acted_so : (c : Call) → c ≢ Wait → is_free (at k.table p) ≡ false → Both (acted k q after c false) (acted l q after c false)
    acted_so Fork ne used = fork_so used
    acted_so (Exec found) ne used = answering q q (λ c. c) (SameEntries IsBuried) keeps after k l _ start
    acted_so Exit ne used = exit_so q q (λ c. c) (SameEntries IsBuried) keeps after k l start
    acted_so Wait ne used = absurd (ne refl)
    acted_so MakePipe ne used = pipe_so q q (λ c. c) (SameEntries IsBuried) keeps after k u k.entries (r, refl) false
    acted_so (Read fd many) ne used = read_so q q (λ c. c) (SameEntries IsBuried) keeps after k fd many u k.entries (r, refl)
    acted_so (Write fd b) ne used = write_so q q (λ c. c) (SameEntries IsBuried) keeps after k fd b false u k.entries (r, refl)
    acted_so (OpenFile file mode) ne used = open_so q q (λ c. c) (SameEntries IsBuried) keeps after k u k.entries (r, refl) file mode false
    acted_so (Close fd) ne used = close_so q q (λ c. c) (SameEntries IsBuried) keeps after k l fd start
    acted_so (Dup fd) ne used = dup_call_so q q (λ c. c) (SameEntries IsBuried) keeps after k fd u k.entries (r, refl)
