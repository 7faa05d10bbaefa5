-- Each of the ten calls, made in two kernels that differ only in the numbers of slots: they differ only in these again.
use Rattle.std.proofs.Common.{◌≡◌, ℕ, zero, suc, ◌<◌, [], ◌∷◌, Bool, true, Option, Some, None, length, inl, inr, refl, sym, ap, subst, ◌∙◌, arith}
use Rattle.std.proofs.lemmas.List.Sums.{sum_by-cons}
use Rattle.std.specs.Prelude.{cond, count_by, IsSome, is_some, ◌==◌}
use Rattle.user_calls.specs.declared.calls.Call.{Call}
use Rattle.user_calls.specs.declared.calls.Call.TheVariants.{Fork, Exec, Exit, Wait, MakePipe, Read, Write, OpenFile, Close, Dup}
use Rattle.user_calls.specs.declared.calls.Reply.{Reply}
use Rattle.user_calls.specs.declared.calls.Reply.TheVariants.{Done, Refused}
use Rattle.fd_table.specs.Descriptors.{Descriptors, all_held}
use Rattle.fd_table.proofs.Free.{found}
use Rattle.fd_table.proofs.Lists.{position_found}
use Rattle.proc_table.specs.declared.pid.TheConstants.{PROCS}
use Rattle.proc_table.specs.declared.states.Channel.TheVariants.{Children}
use Rattle.proc_table.specs.Slots.{Slot, Table, at, is_free, is_zombie_child_of}
use Rattle.proc_table.specs.Calls.{lowest_free, newborn, forked, zombie_child, some_child, freed, wait_by as waited}
use Rattle.proc_table.proofs.Changes.{was_free as lowest_was_free, child_within}
use Rattle.kernel_model.specs.declared.events.Full.TheVariants.{Procs}
use Rattle.kernel_model.specs.KernelState.{KernelState, fds_at}
use Rattle.kernel_model.specs.Replies.{answered, sleeps}
use Rattle.kernel_model.specs.Processes.{fork, fork_into, wait, wait_by}
use Rattle.kernel_model.specs.Events.{acted}
use Rattle.law_kernel.specs.Sleeping.{Lives}
use Rattle.kernel_model.specs.Numbers.{Numbering}
use Rattle.law_turns.proofs.orders.Tables.{same_eq}
use Rattle.kernel_model.specs.Slots.{moved_channel, moved_slot, IsZombieOf, IsMoved, same, zombies, SameButSlots}
use Rattle.law_turns.proofs.slot_numbers.Slots.{dead, zombie_is, one_to_one, stays_free, was_free, same_zombie_child}
use Rattle.law_turns.proofs.slot_numbers.Swaps.{exchanged}
use Rattle.law_turns.proofs.slot_numbers.Tables.{Moves, fds_moved, put_moved, ready_moved, sleep_moved, set_fds_moved, woken_moved, exited_moved, zombie_child_so, some_child_so}
use Rattle.law_turns.proofs.slot_numbers.Calls.{Keeps, KeepsTables, SameEntries, with_entries, Same, here, sleeping, answering, refusing, close_so, exit_so, dup_call_so, open_so, pipe_so, read_so, write_so}
use Rattle.law_turns.proofs.slot_numbers.Freeing.{Names, IsGone, lives_so, number_so, changed}

-- ---- free slots and zombies

some_free : {S : Type 0} (t : Table S) (i : ℕ) → i < length t → at t i ≡ None → 0 < count_by is_free t
some_free [] i within none = absurd (omega arith)
some_free (x ∷ t) zero within none =
    omega (arith, sum_by-cons (λ (y : Slot _). cond {A = ℕ} (is_free y) 1 0) x t, ap (λ (y : Slot _). cond {A = ℕ} (is_free y) 1 0) none)
some_free (x ∷ t) (suc i) within none = omega (arith, sum_by-cons (λ (y : Slot _). cond {A = ℕ} (is_free y) 1 0) x t, some_free t i (omega arith) none)

-- where a slot is free one is found
pub finds_free : {S : Type 0} (t : Table S) (i : ℕ) → i < length t → at t i ≡ None → lowest_free t ≡ None → ⊥
finds_free t i within none full =
    let some : IsSome (lowest_free t) = (found is_free t).1 (some_free t i within none) in
    let z : ⊥ = cc in
    z

-- ---- a kernel in the middle of a call of pid

-- its table is whole, whoever it names lives, and so do init and pid
pub record Mid {S : Type 0} (t : Table S) (pid : ℕ) : Type 0 where
  pub long : length t ≡ PROCS
  pub names : Names t
  pub init : Lives (at t 0)
  pub alive : Lives (at t pid)

-- l is k with its slots under some numbers, pid's exactly so under the number me
pub record After {S : Type 0} (pid me : ℕ) (k l : KernelState S) : Type 0 where
  pub numbering : Numbering
  pub moves : Moves numbering pid me k.table l.table
  pub rest : record k { table = l.table } ≡ l

pub but_slots : {S : Type 0} (pid me : ℕ) (k l : KernelState S) → After pid me k l → SameButSlots k l
but_slots pid me k l a = record { numbering = a.numbering; moved = a.moves.moved; rest = a.rest }

-- other numbers of slots are kept
slots_keep : {S : Type 0} (n : Numbering) (pid me : ℕ) → n.to 0 ≡ 0 → n.to pid ≡ me → KeepsTables {S = S} pid me (moved_channel n.to) (Moves n pid me)
slots_keep n pid me init number =
    record {
      bytes = λ id. refl;
      room = λ id. refl;
      init = (λ i. sym number i == sym init i) ∙ same_eq n.to (one_to_one n) pid 0;
      fds = fds_moved n pid me;
      put = put_moved n pid me;
      ready = ready_moved n pid me;
      sleep = sleep_moved n pid me;
      set_fds = set_fds_moved n pid me;
      wake = woken_moved n pid me;
      exit = exited_moved n pid me;
    }

-- p's call is answered
answers_so : {S : Type 0} (n : Numbering) (pid me : ℕ) (after : S) (k : KernelState S) (u : Table S) (reply : Reply) → Moves n pid me k.table u → After pid me (answered k pid after reply) (answered (record k { table = u }) me after reply)
answers_so n pid me after k u reply m = record { numbering = n; moves = ready_moved n pid me k.table u after reply m; rest = refl }

module _ {S : Type 0} (n : Numbering) (pid me : ℕ) (after : S) (k : KernelState S) (u : Table S) (m : Moves n pid me k.table u) (mid : Mid k.table pid) (long : length u ≡ PROCS) where
  abbrev l : KernelState S
  l = record k { table = u }

  keeps : Keeps {S = S} pid me (moved_channel n.to) (SameEntries (Moves n pid me))
  keeps = with_entries pid me (moved_channel n.to) (Moves n pid me) (slots_keep n pid me m.moved.init m.number)

  kept_so : (x y : KernelState S) → Same pid me (moved_channel n.to) (SameEntries (Moves n pid me)) keeps x y → After pid me x y
  kept_so x y s = record { numbering = n; moves = s.related.0; rest = (λ i. record x { table = y.table; entries = sym s.related.1 i }) ∙ s.rest }

  -- ---- fork

  -- whatever free slots are taken: their numbers are exchanged, and those of the living stay
  module _ (a new : ℕ) (within : a < PROCS) (new_within : new < PROCS) (none : at k.table a ≡ None) (none_u : at u new ≡ None) where
    abbrev pub swapped : Numbering
    swapped = (exchanged n a new).to

    none_d : at k.table (n.back new) ≡ None
    none_d = was_free n (at k.table (n.back new)) (at u new) (subst (λ (i : ℕ). IsMoved n.to (at k.table (n.back new)) (at u i)) (n.here new) (m.moved.slots (n.back new))) none_u

    pub living : (r : ℕ) → Lives (at k.table r) → n.to r ≡ swapped.to r
    living r l = lives_so n pid me k.table u m mid.names mid.alive a new within new_within mid.long long (inl none) (inl none_d) r l

    pub forks_moves : Moves swapped pid me (forked k.table a pid after (fds_at k pid)) (forked u new me after (fds_at k pid))
    forks_moves =
        let none_e : at u (n.to a) ≡ None = stays_free n (at k.table a) (at u (n.to a)) (m.moved.slots a) none in
        let number : swapped.to pid ≡ me = number_so n pid me k.table u m mid.names mid.alive a new within new_within mid.long long (inl none) (inl none_d) in
        let d : Descriptors = fds_at k pid in
        let born : IsMoved swapped.to (Some (newborn pid after d)) (Some (newborn me after d)) = same (λ i. Some (newborn (sym number i) after d)) in
        changed n pid me k.table u m mid.names mid.alive a new within new_within mid.long long (inl none) (inl none_d) (Some (newborn pid after d)) (Some (newborn me after d)) mid.init born
        (λ ne. same (none_e ∙ sym (ap (moved_slot swapped.to) none_d)))

    pub forks_into : After pid me (fork_into k pid after (Some a)) (fork_into l me after (Some new))
    forks_into =
        let now : KernelState S = record k { table = forked k.table a pid after (fds_at k pid); entries = all_held k.entries (fds_at k pid) } in
        subst (λ (e : Descriptors). After pid me (fork_into k pid after (Some a)) (answered (record l { table = forked u new me after e; entries = all_held k.entries e }) me after Done)) (sym (fds_moved n pid me k.table u m))
        (answers_so swapped pid me after now (forked u new me after (fds_at k pid)) Done forks_moves)

  fork_by : (o q : Option ℕ) → lowest_free k.table ≡ o → lowest_free u ≡ q → After pid me (fork k pid after) (fork l me after)
  fork_by None None is is_u =
      subst (λ (o : Option ℕ). After pid me (fork_into k pid after o) (fork l me after)) (sym is)
      (subst (λ (q : Option ℕ). After pid me (fork_into k pid after None) (fork_into l me after q)) (sym is_u) (kept_so _ _ (refusing pid me (moved_channel n.to) (SameEntries (Moves n pid me)) keeps after k l Procs (here pid me (moved_channel n.to) (SameEntries (Moves n pid me)) keeps k u k.entries (m, refl)))))
  fork_by (Some a) (Some new) is is_u =
      subst (λ (o : Option ℕ). After pid me (fork_into k pid after o) (fork l me after)) (sym is)
      (subst (λ (q : Option ℕ). After pid me (fork_into k pid after (Some a)) (fork_into l me after q)) (sym is_u) (forks_into a new (subst (λ (i : ℕ). a < i) mid.long (child_within k.table a is)) (subst (λ (i : ℕ). new < i) long (child_within u new is_u)) (lowest_was_free k.table a is) (lowest_was_free u new is_u)))
  fork_by (Some a) None is is_u =
      let within : n.to a < length u = subst (λ (i : ℕ). n.to a < i) (sym long) (m.moved.there a (subst (λ (i : ℕ). a < i) mid.long (child_within k.table a is))) in
      absurd (finds_free u (n.to a) within (stays_free n (at k.table a) (at u (n.to a)) (m.moved.slots a) (lowest_was_free k.table a is)) is_u)
  fork_by None (Some new) is is_u =
      let within : n.back new < length k.table = subst (λ (i : ℕ). n.back new < i) (sym mid.long) (m.moved.here new (subst (λ (i : ℕ). new < i) long (child_within u new is_u))) in
      let there : IsMoved n.to (at k.table (n.back new)) (at u new) = subst (λ (i : ℕ). IsMoved n.to (at k.table (n.back new)) (at u i)) (n.here new) (m.moved.slots (n.back new)) in
      absurd (finds_free k.table (n.back new) within (was_free n (at k.table (n.back new)) (at u new) there (lowest_was_free u new is_u)) is)

  -- ---- wait

  -- whatever zombies of its children are freed
  pub reaps : (a new : ℕ) → a < PROCS → new < PROCS → is_zombie_child_of pid (at k.table a) ≡ true → is_zombie_child_of me (at u new) ≡ true
      → After pid me (answered (record k { table = freed k.table (Some a) }) pid after Done) (answered (record l { table = freed u (Some new) }) me after Done)
  reaps a new within new_within one other =
      let there : IsMoved n.to (at k.table (n.back new)) (at u new) = subst (λ (i : ℕ). IsMoved n.to (at k.table (n.back new)) (at u i)) (n.here new) (m.moved.slots (n.back new)) in
      let child_a : IsZombieOf (Some pid) (at k.table a) = zombie_is pid (at k.table a) one in
      let child_d : IsZombieOf (Some pid) (at k.table (n.back new)) =
      zombie_is pid (at k.table (n.back new)) (sym (same_zombie_child n pid (at k.table (n.back new)) (at u new) there) ∙ ap (λ (i : ℕ). is_zombie_child_of i (at u new)) m.number ∙ other) in
      let child_e : IsZombieOf (Some me) (at u (n.to a)) =
      zombie_is me (at u (n.to a)) (ap (λ (i : ℕ). is_zombie_child_of i (at u (n.to a))) (sym m.number) ∙ same_zombie_child n pid (at k.table a) (at u (n.to a)) (m.moved.slots a) ∙ one) in
      let gone_a : IsGone (at k.table a) = inr (dead (Some pid) (at k.table a) child_a) in
      let gone_d : IsGone (at k.table (n.back new)) = inr (dead (Some pid) (at k.table (n.back new)) child_d) in
      let to = (exchanged n a new).to in
      let number : to.to pid ≡ me = number_so n pid me k.table u m mid.names mid.alive a new within new_within mid.long long gone_a gone_d in
      let both : Moves to pid me (freed k.table (Some a)) (freed u (Some new)) =
      changed n pid me k.table u m mid.names mid.alive a new within new_within mid.long long gone_a gone_d None None mid.init (same refl)
      (λ ne. zombies (Some pid) child_d (subst (λ (i : ℕ). IsZombieOf (Some i) (at u (n.to a))) (sym number) child_e)) in
      let now : KernelState S = record k { table = freed k.table (Some a) } in
      answers_so to pid me after now (freed u (Some new)) Done both

  sleeps_so : After pid me (sleeps k pid (Children pid) 0) (sleeps l me (Children me) 0)
  sleeps_so = subst (λ (i : ℕ). After pid me (sleeps k pid (Children pid) 0) (sleeps l me (Children i) 0)) m.number (kept_so _ _ (sleeping pid me (moved_channel n.to) (SameEntries (Moves n pid me)) keeps k l (Children pid) 0 (here pid me (moved_channel n.to) (SameEntries (Moves n pid me)) keeps k u k.entries (m, refl))))

  abbrev Waits : Option ℕ → Option ℕ → Option ℕ → Option ℕ → Type 0
  Waits o q c e = After pid me (wait_by (record k { table = k.table }) pid after (waited o c)) (wait_by l me after (waited q e))

  children_by : (c e : Option ℕ) → is_some e ≡ is_some c → Waits None None c e
  children_by None None is = kept_so _ _ (answering pid me (moved_channel n.to) (SameEntries (Moves n pid me)) keeps after k l Refused (here pid me (moved_channel n.to) (SameEntries (Moves n pid me)) keeps k u k.entries (m, refl)))
  children_by (Some c) (Some e) is = sleeps_so
  children_by None (Some e) is = absurd (let z : ⊥ = cc in z)
  children_by (Some c) None is = absurd (let z : ⊥ = cc in z)

  wait_so : (o q : Option ℕ) → zombie_child k.table pid ≡ o → zombie_child u me ≡ q → is_some q ≡ is_some o → After pid me (wait k pid after) (wait l me after)
  wait_so None None is is_u both =
      subst (λ (o : Option ℕ). After pid me (wait_by k pid after (waited o (some_child k.table pid))) (wait l me after)) (sym is)
      (subst (λ (q : Option ℕ). After pid me (wait_by k pid after (waited None (some_child k.table pid))) (wait_by l me after (waited q (some_child u me)))) (sym is_u)
      (children_by (some_child k.table pid) (some_child u me) (some_child_so n pid me k.table u m)))
  wait_so (Some a) (Some new) is is_u both =
      let left : wait k pid after ≡ answered (record k { table = freed k.table (Some a) }) pid after Done =
      ap (λ (o : Option ℕ). wait_by k pid after (waited o (some_child k.table pid))) is ∙ ap (λ (o : Option ℕ). answered (record k { table = freed k.table o }) pid after Done) is in
      let right : wait l me after ≡ answered (record l { table = freed u (Some new) }) me after Done =
      ap (λ (o : Option ℕ). wait_by l me after (waited o (some_child u me))) is_u ∙ ap (λ (o : Option ℕ). answered (record l { table = freed u o }) me after Done) is_u in
      let f = position_found (is_zombie_child_of pid) k.table None a is in
      let g = position_found (is_zombie_child_of me) u None new is_u in
      let it = reaps a new (subst (λ (i : ℕ). a < i) mid.long f.0) (subst (λ (i : ℕ). new < i) long g.0) f.1 g.1 in
      subst (λ (j : KernelState S). After pid me (wait k pid after) j) (sym right) (subst (λ (j : KernelState S). After pid me j (answered (record l { table = freed u (Some new) }) me after Done)) (sym left) it)
  wait_so None (Some new) is is_u both = absurd (let z : ⊥ = cc in z)
  wait_so (Some a) None is is_u both = absurd (let z : ⊥ = cc in z)

  -- ---- any call

  pub acted_under : (call : Call) (refused : Bool) → After pid me (acted k pid after call refused) (acted l me after call refused)
  acted_under Fork refused = fork_by (lowest_free k.table) (lowest_free u) refl refl
  acted_under (Exec found) refused = kept_so _ _ (answering pid me (moved_channel n.to) (SameEntries (Moves n pid me)) keeps after k l _ (here pid me (moved_channel n.to) (SameEntries (Moves n pid me)) keeps k u k.entries (m, refl)))
  acted_under Exit refused = kept_so _ _ (exit_so pid me (moved_channel n.to) (SameEntries (Moves n pid me)) keeps after k l (here pid me (moved_channel n.to) (SameEntries (Moves n pid me)) keeps k u k.entries (m, refl)))
  acted_under Wait refused = wait_so (zombie_child k.table pid) (zombie_child u me) refl refl (zombie_child_so n pid me k.table u m)
  acted_under MakePipe refused = kept_so _ _ (pipe_so pid me (moved_channel n.to) (SameEntries (Moves n pid me)) keeps after k u k.entries (m, refl) refused)
  acted_under (Read fd long) refused = kept_so _ _ (read_so pid me (moved_channel n.to) (SameEntries (Moves n pid me)) keeps after k fd long u k.entries (m, refl))
  acted_under (Write fd b) refused = kept_so _ _ (write_so pid me (moved_channel n.to) (SameEntries (Moves n pid me)) keeps after k fd b refused u k.entries (m, refl))
  acted_under (OpenFile file mode) refused = kept_so _ _ (open_so pid me (moved_channel n.to) (SameEntries (Moves n pid me)) keeps after k u k.entries (m, refl) file mode refused)
  acted_under (Close fd) refused = kept_so _ _ (close_so pid me (moved_channel n.to) (SameEntries (Moves n pid me)) keeps after k l fd (here pid me (moved_channel n.to) (SameEntries (Moves n pid me)) keeps k u k.entries (m, refl)))
  acted_under (Dup fd) refused = kept_so _ _ (dup_call_so pid me (moved_channel n.to) (SameEntries (Moves n pid me)) keeps after k fd u k.entries (m, refl))
