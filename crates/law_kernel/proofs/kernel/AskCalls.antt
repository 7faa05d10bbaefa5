-- After each call whoever sleeps makes a call that may sleep there.
use Rattle.std.proofs.Common.{◌≡◌, ◌≢◌, ◌⊎◌, ℕ, zero, suc, ◌+◌, ◌<◌, List, [], ◌∷◌, ◌++◌, true, Option, Some, None, length, drop, refl, sym, ap, subst, ◌∙◌, inl, inr, arith}
use Rattle.std.proofs.lemmas.Bool.{cases_eq}
use Rattle.std.specs.Prelude.{count_by}
use Rattle.user_calls.specs.declared.calls.Call.{Call}
use Rattle.user_calls.specs.declared.calls.Reply.{Reply}
use Rattle.user_calls.specs.declared.calls.Reply.TheVariants.{Done, Bytes as Given, Fd, Ends, Refused}
use Rattle.fd_table.specs.declared.descriptors.TheConstants.{DESCRIPTORS}
use Rattle.fd_table.specs.declared.names.Object.{Object}
use Rattle.fd_table.specs.declared.names.Object.TheVariants.{File, PipeRead, PipeWrite}
use Rattle.fd_table.specs.Entries.{Entries, entry_at, advanced, moved_to}
use Rattle.fd_table.specs.Descriptors.{Descriptors, entry_of, all_held}
use Rattle.proc_table.specs.declared.states.Channel.{Channel}
use Rattle.proc_table.specs.declared.states.Channel.TheVariants.{PipeBytes, PipeRoom, Children}
use Rattle.proc_table.specs.declared.states.Status.TheVariants.{Runnable, Asleep, Zombie}
use Rattle.proc_table.specs.Slots.{Slot, Process, at, put_of, is_running}
use Rattle.proc_table.specs.Calls.{readied, made_ready, slept, put_to_sleep, all_woken, woken, given, with_status, forked, newborn, freed, reaped, zombie_child}
use Rattle.proc_table.proofs.Changes.{written, mapped, exit_self}
use Rattle.kernel_model.specs.KernelState.{KernelState, fds_at, file_at}
use Rattle.kernel_model.specs.Pipes.{with_pipe, with_new}
use Rattle.byte_pipe.specs.PipeState.{after_put, after_take}
use Rattle.mem_files.specs.Listing.{with_entry}
use Rattle.kernel_model.specs.Sound.{IsSound}
use Rattle.kernel_model.specs.Modes.{entry_mode}
use Rattle.kernel_model.specs.Replies.{answered, marked}
use Rattle.kernel_model.specs.Opening.{with_bytes}
use Rattle.kernel_model.specs.Descriptors.{closed, closed_below, copied, with_open, with_reader}
use Rattle.kernel_model.specs.Processes.{ended}
use Rattle.kernel_model.proofs.Keeps.{mid}
use Rattle.kernel_model.proofs.Offsets.{slot_cases}
use Rattle.law_kernel.specs.Outcome.{Outcome, object_of, object_at, left_of, refused, lacks, forks, runs, exits, reaps, waits, opens, opens_empty, closes, dups, pipes, reads_input, reads_file, takes, waits_for_bytes, meets_end, tells, complains, writes_over, appends, puts_all, puts_part}
use Rattle.law_kernel.specs.Refused.{with_mark}
use Rattle.law_kernel.specs.Asking.{MaySleep, AllAsk}
use Rattle.law_kernel.proofs.kernel.Others.{Kept, kept_same, Stay, advanced_stay, moved_stay, dup_stay, fork_stay}
use Rattle.law_kernel.proofs.kernel.Leaves.{Leaves, leaves, leaves_same, leaves_then, leaves_slot, leaves_woken, leaves_exited, closed_leaves, closed_below_leaves, open_leaves}
use Rattle.law_kernel.proofs.kernel.Asking.{object_by, asks_still}

-- ---- who is awake

ready_awake : {S : Type 0} (m : S) (r : Reply) (x : Slot S) (now : Process S) (c : Channel) → made_ready m r x ≡ Some now → now.status ≡ Asleep c → ⊥
ready_awake m r None now c is sleeps = cc
ready_awake m r (Some p) now c is sleeps = let awake : now.status ≡ Runnable = let it : record p { status = Runnable; machine = m; reply = r; put = 0 } ≡ now = cc in ap (λ (q : Process _). q.status) (sym it) in cc

woken_awake : {S : Type 0} (w : Channel) (m : S) (r : Reply) (x : Slot S) (now : Process S) (c : Channel) → woken w (made_ready m r x) ≡ Some now → now.status ≡ Asleep c → ⊥
woken_awake w m r None now c is sleeps = cc
woken_awake w m r (Some p) now c is sleeps = ready_awake m r (Some p) now c is sleeps

zombie_awake : {S : Type 0} (x : Slot S) (now : Process S) (c : Channel) → with_status Zombie x ≡ Some now → now.status ≡ Asleep c → ⊥
zombie_awake None now c is sleeps = cc
zombie_awake (Some p) now c is sleeps = let dead : now.status ≡ Zombie = let it : record p { status = Zombie } ≡ now = cc in ap (λ (q : Process _). q.status) (sym it) in cc

newborn_awake : {S : Type 0} (parent : ℕ) (m : S) (fds : Descriptors) (now : Process S) (c : Channel) → Some (newborn parent m fds) ≡ Some now → now.status ≡ Asleep c → ⊥
newborn_awake parent m fds now c is sleeps = let awake : now.status ≡ Runnable = let it : newborn parent m fds ≡ now = cc in ap (λ (q : Process _). q.status) (sym it) in cc

-- ---- what is left of a write

left_over : (put n : ℕ) (b : List ℕ) → n < length (drop put b) → put + n < length b
left_over zero n b some = omega (arith, some)
left_over (suc put) n [] some = absurd (omega (arith, some))
left_over (suc put) n (x ∷ b) some = omega (arith, left_over put n b some)

module _ {S : Type 0} (call : S → Reply → Call) (k : KernelState S) (pid : ℕ) (p0 : Process S) (there : at k.table pid ≡ Some p0) (all : AllAsk call k) where
  abbrev Asks : KernelState S → Type 0
  Asks l = AllAsk call l

  -- the others as they asked before, the caller by itself
  asks_by : (l : KernelState S) → ((q : ℕ) → q ≢ pid → Leaves q k l) → ((now : Process S) (c : Channel) → at l.table pid ≡ Some now → now.status ≡ Asleep c → MaySleep l pid (call now.machine now.reply) now.put c) → Asks l
  asks_by l others own q now c is sleeps = by (cases_eq q pid) where
    by : (q ≡ pid) ⊎ (q ≢ pid) → MaySleep l q (call now.machine now.reply) now.put c
    by (inl same) =
        let P : ℕ → Type 0 = λ i. MaySleep l i (call now.machine now.reply) now.put c in
        subst P (sym same) (own now c (ap (at l.table) (sym same) ∙ is) sleeps)
    by (inr ne) = asks_still call k l q all (others q ne) now c is sleeps

  -- ---- the caller goes on

  answered_asks : (after : S) (j : KernelState S) (reply : Reply) → ((q : ℕ) → q ≢ pid → Leaves q k j) → Asks (answered j pid after reply)
  answered_asks after j reply others =
      let l : KernelState S = answered j pid after reply in
      asks_by l (λ q ne. leaves_then q k j l (others q ne) (leaves_slot q j l pid (made_ready after reply (at j.table pid)) ne refl (λ p is fd e object held has. has)))
      (λ now c is sleeps. absurd (ready_awake after reply (at j.table pid) now c (sym (written (made_ready after reply) refl j.table pid) ∙ is) sleeps))

  woke_asks : (after : S) (j : KernelState S) (w : Channel) (reply : Reply) → ((q : ℕ) → q ≢ pid → Leaves q k j) → Asks (record (answered j pid after reply) { table = all_woken w (readied j.table pid after reply) })
  woke_asks after j w reply others =
      let l : KernelState S = answered j pid after reply in
      let m : KernelState S = record l { table = all_woken w l.table } in
      asks_by m (λ q ne. leaves_then q k l m (leaves_then q k j l (others q ne) (leaves_slot q j l pid (made_ready after reply (at j.table pid)) ne refl (λ p is fd e object held has. has))) (leaves_woken q l m w refl refl))
      (λ now c is sleeps. absurd (woken_awake w after reply (at j.table pid) now c (sym (mapped (woken w) refl l.table pid ∙ ap (woken w) (written (made_ready after reply) refl j.table pid)) ∙ is) sleeps))

  -- ---- the caller sleeps

  abbrev asleep_now : Channel → ℕ → Process S
  asleep_now c put = record p0 { status = Asleep c; put = put }

  own_object : (l : KernelState S) (c : Channel) (put : ℕ) → at l.table pid ≡ Some (asleep_now c put) → l.entries ≡ k.entries → (fd : ℕ) (object : Object) → object_at k pid fd ≡ Some object → object_at l pid fd ≡ Some object
  own_object l c put is same fd object has =
      object_by l pid fd (asleep_now c put) is ∙ ap (λ (E : Entries). object_of (file_at E (entry_of p0.fds fd))) same ∙ sym (object_by k pid fd p0 there) ∙ has

  own_may : (l : KernelState S) (c : Channel) (put : ℕ) → at l.table pid ≡ Some (asleep_now c put) → l.entries ≡ k.entries → (d : Call) (e : Channel) (n : ℕ) → MaySleep k pid d n e → MaySleep l pid d n e
  own_may l c put is same d (PipeBytes id) n m = (m.0, m.1, m.2, own_object l c put is same m.0 (PipeRead id) m.3)
  own_may l c put is same d (PipeRoom id) n m = (m.0, (m.1.0, m.1.1, own_object l c put is same m.1.0 (PipeWrite id) m.1.2), m.2)
  own_may l c put is same d (Children parent) n m = m

  sleeping_asks : (l : KernelState S) (c : Channel) (put : ℕ) → ((q : ℕ) → q ≢ pid → Leaves q k l) → at l.table pid ≡ Some (asleep_now c put) → l.entries ≡ k.entries → MaySleep k pid (call p0.machine p0.reply) put c → Asks l
  sleeping_asks l c put others slot same may =
      asks_by l others (λ now d is sleeps.
      let both : Some (asleep_now c put) ≡ Some now = sym slot ∙ is in
      let it : asleep_now c put ≡ now = cc in
      let on : Asleep c ≡ Asleep d = ap (λ (q : Process S). q.status) it ∙ sleeps in
      let at_d : c ≡ d = cc in
      subst (λ (q : Process S). MaySleep l pid (call q.machine q.reply) q.put d) it
      (subst (λ (e : Channel). MaySleep l pid (call p0.machine p0.reply) put e) at_d (own_may l c put slot same (call p0.machine p0.reply) c put may)))

  slept_slot : (c : Channel) (put : ℕ) → at (slept k.table pid c put) pid ≡ Some (asleep_now c put)
  slept_slot c put = written (put_to_sleep c put) refl k.table pid ∙ ap (put_to_sleep c put) there

  slept_leaves : (l : KernelState S) (c : Channel) (put q : ℕ) → q ≢ pid → l.table ≡ slept k.table pid c put → l.entries ≡ k.entries → Leaves q k l
  slept_leaves l c put q ne same entries =
      leaves_slot q k l pid (put_to_sleep c put (at k.table pid)) ne same (λ p is fd e object held has. subst (λ (E : Entries). object_of (entry_at E e) ≡ Some object) (sym entries) has)

  -- ---- fork and wait

  fork_leaves : (child : ℕ) (m : S) (fds : Descriptors) (E : Entries) (q : ℕ) → ((p : Process S) → at k.table q ≡ Some p → Stay k.entries p.fds E) → Leaves q k (record k { table = forked k.table child pid m fds; entries = E })
  fork_leaves child m fds E q stays = leaves q k (record k { table = forked k.table child pid m fds; entries = E }) (by (slot_cases k.table child q (Some (newborn pid m fds)))) stays where
    by : (at (forked k.table child pid m fds) q ≡ Some (newborn pid m fds)) ⊎ (at (forked k.table child pid m fds) q ≡ at k.table q) → Kept (at k.table q) (at (forked k.table child pid m fds) q)
    by (inl new) = λ now c is sleeps. absurd (newborn_awake pid m fds now c (sym new ∙ is) sleeps)
    by (inr same) = kept_same (at k.table q) (at (forked k.table child pid m fds) q) same

  reap_leaves : (child q : ℕ) → zombie_child k.table pid ≡ Some child → Leaves q k (record k { table = reaped k.table pid })
  reap_leaves child q found =
      leaves q k (record k { table = reaped k.table pid }) (subst (λ (o : Option ℕ). Kept (at k.table q) (at (freed k.table o) q)) (sym found) (by (slot_cases k.table child q None))) (λ p is fd e object held has. has) where
        by : (at (freed k.table (Some child)) q ≡ None) ⊎ (at (freed k.table (Some child)) q ≡ at k.table q) → Kept (at k.table q) (at (freed k.table (Some child)) q)
        by (inl gone) = λ now c is sleeps. absurd (let no : None ≡ Some now = sym gone ∙ is in let z : ⊥ = cc in z)
        by (inr same) = kept_same (at k.table q) (at (freed k.table (Some child)) q) same

  -- ---- each way to end

  module _ (sound : IsSound k.table k.entries) (running : is_running (at k.table pid) ≡ true) (after : S) (new : KernelState S) where
    abbrev c0 : Call
    c0 = call p0.machine p0.reply

    so : (l : KernelState S) → new ≡ l → Asks l → Asks new
    so l is a = subst (AllAsk call) (sym is) a

    same : (q : ℕ) → q ≢ pid → Leaves q k k
    same q ne = leaves_same q k

    pub outcome_asks : Outcome k pid after c0 new → Asks new
    outcome_asks (refused is) = so _ is (answered_asks after k Refused same)
    outcome_asks (lacks full is) = so _ is (answered_asks after (with_mark k (marked k.full full)) Refused same)
    outcome_asks (forks child c free is) =
        so _ is (answered_asks after (record k { table = forked k.table child pid after (fds_at k pid); entries = all_held k.entries (fds_at k pid) }) Done (λ q ne. fork_leaves child after (fds_at k pid) _ q (λ p at_q. fork_stay k.entries p.fds (fds_at k pid))))
    outcome_asks (runs c is) = so _ is (answered_asks after k Done same)
    outcome_asks (exits c ne is) =
        let gone : KernelState S = closed_below k pid DESCRIPTORS in
        so _ is (asks_by (ended pid gone)
        (λ q other. leaves_then q k gone (ended pid gone) (closed_below_leaves q pid other k DESCRIPTORS (count_by is_running k.table) (mid k.table k.entries pid sound running)) (leaves_exited q gone (ended pid gone) pid other refl refl))
        (λ now d at_pid sleeps. absurd (zombie_awake (given pid (at gone.table pid)) now d (sym (exit_self gone.table pid) ∙ at_pid) sleeps)))
    outcome_asks (reaps child c dead is) = so _ is (answered_asks after (record k { table = reaped k.table pid }) Done (λ q ne. reap_leaves child q dead))
    outcome_asks (waits child c dead some is) =
        let l : KernelState S = record k { table = slept k.table pid (Children pid) 0 } in
        so _ is (sleeping_asks l (Children pid) 0 (λ q ne. slept_leaves l (Children pid) 0 q ne refl refl) (slept_slot (Children pid) 0) refl (refl, c))
    outcome_asks (opens name mode fd c is) = so _ is (answered_asks after (with_open k pid (File name (entry_mode mode))) (Fd fd) (λ q ne. open_leaves q pid ne k (File name (entry_mode mode))))
    outcome_asks (opens_empty name mode fd c is) =
        let made : KernelState S = with_bytes k name [] in
        so _ is (answered_asks after (with_open made pid (File name (entry_mode mode))) (Fd fd) (λ q ne. open_leaves q pid ne made (File name (entry_mode mode))))
    outcome_asks (closes fd c is) = so _ is (answered_asks after (closed k pid fd) Done (λ q ne. closed_leaves q pid ne k fd (count_by is_running k.table) (mid k.table k.entries pid sound running)))
    outcome_asks (dups fd entry place c held free is) =
        so _ is (answered_asks after (copied k pid (Some entry) (Some place)) (Fd place) (λ q ne. leaves_slot q k (copied k pid (Some entry) (Some place)) pid _ ne refl (λ p at_q. dup_stay k.entries p.fds entry place)))
    outcome_asks (pipes reader writer c two is) =
        let made : KernelState S = record k { pipes = with_new k.pipes k.events } in
        let one : KernelState S = with_reader k pid k.events in
        let both : KernelState S = with_open one pid (PipeWrite k.events) in
        so _ is (answered_asks after both (Ends reader writer) (λ q ne. leaves_then q k one both (open_leaves q pid ne made (PipeRead k.events)) (open_leaves q pid ne one (PipeWrite k.events))))
    outcome_asks (reads_input n r is) = so _ is (answered_asks after (record k { input = drop n k.input }) (Given _) same)
    outcome_asks (reads_file name mode entry n bytes r is) =
        let l : KernelState S = record k { entries = advanced k.entries entry n } in
        so _ is (answered_asks after l (Given bytes) (λ q ne. leaves q k l (kept_same (at k.table q) (at k.table q) refl) (λ p at_q. advanced_stay k.entries p.fds entry n)))
    outcome_asks (takes id n p r found some is) = so _ is (woke_asks after (record k { pipes = with_pipe k.pipes id (after_take p n) }) (PipeRoom id) (Given _) same)
    outcome_asks (waits_for_bytes id p r found empty unshut is) =
        let l : KernelState S = record k { table = slept k.table pid (PipeBytes id) 0 } in
        so _ is (sleeping_asks l (PipeBytes id) 0 (λ q ne. slept_leaves l (PipeBytes id) 0 q ne refl refl) (slept_slot (PipeBytes id) 0) refl r)
    outcome_asks (meets_end id p r found empty shut is) = so _ is (answered_asks after k (Given []) same)
    outcome_asks (tells b w is) = so _ is (answered_asks after (record k { out = k.out ++ b }) Done same)
    outcome_asks (complains b w is) = so _ is (answered_asks after (record k { diag = k.diag ++ b }) Done same)
    outcome_asks (writes_over name mode entry b bytes w is) =
        let l : KernelState S = record k { files = with_entry k.files name bytes; entries = advanced k.entries entry (length b) } in
        so _ is (answered_asks after l Done (λ q ne. leaves q k l (kept_same (at k.table q) (at k.table q) refl) (λ p at_q. advanced_stay k.entries p.fds entry (length b))))
    outcome_asks (appends name mode entry b bytes w is) =
        let l : KernelState S = record k { files = with_entry k.files name bytes; entries = moved_to k.entries entry (length bytes) } in
        so _ is (answered_asks after l Done (λ q ne. leaves q k l (kept_same (at k.table q) (at k.table q) refl) (λ p at_q. moved_stay k.entries p.fds entry (length bytes))))
    outcome_asks (puts_all id p b w found put is) = so _ is (woke_asks after (record k { pipes = with_pipe k.pipes id (after_put p (left_of k pid b)) }) (PipeBytes id) Done same)
    outcome_asks (puts_part id n p b w found reads filled part some is) =
        let put : ℕ = put_of (at k.table pid) + n in
        let l : KernelState S = record k { table = slept k.table pid (PipeRoom id) put } in
        let m : KernelState S = record k { table = all_woken (PipeBytes id) l.table; pipes = with_pipe k.pipes id (after_put p (left_of k pid b)) } in
        so _ is (sleeping_asks m (PipeRoom id) put
        (λ q ne. leaves_then q k l m (slept_leaves l (PipeRoom id) put q ne refl refl) (leaves_woken q l m (PipeBytes id) refl refl))
        (mapped (woken (PipeBytes id)) refl l.table pid ∙ ap (woken (PipeBytes id)) (slept_slot (PipeRoom id) put)) refl
        (b, w, left_over (put_of (at k.table pid)) n b some))
