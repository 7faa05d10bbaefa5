-- A turn that closes an end of a pipe, and any other process's turn.
use Rattle.std.proofs.Common.{◌≡◌, ◌≢◌, ℕ, ◌+◌, ◌<◌, ◌≤◌, true, false, Option, Some, None, refl, sym, ap, subst, ◌∙◌, arith, get_or-set_other}
use Rattle.std.proofs.Math.ListN.{set}
use Rattle.user_calls.specs.declared.calls.Call.{Call}
use Rattle.user_calls.specs.declared.calls.Call.TheVariants.{Fork, Exec, Exit, Wait, MakePipe, Read, Write, OpenFile, Close, Dup}
use Rattle.user_calls.specs.declared.calls.Reply.{Reply}
use Rattle.user_calls.specs.declared.calls.Reply.TheVariants.{Done}
use Rattle.fd_table.specs.declared.names.Object.{Object}
use Rattle.fd_table.specs.Entries.{OpenFile as Opened, entry_at, count_of, released, last_object, less_held}
use Rattle.fd_table.specs.Descriptors.{Descriptors, entry_of, holders_in, close_answer}
use Rattle.proc_table.specs.declared.states.Status.TheVariants.{Running, Runnable}
use Rattle.proc_table.specs.Slots.{Slot, Table, Process, at, is_running, is_runnable_status, is_free}
use Rattle.proc_table.specs.Calls.{dispatched, with_status, fds_set, made_ready, readied, all_woken, woken, woken_status}
use Rattle.proc_table.proofs.Changes.{written, kept, mapped}
use Rattle.kernel_model.specs.KernelState.{KernelState, fds_of, fds_at, file_at}
use Rattle.kernel_model.specs.Replies.{answered}
use Rattle.kernel_model.specs.Sound.{IsSound}
use Rattle.kernel_model.specs.Descriptors.{taken_away, closed_by, close_reply, let_go_of, let_go}
use Rattle.kernel_model.specs.Events.{acted, counted}
use Rattle.law_turns.proofs.private_turns.Holders.{holds_one}
use Rattle.kernel_model.specs.Idle.{idle_kernel, renamed_pipe}
use Rattle.kernel_model.specs.Alike.{Alike, IsOneToOne, IsStill, HasNamesUpTo}
use Rattle.kernel_model.specs.Turns.{after_turn}
use Rattle.law_kernel.proofs.outcomes.Outcomes.{every_call_ends}
use Rattle.law_turns.proofs.orders.Names.{acted_alike}
use Rattle.law_turns.proofs.orders.Follow.{after_turn as turned, given_0, turn_still, given_names}
use Rattle.law_turns.proofs.orders.Back.{could_turn}
use Rattle.law_turns.proofs.orders.Turning.{relike}
use Rattle.law_turns.proofs.orders.Booted.{alike_itself}
use Rattle.law_turns.specs.Retold.{retold_table, retold, Left}
use Rattle.law_turns.proofs.private_turns.Unseen.{status_told}
use Rattle.law_turns.proofs.private_turns.Staying.{Holds, holds_itself, in_own, holds_alive}
use Rattle.law_turns.proofs.private_turns.Begun.{after_still}
use Rattle.law_turns.proofs.private_turns.Shared.{given_sound, given_runs}
use Rattle.law_turns.proofs.private_turns.Turned.{turn_is, turn_keeps, ready_slot, runnable_by, Ready}
use Rattle.std.proofs.lemmas.Bool.{le-leb, leb-true, leb-false}
use Rattle.std.specs.Prelude.{map, Ok, Bool, nat_le, if◌then◌else◌}
use Rattle.law_turns.proofs.entry_numbers.Entries.{changed_entry}
use Rattle.fd_table.specs.declared.names.Object.TheVariants.{PipeRead}
use Rattle.proc_table.specs.declared.states.Channel.{Channel}
use Rattle.std.proofs.lemmas.List.{map-set}
use Rattle.kernel_model.specs.Pipes.{Pipes, pipe_of, reader_gone, writer_gone}
use Rattle.kernel_model.specs.Woke.{woke, AlikeAwake, woke_table}
use Rattle.law_turns.proofs.orders.Entries.{pipe_renamed, reader_renamed, writer_renamed}
use Rattle.law_kernel.specs.Ends.{EndsAgree}
use Rattle.law_turns.proofs.private_turns.Awake.{alike_awake}
use Rattle.law_turns.proofs.private_turns.Wakes.{acted_woke}
use Rattle.law_turns.proofs.private_turns.Woken.{all_woken_woke}
use Rattle.kernel_model.specs.Numbers.{SameButNumbers}
use Rattle.law_turns.proofs.entry_numbers.Acted.{let_go_same}
use Rattle.kernel_model.specs.Closes.{FindsFree, FindsFreeNext, ClosesNext}
use Rattle.law_turns.proofs.last_closes.Turned.{Closes, left, given_up, table_left, names_given, more_hold, acted_given, at_events}
use Rattle.law_turns.specs.Writers.{InEitherOrderAwake}
use Rattle.law_turns.proofs.write_ends.Ends.{PipeEnd, ReadEnd, WriteEnd, object_of, channel_of, IsNoEnd, let_go_end}
use Rattle.law_turns.proofs.write_ends.Pipes.{reader_edited, writer_edited}
use Rattle.law_turns.proofs.write_ends.Cutting.{cut, cut_pipes, CanRead, FindsBytes, ReadsBytes, acted_cut}
use Rattle.law_turns.proofs.write_ends.Facts.{named}
use Rattle.law_turns.proofs.write_ends.Stays.{IsLast, HoldsNot, outcome_last}
use Rattle.law_turns.proofs.write_ends.Many.{ClosesNothing, IsMany, outcome_many}
use Rattle.law_turns.proofs.write_ends.Gone.{Closing, IsLastOn, last_on, shared_is_not_last, freed_with_last, shut_by, shut, gone, let_go_shut, gone_shut, IsHeld, is_cut, closing_shut}
use Rattle.law_turns.proofs.last_closes.Acted.{CanGoBy, goes_by}
use Rattle.law_turns.proofs.last_closes.Objects.{IsOpenOn, outcome_on}
use Rattle.law_turns.proofs.private_turns.Unheard.{acted_told}
use Rattle.law_turns.proofs.entry_numbers.Numberings.{same_itself}

-- ---- wake-ups

module _ {S : Type 0} (c : Channel) where
  set_woken : (f : Slot S → Slot S) → ((x : Slot S) → f (woken c x) ≡ woken c (f x)) → (t : Table S) (p : ℕ) → set (all_woken c t) p (f (at (all_woken c t) p)) ≡ all_woken c (set t p (f (at t p)))
  set_woken f each t p = ap (λ (x : Slot S). set (all_woken c t) p (f x)) (mapped (woken c) refl t p) ∙ ap (set (all_woken c t) p) (each (at t p)) ∙ sym (map-set (woken c) t p (f (at t p)))

  ready_slot_woken : (m : S) (reply : Reply) (x : Slot S) → made_ready m reply (woken c x) ≡ woken c (made_ready m reply x)
  ready_slot_woken m reply None = refl
  ready_slot_woken m reply (Some y) = refl

  run_slot_woken : (h : ℕ) (x : Slot S) → with_status (Running h) (woken c x) ≡ woken c (with_status (Running h) x)
  run_slot_woken h None = refl
  run_slot_woken h (Some y) = refl

  ready_woken : (t : Table S) (p : ℕ) (m : S) (reply : Reply) → readied (all_woken c t) p m reply ≡ all_woken c (readied t p m reply)
  ready_woken t p m reply = set_woken (made_ready m reply) (ready_slot_woken m reply) t p

  run_woken : (t : Table S) (p h : ℕ) → dispatched (all_woken c t) p h ≡ all_woken c (dispatched t p h)
  run_woken t p h = set_woken (with_status (Running h)) (run_slot_woken h) t p

-- ---- names

end_renamed : (end : PipeEnd) (id : ℕ) (name : ℕ → ℕ) → IsOneToOne name → (pipes : Pipes) → map (renamed_pipe name) (cut_pipes end id pipes) ≡ cut_pipes end (name id) (map (renamed_pipe name) pipes)
end_renamed ReadEnd id name o pipes =
    ap (map (renamed_pipe name)) (sym (reader_edited pipes id)) ∙ sym (reader_renamed name o pipes id (pipe_of pipes id)) ∙ ap (reader_gone (map (renamed_pipe name) pipes) (name id)) (sym (pipe_renamed name o pipes id)) ∙
    reader_edited (map (renamed_pipe name) pipes) (name id)
end_renamed WriteEnd id name o pipes =
    ap (map (renamed_pipe name)) (sym (writer_edited pipes id)) ∙ sym (writer_renamed name o pipes id (pipe_of pipes id)) ∙ ap (writer_gone (map (renamed_pipe name) pipes) (name id)) (sym (pipe_renamed name o pipes id)) ∙
    writer_edited (map (renamed_pipe name) pipes) (name id)

names_cut : {S : Type 0} (end : PipeEnd) (id p n : ℕ) (k : KernelState S) → id ≤ n → HasNamesUpTo n k → HasNamesUpTo n (cut end id p k)
names_cut end id p n k within names f g one two agree =
    (λ i. record (idle_kernel f 0 k) { pipes = end_renamed end id f one k.pipes i }) ∙ (λ i. record (names f g one two agree i) { pipes = cut_pipes end (agree id within i) (names f g one two agree i).pipes }) ∙
    sym (λ i. record (idle_kernel g 0 k) { pipes = end_renamed end id g two k.pipes i })

-- a call that closes nothing closes no pipe's end
goes_nowhere : {S : Type 0} (e q : ℕ) (k : KernelState S) (b : Call) → ClosesNothing b → CanGoBy e q k b
goes_nowhere e q k Fork none = tt
goes_nowhere e q k (Exec found) none = tt
goes_nowhere e q k Exit none = absurd none
goes_nowhere e q k Wait none = tt
goes_nowhere e q k MakePipe none = tt
goes_nowhere e q k (Read fd n) none = tt
goes_nowhere e q k (Write fd b) none = tt
goes_nowhere e q k (OpenFile name mode) none = tt
goes_nowhere e q k (Close fd) none = absurd none
goes_nowhere e q k (Dup fd) none = tt

-- ---- the turn

module _ {S : Type 0} (end : PipeEnd) (call : S → Reply → Call) (next : S → Reply → S) (p : ℕ) (x : Process S) (fd e id : ℕ) (c : Closes call next p x fd e (object_of end id)) where
  abbrev its : Object
  its = object_of end id

  abbrev chan : Channel
  chan = channel_of end id

  abbrev pub lf : Left S
  lf = left call next p x fd e its

  abbrev pub told : KernelState S → KernelState S
  told k = retold p lf k

  abbrev pub gave : KernelState S → KernelState S
  gave k = given_up call next p x fd e its k

  -- what the turn comes to, and with its two events
  abbrev pub lets : KernelState S → KernelState S
  lets k = gone end id e p (told k)

  abbrev pub both_events : KernelState S → KernelState S
  both_events k = record (lets k) { events = k.events + 1 + 1 }

  abbrev IsLet : Option Object → Type 0
  IsLet o = IsLastOn its o

  timed : (j : KernelState S) (n : ℕ) (o : Option Object) → IsLet o → let_go_of (record j { events = n }) (Ok o) ≡ record (let_go_of j (Ok o)) { events = n }
  timed j n None is = refl
  timed j n (Some object) is =
      let P : Object → Type 0 = λ o. let_go (record j { events = n }) o ≡ record (let_go j o) { events = n } in
      subst P (sym is) (let_go_end end id (record j { events = n }) ∙ sym (λ i. record (let_go_end end id j i) { events = n }))

  answered_after : (j : KernelState S) (m : S) (o : Option Object) → IsLet o → answered (let_go_of j (Ok o)) p m Done ≡ let_go_of (answered j p m Done) (Ok o)
  answered_after j m None is = refl
  answered_after j m (Some object) is =
      let P : Object → Type 0 = λ o. answered (let_go j o) p m Done ≡ let_go (answered j p m Done) o in
      subst P (sym is)
      (ap (λ (l : KernelState S). answered l p m Done) (let_go_end end id j) ∙ (λ i. record j { pipes = cut_pipes end id j.pipes; table = ready_woken chan j.table p m Done i }) ∙
      sym (let_go_end end id (answered j p m Done)))

  pub own : (l : KernelState S) → IsStill l → Holds x (at l.table p) → IsOpenOn its (entry_at l.entries e) → after_turn call next l p ≡ Some (both_events l)
  own l still h on =
      let d : KernelState S = counted (given_0 l p) in
      let own_fds : fds_at d p ≡ x.fds = ap fds_of (written (with_status (Running 0)) refl l.table p) ∙ ap (λ (y : Slot S). fds_of (with_status (Running 0) y)) h.there ∙ h.fds in
      let entry : entry_of (fds_at d p) fd ≡ Some e = ap (λ (f : Descriptors). entry_of f fd) own_fds ∙ c.holds in
      let after : S = next x.machine x.reply in
      let o : Option Object = last_object (entry_at l.entries e) in
      let is : IsLet o = last_on its (entry_at l.entries e) on in
      turn_is call next l p h.now still h.there (ap is_runnable_status h.ready) ∙
      ap Some ((λ i. acted d p (next (h.machine i) (h.reply i)) (call (h.machine i) (h.reply i)) false) ∙ ap (λ (b : Call). acted d p after b false) c.calls ∙
      (λ i. answered (closed_by d p fd (entry i)) p after (close_reply (close_answer d.entries (entry i)))) ∙
      answered_after (taken_away d p fd (Some e)) after o is ∙
      (λ i. let_go_of (record d { table = readied (fds_set d.table p (set (own_fds i) fd None)) p after Done; entries = released d.entries e }) (Ok o)) ∙
      (λ i. let_go_of (record d { table = table_left call next p x fd e its l.table h i; entries = released d.entries e }) (Ok o)) ∙
      timed (gave l) (l.events + 1 + 1) o is)

  -- ---- both orders

  module _ (k : KernelState S) (q : ℕ) (y : Process S) (other : q ≢ p) (still : IsStill k) (h : Holds x (at k.table p)) (there : at k.table q ≡ Some y) (runs : y.status ≡ Runnable) (file : Opened) (used : entry_at k.entries e ≡ Some file)
      (on : file.object ≡ its) (agree : EndsAgree k.entries k.pipes) (fresh : (n : ℕ) → k.events < n → pipe_of k.pipes n ≡ None)
      (others : (fd d : ℕ) → entry_of (fds_at k q) fd ≡ Some d → d ≢ e → IsNoEnd end id (entry_at k.entries d)) where
    ready : is_runnable_status y.status ≡ true
    ready = ap is_runnable_status runs

    abbrev d : KernelState S
    d = counted (given_0 k q)

    abbrev g : KernelState S
    g = gave d

    abbrev after : S
    after = next y.machine y.reply

    abbrev b : Call
    b = call y.machine y.reply

    abbrev l : KernelState S
    l = turned call next k q y false

    abbrev act : KernelState S → KernelState S
    act j = acted j q after b false

    abbrev last : Option Object
    last = last_object (entry_at k.entries e)

    d_holds : Holds x (at d.table p)
    d_holds = in_own x p q other k.table _ h

    d_sound : IsSound d.table d.entries
    d_sound = given_sound call next k q y still there ready

    d_runs : is_running (at d.table q) ≡ true
    d_runs = given_runs k q y there

    on_here : IsOpenOn its (entry_at k.entries e)
    on_here = subst (IsOpenOn its) (sym used) on

    l_on : IsOpenOn its (entry_at l.entries e)
    l_on = outcome_on its e q d after b l (record { file = file; used = used; on = on }) (every_call_ends d q after b false)

    is_let : IsLet last
    is_let = last_on its (entry_at k.entries e) on_here

    q_fds : fds_at (told d) q ≡ fds_at d q
    q_fds = ap fds_of (kept d.table p q _ other)

    told_fds : fds_at (told d) q ≡ fds_at k q
    told_fds = q_fds ∙ ap fds_of (written (with_status (Running 0)) refl k.table q) ∙ ap (λ (z : Slot S). fds_of (with_status (Running 0) z)) there ∙ sym (ap fds_of there)

    held : IsHeld end id e q (told d)
    held = record {
      on = on_here;
      others = λ gd i holds ne. others gd i (ap (λ (f : Descriptors). entry_of f gd) (sym told_fds) ∙ holds) ne;
      apart = agree.apart;
      more = more_hold call next p x fd e its c q other d d_holds d_sound d_runs file used on;
    }

    -- p's slot isn't seen by q's call
    told_call : act (told d) ≡ told l
    told_call = acted_told p lf q other after d b false (ap is_free d_holds.there) (holds_alive x (at d.table p) d_holds)

    numbers : CanGoBy e q (told d) b → FindsFree d b → SameButNumbers (act g) (gave l)
    numbers go free = acted_given call next p x fd e its c q other d d_holds d_sound d_runs file used on after b go free

    -- what q's call comes to after p's turn, but for who sleeps, and from there, but for numbers, what p's turn comes to after q's
    record Comes : Type 0 where
      kernel : KernelState S
      awake : woke (act (shut end id e q (told d))) ≡ woke kernel
      same : SameButNumbers kernel (lets l)

    -- ---- a call that closes something

    closing_comes : Closing b → Comes
    closing_comes closing = record {
      kernel = lets l;
      awake =
          closing_shut end id e q after (told d) held b false closing ∙ ap (λ (j : KernelState S). woke (shut end id e q j)) told_call ∙ sym (gone_shut end id e q (told l) l_on);
      same = same_itself (lets l);
    }

    -- ---- another call, where more descriptors hold the entry

    shared_comes : ClosesNothing b → FindsFree d b → 1 < file.count → Comes
    shared_comes closes_nothing free many =
        let k_many : IsMany (entry_at k.entries e) = subst IsMany (sym used) many in
        let l_many : IsMany (entry_at l.entries e) = outcome_many e q d after b l closes_nothing k_many (every_call_ends d q after b false) in
        record {
          kernel = act g;
          awake = ap (λ (o : Option Object). woke (act (shut_by end id e q (told d) o))) (shared_is_not_last (entry_at k.entries e) k_many);
          same = subst (λ (o : Option Object). SameButNumbers (act g) (let_go_of (gave l) (Ok o))) (sym (shared_is_not_last (entry_at l.entries e) l_many)) (numbers (goes_nowhere e q (told d) b closes_nothing) free);
        }

    -- ---- the last descriptor that holds it

    module _ (one : file.count ≤ 1) where
      last_here : last ≡ Some its
      last_here = ap last_object used ∙ ap (λ (r : Bool). if r then Some file.object else None) (le-leb file.count 1 one) ∙ ap Some on

      -- q doesn't hold the entry
      nobody : 0 < holders_in (fds_at (told d) q) e → ⊥
      nobody some = omega (arith, some, held.more, one, ap count_of used)

      holds_not : HoldsNot its e q d
      holds_not gd is = nobody (omega (arith, holds_one (fds_at d q) gd e is, ap (λ (f : Descriptors). holders_in f e) q_fds))

      l_last : IsLast its e (entry_at l.entries e)
      l_last = outcome_last its e q d after b l holds_not (λ some. nobody (omega (arith, some, ap (λ (f : Descriptors). holders_in f e) q_fds))) last_here (every_call_ends d q after b false)

    -- what q is about to read of this pipe, if anything
    abbrev CanReadNext : Type 0
    CanReadNext = (rd n i : ℕ) (f : Opened) → b ≡ Read rd n → entry_of y.fds rd ≡ Some i → i ≢ e → entry_at k.entries i ≡ Some f → f.object ≡ PipeRead id → CanRead end id k.pipes

    past : (n : ℕ) → k.events < n → id ≢ n
    past n later is = named id k.entries k.pipes agree end e file used on (ap (pipe_of k.pipes) is ∙ fresh n later)

    module _ (one : file.count ≤ 1) where
      -- what q reads
      y_fds : fds_at g q ≡ y.fds
      y_fds = q_fds ∙ ap fds_of (written (with_status (Running 0)) refl k.table q) ∙ ap (λ (z : Slot S). fds_of (with_status (Running 0) z)) there

      still_used : (i : ℕ) (f : Opened) → entry_at (released k.entries e) i ≡ Some f → i ≢ e
      still_used i f is same =
          let none : None ≡ Some f = sym (changed_entry less_held refl k.entries e ∙ freed_with_last (entry_at k.entries e) its (last_here one)) ∙ ap (entry_at (released k.entries e)) (sym same) ∙ is in
          let z : ⊥ = cc in z

      entry_before : (i : ℕ) (f : Opened) → entry_at (released k.entries e) i ≡ Some f → entry_at k.entries i ≡ Some f
      entry_before i f is = sym (get_or-set_other k.entries e i (less_held (entry_at k.entries e)) None (still_used i f is)) ∙ is

      reads_in : CanReadNext → (rd n : ℕ) → b ≡ Read rd n → (x : Option Opened) → file_at (released k.entries e) (entry_of y.fds rd) ≡ x → FindsBytes end id q after g x
      reads_in can rd n is None at_x = tt
      reads_in can rd n is (Some f) at_x = λ reads. by (entry_of y.fds rd) refl at_x reads where
        by : (o : Option ℕ) → entry_of y.fds rd ≡ o → file_at (released k.entries e) o ≡ Some f → f.object ≡ PipeRead id → CanRead end id k.pipes
        by None held at_o reads = absurd (let z : ⊥ = cc in z)
        by (Some i) held at_o reads = can rd n i f is held (still_used i f at_o) (entry_before i f at_o) reads

      reads_by : CanReadNext → (m : Call) → b ≡ m → ReadsBytes end id q after g m
      reads_by can Fork is = tt
      reads_by can (Exec found) is = tt
      reads_by can Exit is = tt
      reads_by can Wait is = tt
      reads_by can MakePipe is = tt
      reads_by can (Read rd n) is =
          subst (λ (f : Descriptors). FindsBytes end id q after g (file_at (released k.entries e) (entry_of f rd))) (sym y_fds) (reads_in can rd n is (file_at (released k.entries e) (entry_of y.fds rd)) refl)
      reads_by can (Write wd bytes) is = tt
      reads_by can (OpenFile name mode) is = tt
      reads_by can (Close gd) is = tt
      reads_by can (Dup gd) is = tt

      last_comes : FindsFree d b → CanReadNext → Comes
      last_comes free can =
          let go : CanGoBy e q (told d) b = goes_by e q (told d) b (λ gd holds. absurd (nobody one (holds_one (fds_at (told d) q) gd e holds))) in
          record {
            kernel = let_go (act g) its;
            awake =
                ap (λ (o : Option Object). woke (act (shut_by end id e q (told d) o))) (last_here one) ∙
                ap woke (acted_cut end id q after g b false (is_cut end id e q (told d) held its (last_here one)) (past (k.events + 1 + 1) (omega arith)) (reads_by can b refl)) ∙
                sym (let_go_shut end id e q (act g) its refl);
            same = subst (λ (o : Option Object). SameButNumbers (let_go (act g) its) (let_go_of (gave l) (Ok o))) (sym (l_last one)) (let_go_same (act g) (gave l) (numbers go free) (Ok (Some its)));
          }

    -- ---- the other order

    abbrev shut_told : KernelState S
    shut_told = shut end id e q (told d)

    abbrev u : KernelState S
    u = record shut_told { events = k.events + 1 + 1 + 1 + 1 }

    within : id ≤ k.events
    within = by (nat_le id k.events) refl where
      by : (r : Bool) → nat_le id k.events ≡ r → id ≤ k.events
      by true is = leb-true id k.events is
      by false is = absurd (past id (leb-false id k.events is) refl)

    g_names : HasNamesUpTo k.events g
    g_names = names_given call next p x fd e its c k.events d (given_names call next k q y false still there ready)

    shut_names : (o : Option Object) → HasNamesUpTo k.events (shut_by end id e q (told d) o)
    shut_names None = g_names
    shut_names (Some object) = names_cut end id q k.events g within g_names

    shut_events : (o : Option Object) → (shut_by end id e q (told d) o).events ≡ k.events + 1 + 1
    shut_events None = refl
    shut_events (Some object) = refl

    renamed_call : Alike (act u) (act shut_told)
    renamed_call =
        acted_alike u shut_told k.events k.events q after b false (shut_names last) (shut_names last) (omega arith) (omega (arith, shut_events last)) (relike shut_told u shut_told shut_told (alike_itself shut_told) refl refl)

    -- q is dispatched after p's turn
    given_by : (o : Option Object) → IsLet o → woke (counted (given_0 (record (let_go_of (gave k) (Ok o)) { events = k.events + 1 + 1 }) q)) ≡ woke (record (shut_by end id e q (told d) o) { events = k.events + 1 + 1 + 1 + 1 })
    given_by None is = λ i. woke (record (counted (given_0 (record (gave k) { events = k.events + 1 + 1 }) q)) { table = status_told p lf q other k.table (Running 0) i })
    given_by (Some object) is =
        let late : ℕ = k.events + 1 + 1 in
        let P : Object → Type 0 = λ o. woke (counted (given_0 (record (let_go (gave k) o) { events = late }) q)) ≡ woke (record (cut end id q (gave d)) { events = late + 1 + 1 }) in
        let there : KernelState S = record (cut end id q (gave k)) { events = late + 1 + 1 } in
        subst P (sym is)
        (ap (λ (j : KernelState S). woke (counted (given_0 (record j { events = late }) q))) (let_go_end end id (gave k)) ∙
        ap (λ (t : Table S). record (woke there) { table = woke_table t }) (run_woken chan (retold_table p lf k.table) q 0 ∙ ap (all_woken chan) (status_told p lf q other k.table (Running 0))) ∙
        (λ i. record (woke there) { table = all_woken_woke chan (retold_table p lf d.table) i }))

    awake_call : (i j : KernelState S) → woke i ≡ woke j → woke (act i) ≡ woke (act j)
    awake_call i j is = sym (acted_woke q after i b false) ∙ ap (λ (m : KernelState S). woke (act m)) is ∙ acted_woke q after j b false

    there_by : (o : Option Object) → IsLet o → at (let_go_of (gave k) (Ok o)).table q ≡ Some y
    there_by None is = kept k.table p q _ other ∙ there
    there_by (Some object) is =
        let P : Object → Type 0 = λ o. at (let_go (gave k) o).table q ≡ Some y in
        subst P (sym is)
        (ap (λ (j : KernelState S). at j.table q) (let_go_end end id (gave k)) ∙ mapped (woken chan) refl (retold_table p lf k.table) q ∙ ap (woken chan) (kept k.table p q _ other ∙ there) ∙
        (λ i. Some (record y { status = woken_status chan (runs i) })) ∙ sym (λ i. Some (record y { status = runs i })))

    either_by : Comes → InEitherOrderAwake call next (both_events k) l p q
    either_by comes =
        let a_taken : after_turn call next k p ≡ Some (both_events k) = own k still h on_here in
        let a_still : IsStill (both_events k) = after_still call next k (both_events k) p still a_taken in
        let l_still : IsStill l = turn_still call next k q y false still there ready in
        let aa : AlikeAwake (act u) (act shut_told) = alike_awake (act u) (act shut_told) renamed_call in
        record {
          after = turned call next (both_events k) q y false;
          second = turn_is call next (both_events k) q y a_still (there_by last is_let) ready;
          both = both_events l;
          taken = own l l_still (turn_keeps call next k p q x y other h) l_on;
          between = record comes.kernel { events = l.events + 1 + 1 };
          alike = record {
            first = aa.first;
            second = aa.second;
            first_one_to_one = aa.first_one_to_one;
            second_one_to_one = aa.second_one_to_one;
            same = ap (idle_kernel aa.first 0) (awake_call (counted (given_0 (both_events k) q)) u (given_by last is_let)) ∙ aa.same ∙ ap (idle_kernel aa.second 0) comes.awake;
          };
          same = at_events comes.kernel (lets l) (l.events + 1 + 1) comes.same;
        }

module _ {S : Type 0} (end : PipeEnd) (call : S → Reply → Call) (next : S → Reply → S) where
  free_too : (k : KernelState S) (q : ℕ) (b : Call) → FindsFree k b → FindsFree (counted (given_0 k q)) b
  free_too k q Fork free = tt
  free_too k q (Exec found) free = tt
  free_too k q Exit free = tt
  free_too k q Wait free = tt
  free_too k q MakePipe free = free
  free_too k q (Read fd n) free = tt
  free_too k q (Write fd b) free = tt
  free_too k q (OpenFile name mode) free = free
  free_too k q (Close fd) free = tt
  free_too k q (Dup fd) free = tt

  module _ (k a l : KernelState S) (p q pipe : ℕ) (still : IsStill k) (agree : EndsAgree k.entries k.pipes) (fresh : (n : ℕ) → k.events < n → pipe_of k.pipes n ≡ None) (e : ClosesNext call next (λ o. o ≡ object_of end pipe) k p) (other : q ≢ p)
      (others : (fd d : ℕ) → entry_of (fds_at k q) fd ≡ Some d → d ≢ e.entry → IsNoEnd end pipe (entry_at k.entries d)) (first : after_turn call next k p ≡ Some a) (second : after_turn call next k q ≡ Some l) where
    abbrev x : Process S
    x = e.process

    pub its_close : Closes call next p x e.fd e.entry (object_of end pipe)
    its_close = record { calls = e.calls; holds = e.holds }

    pub h : Holds x (at k.table p)
    h = holds_itself x (at k.table p) e.there e.ready

    pub r : Ready (at k.table q)
    r = ready_slot (at k.table q) (could_turn call next k (record { pid = q; refused = false }) (l, second))

    abbrev y : Process S
    y = r.process

    pub runs : y.status ≡ Runnable
    runs = runnable_by y.status r.ready

    pub is_a : both_events end call next p x e.fd e.entry pipe its_close k ≡ a
    is_a =
        let both : Some (both_events end call next p x e.fd e.entry pipe its_close k) ≡ Some a = sym (own end call next p x e.fd e.entry pipe its_close k still h (subst (IsOpenOn (object_of end pipe)) (sym e.used) e.of)) ∙ first in
        cc

    pub is_l : turned call next k q y false ≡ l
    is_l =
        let both : Some (turned call next k q y false) ≡ Some l = sym (turn_is call next k q y still r.there r.ready) ∙ second in
        cc

    abbrev It : Type 0
    It = Comes end call next p x e.fd e.entry pipe its_close k q y other still h r.there runs e.file e.used e.of agree fresh others

    by_comes : It → InEitherOrderAwake call next a l p q
    by_comes comes =
        subst (λ (j : KernelState S). InEitherOrderAwake call next j l p q) is_a
        (subst (λ (j : KernelState S). InEitherOrderAwake call next (both_events end call next p x e.fd e.entry pipe its_close k) j p q) is_l
        (either_by end call next p x e.fd e.entry pipe its_close k q y other still h r.there runs e.file e.used e.of agree fresh others comes))

    -- if q reads of this pipe next, it can
    abbrev pub ReadsAny : Type 0
    ReadsAny = (z : Process S) (rd n i : ℕ) (f : Opened) → at k.table q ≡ Some z → call z.machine z.reply ≡ Read rd n → entry_of z.fds rd ≡ Some i → i ≢ e.entry → entry_at k.entries i ≡ Some f → f.object ≡ PipeRead pipe → CanRead end pipe k.pipes

    -- the close of an end, and another process's turn
    pub end_either : FindsFreeNext call next k q → (e.file.count ≤ 1 → ReadsAny) → InEitherOrderAwake call next a l p q
    end_either free can = by_comes (by_count (nat_le e.file.count 1) refl) where
      free_here : FindsFree (counted (given_0 k q)) (call y.machine y.reply)
      free_here = free_too k q (call y.machine y.reply) (free y r.there)

      closing : (b : Call) → call y.machine y.reply ≡ b → Closing b → It
      closing b is it = closing_comes end call next p x e.fd e.entry pipe its_close k q y other still h r.there runs e.file e.used e.of agree fresh others (subst Closing (sym is) it)

      keeping : 1 < e.file.count → (b : Call) → call y.machine y.reply ≡ b → ClosesNothing b → It
      keeping many b is it = shared_comes end call next p x e.fd e.entry pipe its_close k q y other still h r.there runs e.file e.used e.of agree fresh others (subst ClosesNothing (sym is) it) free_here many

      by_call : 1 < e.file.count → (b : Call) → call y.machine y.reply ≡ b → It
      by_call many Fork is = keeping many Fork is tt
      by_call many (Exec found) is = keeping many (Exec found) is tt
      by_call many Exit is = closing Exit is tt
      by_call many Wait is = keeping many Wait is tt
      by_call many MakePipe is = keeping many MakePipe is tt
      by_call many (Read fd n) is = keeping many (Read fd n) is tt
      by_call many (Write fd b) is = keeping many (Write fd b) is tt
      by_call many (OpenFile name mode) is = keeping many (OpenFile name mode) is tt
      by_call many (Close fd) is = closing (Close fd) is tt
      by_call many (Dup fd) is = keeping many (Dup fd) is tt

      by_count : (one : Bool) → nat_le e.file.count 1 ≡ one → It
      by_count true is =
          let one : e.file.count ≤ 1 = leb-true e.file.count 1 is in
          last_comes end call next p x e.fd e.entry pipe its_close k q y other still h r.there runs e.file e.used e.of agree fresh others one free_here (λ rd n i f. can one y rd n i f r.there)
      by_count false is = by_call (leb-false e.file.count 1 is) (call y.machine y.reply) refl
