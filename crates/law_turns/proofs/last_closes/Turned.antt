-- A turn that closes a descriptor, and any other process's turn.
use Rattle.std.proofs.Common.{◌≡◌, ◌≢◌, ℕ, ◌+◌, ◌<◌, ◌≤◌, true, false, Option, Some, None, List, ◌∷◌, ◌++◌, length, refl, sym, ap, subst, ◌∙◌, arith}
use Rattle.std.proofs.Math.ListN.{set, length-set}
use Rattle.std.specs.Prelude.{count_by}
use Rattle.user_calls.specs.declared.calls.Call.{Call}
use Rattle.user_calls.specs.declared.calls.Call.TheVariants.{Fork, Exec, Exit, Wait, MakePipe, Read, Write, OpenFile, Close, Dup}
use Rattle.user_calls.specs.declared.calls.Reply.{Reply}
use Rattle.user_calls.specs.declared.calls.Reply.TheVariants.{Done}
use Rattle.fd_table.specs.declared.names.Object.{Object}
use Rattle.fd_table.specs.Entries.{OpenFile as Opened, entry_at, count_of, released, released}
use Rattle.fd_table.specs.Descriptors.{Descriptors, entry_of, holders_in, close_answer}
use Rattle.proc_table.specs.declared.states.Status.TheVariants.{Running}
use Rattle.proc_table.specs.Slots.{Slot, Table, Process, at, is_free, is_zombie, is_running, is_runnable_status}
use Rattle.proc_table.specs.Calls.{dispatched, with_status, with_fds, fds_set, made_ready, readied}
use Rattle.proc_table.proofs.Changes.{written, kept}
use Rattle.kernel_model.specs.KernelState.{KernelState, fds_of, fds_at}
use Rattle.kernel_model.specs.Replies.{answered}
use Rattle.kernel_model.specs.Sound.{IsSound, tables}
use Rattle.kernel_model.specs.Descriptors.{taken_away, closed_by, close_reply}
use Rattle.kernel_model.specs.Events.{acted, counted}
use Rattle.kernel_model.proofs.Keeps.{mid, slot_sound}
use Rattle.kernel_model.proofs.Offsets.{released_small}
use Rattle.fd_table.proofs.Counting.{release_kept}
use Rattle.fd_table.specs.Holders.{CountHolders, HasHolders, holders}
use Rattle.proc_table.proofs.Counts.{used_within}
use Rattle.law_turns.proofs.private_turns.Holders.{holds_one, is_open, two_holders}
use Rattle.kernel_model.specs.Idle.{idle_kernel}
use Rattle.kernel_model.specs.Alike.{Alike, IsStill, HasNamesUpTo}
use Rattle.kernel_model.specs.Turns.{after_turn}
use Rattle.law_kernel.proofs.outcomes.Outcomes.{every_call_ends}
use Rattle.law_turns.proofs.orders.Entries.{closed_renamed}
use Rattle.law_turns.proofs.orders.Names.{acted_alike}
use Rattle.law_turns.proofs.orders.Follow.{after_turn as turned, given_0, turn_still, given_names}
use Rattle.law_turns.proofs.orders.Back.{could_turn}
use Rattle.law_turns.proofs.orders.Turning.{relike}
use Rattle.law_turns.proofs.orders.Booted.{alike_itself}
use Rattle.law_turns.specs.Retold.{Left, retold_slot, retold_table, retold}
use Rattle.law_turns.proofs.private_turns.Unseen.{status_told}
use Rattle.law_turns.proofs.private_turns.Unheard.{acted_told}
use Rattle.law_turns.proofs.private_turns.Staying.{Holds, holds_itself, holds_alive, in_own}
use Rattle.law_turns.proofs.private_turns.Begun.{after_still}
use Rattle.law_turns.proofs.private_turns.Shared.{given_sound, given_runs}
use Rattle.law_turns.proofs.private_turns.Turned.{set_twice, idle_told, turn_is, turn_keeps, ready_slot}
use Rattle.kernel_model.specs.Numbers.{SameButNumbers}
use Rattle.kernel_model.specs.Closes.{IsPlain, FindsFree, FindsFreeNext, ClosesNext}
use Rattle.law_turns.specs.Either.{InEitherOrder}
use Rattle.law_turns.proofs.last_closes.Closing.{HasPlain, no_trace_of}
use Rattle.law_turns.proofs.last_closes.Objects.{IsOpenOn, outcome_on}
use Rattle.law_turns.proofs.last_closes.Acted.{CanLose, CanGoBy, goes_by, acted_lost}

pub at_events : {S : Type 0} (k l : KernelState S) (n : ℕ) → SameButNumbers k l → SameButNumbers (record k { events = n }) (record l { events = n })
at_events k l n a = record { numbering = a.numbering; is = record { entries = a.is.entries; rest = ap (λ (j : KernelState _). record j { events = n }) a.is.rest } }

module _ {S : Type 0} (call : S → Reply → Call) (next : S → Reply → S) (p : ℕ) (x : Process S) (fd e : ℕ) (object : Object) where
  abbrev pub left : Left S
  left = record { machine = next x.machine x.reply; reply = Done; fds = set x.fds fd None; put = 0 }

  -- p's slot once it closed the descriptor
  pub slot_left : (y : Slot S) → Holds x y → made_ready (next x.machine x.reply) Done (with_fds (set x.fds fd None) (with_status (Running 0) y)) ≡ retold_slot left y
  slot_left y h =
      ap (λ (z : Slot S). made_ready (next x.machine x.reply) Done (with_fds (set x.fds fd None) (with_status (Running 0) z))) h.there ∙
      (λ i. Some (record h.now { status = sym h.ready i; machine = next x.machine x.reply; reply = Done; fds = set x.fds fd None; put = 0 })) ∙ sym (ap (retold_slot left) h.there)

  pub table_left : (t : Table S) → Holds x (at t p) → readied (fds_set (dispatched t p 0) p (set x.fds fd None)) p (next x.machine x.reply) Done ≡ retold_table p left t
  table_left t h =
      let a : Slot S = with_status (Running 0) (at t p) in
      let u : Table S = dispatched t p 0 in
      let fds = set x.fds fd None in
      ap (λ (y : Slot S). set (fds_set u p fds) p (made_ready (next x.machine x.reply) Done y)) (written (with_fds fds) refl u p ∙ ap (with_fds fds) (written (with_status (Running 0)) refl t p)) ∙
      set_twice u p (with_fds fds (at u p)) (made_ready (next x.machine x.reply) Done (with_fds fds a)) ∙ set_twice t p a (made_ready (next x.machine x.reply) Done (with_fds fds a)) ∙ ap (λ (y : Slot S). set t p y) (slot_left (at t p) h)

  -- what the turn comes to, and with its two events
  abbrev pub given_up : KernelState S → KernelState S
  given_up k = record (retold p left k) { entries = released k.entries e }

  abbrev pub gives_up : KernelState S → KernelState S
  gives_up k = record (given_up k) { events = k.events + 1 + 1 }

  -- the process closes it
  pub record Closes : Type 0 where
    pub calls : call x.machine x.reply ≡ Close fd
    pub holds : entry_of x.fds fd ≡ Some e

  module _ (c : Closes) where
    plain_on : IsPlain object → (k : KernelState S) → IsOpenOn object (entry_at k.entries e) → HasPlain (entry_at k.entries e)
    plain_on plain k on = by (entry_at k.entries e) on where
      by : (o : Option Opened) → IsOpenOn object o → HasPlain o
      by None is = tt
      by (Some f) is = subst IsPlain (sym is) plain

    own : IsPlain object → (l : KernelState S) → IsStill l → Holds x (at l.table p) → IsOpenOn object (entry_at l.entries e) → after_turn call next l p ≡ Some (gives_up l)
    own plain l still h on =
        let d : KernelState S = counted (given_0 l p) in
        let own_fds : fds_at d p ≡ x.fds = ap fds_of (written (with_status (Running 0)) refl l.table p) ∙ ap (λ (y : Slot S). fds_of (with_status (Running 0) y)) h.there ∙ h.fds in
        let entry : entry_of (fds_at d p) fd ≡ Some e = ap (λ (f : Descriptors). entry_of f fd) own_fds ∙ c.holds in
        turn_is call next l p h.now still h.there (ap is_runnable_status h.ready) ∙
        ap Some ((λ i. acted d p (next (h.machine i) (h.reply i)) (call (h.machine i) (h.reply i)) false) ∙ ap (λ (b : Call). acted d p (next x.machine x.reply) b false) c.calls ∙
        (λ i. answered (closed_by d p fd (entry i)) p (next x.machine x.reply) (close_reply (close_answer d.entries (entry i)))) ∙
        ap (λ (j : KernelState S). answered j p (next x.machine x.reply) Done) (no_trace_of e p (taken_away d p fd (Some e)) (entry_at d.entries e) (plain_on plain l on)) ∙
        (λ i. record d { table = readied (fds_set d.table p (set (own_fds i) fd None)) p (next x.machine x.reply) Done; entries = released d.entries e }) ∙
        (λ i. record d { table = table_left l.table h i; entries = released d.entries e }))

    pub names_given : (n : ℕ) (k : KernelState S) → HasNamesUpTo n k → HasNamesUpTo n (given_up k)
    names_given n k names f g one two agree =
        (λ i. record (idle_kernel f 0 k) { table = idle_told p left f k.table i; entries = sym (closed_renamed f k.entries (Some e)) i }) ∙ ap given_up (names f g one two agree) ∙
        sym (λ i. record (idle_kernel g 0 k) { table = idle_told p left g k.table i; entries = sym (closed_renamed g k.entries (Some e)) i })

    -- ---- another process's call

    module _ (q : ℕ) (other : q ≢ p) (d : KernelState S) (h : Holds x (at d.table p)) (sound : IsSound d.table d.entries) (runs : is_running (at d.table q) ≡ true) (file : Opened) (used : entry_at d.entries e ≡ Some file) (on : file.object ≡ object) where
      -- a closed descriptor leaves counts right
      pub sound_given : IsSound (retold_table p left d.table) (released d.entries e)
      sound_given =
          let fds : fds_of (at d.table p) ≡ x.fds = ap fds_of h.there ∙ h.fds in
          let now : fds_of (retold_slot left (at d.table p)) ≡ set x.fds fd None = ap (λ (y : Slot S). fds_of (retold_slot left y)) h.there in
          slot_sound d.table p (retold_slot left (at d.table p)) d.entries (released d.entries e) (used_within d.table p h.now h.there) step
          (ap length now ∙ length-set x.fds fd None ∙ sym (ap length fds) ∙ sound.places p) alive (released_small d.entries (Some e) sound.offsets) sound where
            step : (before later : List Descriptors) → CountHolders d.entries (before ++ fds_of (at d.table p) ∷ later) → CountHolders (released d.entries e) (before ++ fds_of (retold_slot left (at d.table p)) ∷ later)
            step before later counts =
                let fds : fds_of (at d.table p) ≡ x.fds = ap fds_of h.there ∙ h.fds in
                subst (λ (f : Descriptors). CountHolders (released d.entries e) (before ++ f ∷ later)) (sym (ap (λ (y : Slot S). fds_of (retold_slot left y)) h.there))
                (release_kept d.entries before later x.fds fd e c.holds (subst (λ (f : Descriptors). CountHolders d.entries (before ++ f ∷ later)) fds counts))

            alive : is_zombie (retold_slot left (at d.table p)) ≡ false
            alive = ap (λ (y : Slot S). is_zombie (retold_slot left y)) h.there ∙ sym (ap is_zombie h.there) ∙ holds_alive x (at d.table p) h

      -- more descriptors hold the entry than q's
      pub more_hold : holders_in (fds_at (retold p left d) q) e < count_of (entry_at d.entries e)
      more_hold =
          let fds : fds_at (retold p left d) q ≡ fds_at d q = ap fds_of (kept d.table p q (retold_slot left (at d.table p)) other) in
          let mine : 1 ≤ holders_in (fds_at d p) e = holds_one (fds_at d p) fd e (ap (λ (f : Descriptors). entry_of f fd) (ap fds_of h.there ∙ h.fds) ∙ c.holds) in
          let theirs : holders_in (fds_at (retold p left d) q) e ≡ holders_in (fds_at d q) e = ap (λ (f : Descriptors). holders_in f e) fds in
          let counted : HasHolders (Some file) (holders (tables d.table) e) = subst (λ (o : Option Opened). HasHolders o (holders (tables d.table) e)) used (sound.counts e) in
          omega (arith, mine, theirs, counted.0, ap count_of used, two_holders e d.table p q (λ is. other (sym is)))

      can_lose : CanLose e q (retold p left d)
      can_lose =
          record {
            file = file;
            used = used;
            shared = λ some. omega (arith, some, more_hold);
            running = count_by is_running (retold_table p left d.table);
            mid = mid (retold_table p left d.table) (released d.entries e) q sound_given (ap is_running (kept d.table p q (retold_slot left (at d.table p)) other) ∙ runs);
          }

      pub acted_given : (after : S) (b : Call) → CanGoBy e q (retold p left d) b → FindsFree d b → SameButNumbers (acted (given_up d) q after b false) (given_up (acted d q after b false))
      acted_given after b go free =
          subst (λ (j : KernelState S). SameButNumbers (acted (given_up d) q after b false) (record j { entries = released j.entries e })) (acted_told p left q other after d b false (ap is_free h.there) (holds_alive x (at d.table p) h))
          (acted_lost e q after (retold p left d) b false can_lose go (free_too b free)) where
            free_too : (b : Call) → FindsFree d b → FindsFree (retold p left d) b
            free_too Fork free = tt
            free_too (Exec found) free = tt
            free_too Exit free = tt
            free_too Wait free = tt
            free_too MakePipe free = free
            free_too (Read fd n) free = tt
            free_too (Write fd b) free = tt
            free_too (OpenFile name mode) free = free
            free_too (Close fd) free = tt
            free_too (Dup fd) free = tt

    -- ---- both orders

    either_by : IsPlain object → (k : KernelState S) (q : ℕ) (y : Process S) → q ≢ p → IsStill k → Holds x (at k.table p) → at k.table q ≡ Some y → is_runnable_status y.status ≡ true → (file : Opened) → entry_at k.entries e ≡ Some file → file.object ≡ object
        → FindsFree k (call y.machine y.reply) → InEitherOrder call next (gives_up k) (turned call next k q y false) p q
    either_by plain k q y other still h there ready file used on free =
        let l : KernelState S = turned call next k q y false in
        let d : KernelState S = counted (given_0 k q) in
        let act : KernelState S → KernelState S = λ j. acted j q (next y.machine y.reply) (call y.machine y.reply) false in
        let l_still : IsStill l = turn_still call next k q y false still there ready in
        let l_holds : Holds x (at l.table p) = turn_keeps call next k p q x y other h in
        let l_on : IsOpenOn object (entry_at l.entries e) = outcome_on object e q d (next y.machine y.reply) (call y.machine y.reply) l (record { file = file; used = used; on = on }) (every_call_ends d q (next y.machine y.reply) (call y.machine y.reply) false) in
        let a : KernelState S = gives_up k in
        let a_taken : after_turn call next k p ≡ Some a = own plain k still h (subst (IsOpenOn object) (sym used) on) in
        let a_still : IsStill a = after_still call next k a p still a_taken in
        let a_there : at a.table q ≡ Some y = kept k.table p q (retold_slot left (at k.table p)) other ∙ there in
        let d_holds : Holds x (at d.table p) = in_own x p q other k.table _ h in
        let names : HasNamesUpTo k.events (given_up d) = names_given k.events d (given_names call next k q y false still there ready) in
        let later : KernelState S = record (given_up d) { events = k.events + 1 + 1 + 1 + 1 } in
        let given : counted (given_0 a q) ≡ later = λ i. record (counted (given_0 a q)) { table = status_told p left q other k.table (Running 0) i } in
        let alike : Alike (act later) (act (given_up d)) =
        acted_alike later (given_up d) k.events k.events q (next y.machine y.reply) (call y.machine y.reply) false names names (omega arith) (omega arith) (relike (given_up d) later (given_up d) (given_up d) (alike_itself (given_up d)) refl refl) in
        let same : SameButNumbers (act (given_up d)) (given_up l) =
        acted_given q other d d_holds (given_sound call next k q y still there ready) (given_runs k q y there) file used on (next y.machine y.reply) (call y.machine y.reply)
        (goes_by e q (retold p left d) (call y.machine y.reply) (λ gd held. plain_on plain d (subst (IsOpenOn object) (sym used) on))) free in
        record {
          after = turned call next a q y false;
          second = turn_is call next a q y a_still a_there ready;
          both = gives_up l;
          taken = own plain l l_still l_holds l_on;
          between = record (act (given_up d)) { events = l.events + 1 + 1 };
          alike = relike (act later) (turned call next a q y false) (act (given_up d)) (record (act (given_up d)) { events = l.events + 1 + 1 }) alike (ap (λ (j : KernelState S). idle_kernel alike.first 0 (act j)) given) refl;
          same = at_events (act (given_up d)) (given_up l) (l.events + 1 + 1) same;
        }

module _ {S : Type 0} (call : S → Reply → Call) (next : S → Reply → S) (kind : Object → Type 0) where
  -- what q's turn leaves to p, which closes the descriptor
  stays_by : (l : KernelState S) (p : ℕ) (x : Process S) (fd e : ℕ) (object : Object) → Closes call next p x fd e object → kind object → IsStill l → Holds x (at l.table p) → IsOpenOn object (entry_at l.entries e) → ClosesNext call next kind l p
  stays_by l p x fd e object c of still h on =
      let o = is_open e l.table l.entries still.sound p 1 x h (omega arith) (holds_one x.fds fd e c.holds) in
      let same : o.0.object ≡ object = subst (IsOpenOn object) o.1 on in
      record {
        process = h.now;
        there = h.there;
        ready = h.ready;
        fd = fd;
        calls = (λ i. call (h.machine i) (h.reply i)) ∙ c.calls;
        entry = e;
        holds = ap (λ (f : Descriptors). entry_of f fd) h.fds ∙ c.holds;
        file = o.0;
        used = o.1;
        of = subst kind (sym same) of;
      }

  -- p still closes it after any turn of another process
  pub close_stays : (k l : KernelState S) (p q : ℕ) → IsStill k → ClosesNext call next kind k p → q ≢ p → after_turn call next k q ≡ Some l → ClosesNext call next kind l p
  close_stays k l p q still e other second =
      let x : Process S = e.process in
      let c : Closes call next p x e.fd e.entry e.file.object = record { calls = e.calls; holds = e.holds } in
      let h = holds_itself x (at k.table p) e.there e.ready in
      let r = ready_slot (at k.table q) (could_turn call next k (record { pid = q; refused = false }) (l, second)) in
      let y : Process S = r.process in
      let d : KernelState S = counted (given_0 k q) in
      let now : KernelState S = turned call next k q y false in
      let own_l : Some now ≡ Some l = sym (turn_is call next k q y still r.there r.ready) ∙ second in
      let is_l : now ≡ l = cc in
      let on : IsOpenOn e.file.object (entry_at now.entries e.entry) =
      outcome_on e.file.object e.entry q d (next y.machine y.reply) (call y.machine y.reply) now (record { file = e.file; used = e.used; on = refl }) (every_call_ends d q (next y.machine y.reply) (call y.machine y.reply) false) in
      subst (λ (j : KernelState S). ClosesNext call next kind j p) is_l
      (stays_by now p x e.fd e.entry e.file.object c e.of (turn_still call next k q y false still r.there r.ready) (turn_keeps call next k p q x y other h) on)

module _ {S : Type 0} (call : S → Reply → Call) (next : S → Reply → S) where
  -- a turn that closes what is no pipe's end, and another process's turn
  pub plain_either : (k a l : KernelState S) (p q : ℕ) → IsStill k → ClosesNext call next IsPlain k p → q ≢ p → FindsFreeNext call next k q → after_turn call next k p ≡ Some a → after_turn call next k q ≡ Some l → InEitherOrder call next a l p q
  plain_either k a l p q still e other free first second =
      let x : Process S = e.process in
      let c : Closes call next p x e.fd e.entry e.file.object = record { calls = e.calls; holds = e.holds } in
      let h = holds_itself x (at k.table p) e.there e.ready in
      let r = ready_slot (at k.table q) (could_turn call next k (record { pid = q; refused = false }) (l, second)) in
      let own_a : Some (gives_up call next p x e.fd e.entry e.file.object k) ≡ Some a = sym (own call next p x e.fd e.entry e.file.object c e.of k still h (subst (IsOpenOn e.file.object) (sym e.used) refl)) ∙ first in
      let is_a : gives_up call next p x e.fd e.entry e.file.object k ≡ a = cc in
      let own_l : Some (turned call next k q r.process false) ≡ Some l = sym (turn_is call next k q r.process still r.there r.ready) ∙ second in
      let is_l : turned call next k q r.process false ≡ l = cc in
      subst (λ (j : KernelState S). InEitherOrder call next j l p q) is_a
      (subst (λ (j : KernelState S). InEitherOrder call next (gives_up call next p x e.fd e.entry e.file.object k) j p q) is_l
      (either_by call next p x e.fd e.entry e.file.object c e.of k q r.process other still h r.there r.ready e.file e.used refl (free r.process r.there)))
