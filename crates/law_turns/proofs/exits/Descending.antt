-- A process closes all its descriptors, and another process's turn: in either order, or the turn isn't needed.
use Rattle.std.proofs.Common.{◌≡◌, ◌≢◌, ◌⊎◌, ℕ, zero, suc, ◌+◌, ◌<◌, Bool, true, false, Option, Some, None, inl, inr, refl, sym, ap, subst, ◌∙◌}
use Rattle.std.proofs.Math.ListN.{set}
use Rattle.user_calls.specs.declared.calls.Call.{Call}
use Rattle.user_calls.specs.declared.calls.Call.TheVariants.{Fork, Exec, Exit, Wait, MakePipe, Read, Write, OpenFile, Close, Dup}
use Rattle.user_calls.specs.declared.calls.Reply.{Reply}
use Rattle.user_calls.specs.declared.calls.Reply.TheVariants.{Start, Child, Done, Bytes, Fd, Ends, Refused}
use Rattle.fd_table.specs.declared.names.Object.{Object}
use Rattle.fd_table.specs.declared.names.Object.TheVariants.{Input, Out, Diag, File, PipeRead, PipeWrite}
use Rattle.fd_table.specs.Entries.{OpenFile as Opened}
use Rattle.fd_table.specs.Descriptors.{Descriptors, entry_of}
use Rattle.proc_table.specs.declared.states.Status.TheVariants.{Runnable}
use Rattle.proc_table.specs.Slots.{Slot, Process, at}
use Rattle.proc_table.proofs.Changes.{written, kept}
use Rattle.kernel_model.specs.KernelState.{KernelState, fds_of, fds_at, file_at}
use Rattle.kernel_model.specs.Pipes.{pipe_of}
use Rattle.kernel_model.specs.Descriptors.{closed, closed_below}
use Rattle.law_kernel.specs.Ends.{EndsAgree}
use Rattle.kernel_model.specs.Alike.{IsStill}
use Rattle.kernel_model.specs.Anyhow.{AlikeAnyhow}
use Rattle.kernel_model.specs.Closes.{FindsFree, IsClosedAtOnce, NobodyElseWrites}
use Rattle.law_turns.proofs.private_turns.Staying.{Holds, holds_itself, in_own}
use Rattle.law_turns.proofs.private_turns.Turned.{turn_keeps}
use Rattle.law_turns.proofs.last_closes.Anyhow.{awake_anyhow}
use Rattle.law_turns.proofs.exits.Turned.{same_awake}
use Rattle.law_turns.proofs.exits.Exiting.{set_itself}
use Rattle.law_turns.proofs.exits.Touched.{touch, touches, touched_over, own_fds, closed_touched, closed_events, turned_touched, alike_closed}
use Rattle.law_turns.proofs.exits.Chains.{alike_on}
use Rattle.law_turns.proofs.exits.Fitting.{still_touched}
use Rattle.law_turns.proofs.exits.Leaving.{closed_none}
use Rattle.law_turns.proofs.exits.Stepping.{Fit, marks, acts, then_closed, Stepped, stepped, fits}

-- ---- a reply that another isn't

abbrev is_start : Reply → Bool
is_start Start = true
is_start Child = false
is_start Done = false
is_start (Bytes b) = false
is_start (Fd fd) = false
is_start (Ends reader writer) = false
is_start Refused = false

abbrev is_child : Reply → Bool
is_child Start = false
is_child Child = true
is_child Done = false
is_child (Bytes b) = false
is_child (Fd fd) = false
is_child (Ends reader writer) = false
is_child Refused = false

pub record Mark (r : Reply) : Type 0 where
  pub mark : Reply
  pub test : Reply → Bool
  pub yes : test mark ≡ true
  pub no : test r ≡ false

pub other_reply : (r : Reply) → Mark r
other_reply Start = record { mark = Child; test = is_child; yes = refl; no = refl }
other_reply Child = record { mark = Start; test = is_start; yes = refl; no = refl }
other_reply Done = record { mark = Start; test = is_start; yes = refl; no = refl }
other_reply (Bytes b) = record { mark = Start; test = is_start; yes = refl; no = refl }
other_reply (Fd fd) = record { mark = Start; test = is_start; yes = refl; no = refl }
other_reply (Ends reader writer) = record { mark = Start; test = is_start; yes = refl; no = refl }
other_reply Refused = record { mark = Start; test = is_start; yes = refl; no = refl }

-- ---- a slot that is touched twice

touch_again : {S : Type 0} (m n : S) (r s : Reply) (put more : ℕ) (x : Slot S) → touch m r put (touch n s more x) ≡ touch m r put x
touch_again m n r s put more None = refl
touch_again m n r s put more (Some y) = refl

pub touches_again : {S : Type 0} (m n : S) (r s : Reply) (put more p : ℕ) (k : KernelState S) → touches m r put p (touches n s more p k) ≡ touches m r put p k
touches_again m n r s put more p k = λ i. record k { table = touched_over m r put p (touch n s more) refl (touch_again m n r s put more) k.table i }

pub touches_itself : {S : Type 0} (x : Process S) (p : ℕ) (k : KernelState S) → Holds x (at k.table p) → touches x.machine x.reply x.put p k ≡ k
touches_itself x p k h =
    let same : touch x.machine x.reply x.put (at k.table p) ≡ at k.table p =
    ap (touch x.machine x.reply x.put) h.there ∙ (λ i. Some (record h.now { status = sym h.ready i; machine = sym h.machine i; reply = sym h.reply i; put = sym h.put i })) ∙ sym h.there in
    λ i. record k { table = (ap (set k.table p) same ∙ set_itself k.table p) i }

pub below_touched : {S : Type 0} (m : S) (r : Reply) (put p : ℕ) (k : KernelState S) (n : ℕ) → closed_below (touches m r put p k) p n ≡ touches m r put p (closed_below k p n)
unfolding closed_below
below_touched m r put p k zero = refl
below_touched m r put p k (suc n) = ap (λ (j : KernelState _). closed j p n) (below_touched m r put p k n) ∙ closed_touched m r put p (closed_below k p n) n

-- ---- the closes, one after the other

module _ {S : Type 0} (call : S → Reply → Call) (next : S → Reply → S) (p q : ℕ) (y : Process S) (other : q ≢ p) (c : Mark y.reply) (puts : (rd n : ℕ) → call y.machine y.reply ≡ Read rd n → y.put ≡ 0) where
  abbrev Fits : KernelState S → Type 0
  Fits k = Fit call next p q y other c.mark k

  abbrev marked : KernelState S → KernelState S
  marked k = marks call next p q y other c.mark k

  abbrev act : KernelState S → KernelState S
  act k = acts call next p q y other c.mark k

  fit_own : (k : KernelState S) (f : Fits k) → record f.own { status = Runnable; machine = y.machine; reply = c.mark; put = 0 } ≡ f.own
  fit_own k f =
      let both : Some (record f.own { status = Runnable; machine = y.machine; reply = c.mark; put = 0 }) ≡ Some f.own =
      sym (ap (touch y.machine c.mark 0) f.there) ∙ sym (written (touch y.machine c.mark 0) refl k.table p) ∙ ap (λ (j : KernelState S). at j.table p) f.normal ∙ f.there in
      cc

  pub fit_holds : (k : KernelState S) (f : Fits k) → Holds f.own (at k.table p)
  fit_holds k f = holds_itself f.own (at k.table p) f.there (sym (ap (λ (x : Process S). x.status) (fit_own k f)))

  act_normal : (k : KernelState S) → Fits k → marked (act k) ≡ act k
  act_normal k f = sym (turned_touched y.machine c.mark 0 p call next f.own k q y other (fit_holds k f)) ∙ ap act f.normal

  act_fds : (k : KernelState S) (f : Fits k) → fds_at (act k) p ≡ fds_at k p
  act_fds k f = let h = turn_keeps call next k p q f.own y other (fit_holds k f) in ap fds_of h.there ∙ h.fds ∙ sym (ap fds_of f.there)

  closed_normal : (k : KernelState S) (fd : ℕ) → marked k ≡ k → marked (closed k p fd) ≡ closed k p fd
  closed_normal k fd normal = sym (closed_touched y.machine c.mark 0 p k fd) ∙ ap (λ (j : KernelState S). closed j p fd) normal

  module _ (k0 : KernelState S) (fit0 : Fits k0) where
    -- p closes its first descriptors after q's turn
    abbrev last : ℕ → KernelState S
    last n = closed_below (act k0) p n

    last_normal : (n : ℕ) → marked (last n) ≡ last n
    last_normal n = sym (below_touched y.machine c.mark 0 p (act k0) n) ∙ ap (λ (j : KernelState S). closed_below j p n) (act_normal k0 fit0)

    -- p closed its first descriptors before q's turn, and what comes of both
    pub record Reached (n : ℕ) : Type 0 where
      pub kernel : KernelState S
      pub fit : Fits kernel
      pub same : record kernel { events = 0 } ≡ record (closed_below k0 p n) { events = 0 }
      pub joins : AlikeAnyhow (act kernel) (last n) ⊎ AlikeAnyhow kernel (last n)

    -- both close one more
    more : (j : KernelState S) (n : ℕ) → marked j ≡ j → AlikeAnyhow j (last n) → AlikeAnyhow (closed j p n) (closed (last n) p n)
    more j n normal a =
        subst (λ (i : KernelState S). AlikeAnyhow i (closed (last n) p n)) (closed_normal j n normal)
        (subst (λ (i : KernelState S). AlikeAnyhow (marked (closed j p n)) i) (closed_normal (last n) n (last_normal n)) (alike_closed y.machine c.mark 0 p j (last n) n a))

    module _ (n : ℕ) (r : Reached n) where
      abbrev k : KernelState S
      k = r.kernel

      same_closed : record (closed k p n) { events = 0 } ≡ record (closed (closed_below k0 p n) p n) { events = 0 }
      same_closed = sym (closed_events k 0 p n) ∙ ap (λ (j : KernelState S). closed j p n) r.same ∙ closed_events (closed_below k0 p n) 0 p n

      abbrev Next : Type 0
      Next = (kernel : KernelState S) × Fits kernel × (record kernel { events = 0 } ≡ record (closed (closed_below k0 p n) p n) { events = 0 }) × (AlikeAnyhow (act kernel) (closed (last n) p n) ⊎ AlikeAnyhow kernel (closed (last n) p n))

      -- a descriptor that isn't open
      none_more : entry_of (fds_at k p) n ≡ None → Next
      none_more none = (k, r.fit, ap (λ (j : KernelState S). record j { events = 0 }) (sym (closed_none k p n none)) ∙ same_closed, by r.joins) where
        by : AlikeAnyhow (act k) (last n) ⊎ AlikeAnyhow k (last n) → AlikeAnyhow (act k) (closed (last n) p n) ⊎ AlikeAnyhow k (closed (last n) p n)
        by (inl a) =
            inl (subst (λ (j : KernelState S). AlikeAnyhow j (closed (last n) p n)) (closed_none (act k) p n (ap (λ (f : Descriptors). entry_of f n) (act_fds k r.fit) ∙ none)) (more (act k) n (act_normal k r.fit) a))
        by (inr a) = inr (subst (λ (j : KernelState S). AlikeAnyhow j (closed (last n) p n)) (closed_none k p n none) (more k n r.fit.normal a))

      some_more : (e : ℕ) → entry_of (fds_at k p) n ≡ Some e → Next
      some_more e held = (then_closed call next p q y other c.mark c.test c.yes c.no puts k r.fit n e held, fits call next p q y other c.mark c.test c.yes c.no puts k r.fit n e held, same_closed, by r.joins s.joins) where
        s : Stepped call next p q y other c.mark c.test c.yes c.no puts k r.fit n e held
        s = stepped call next p q y other c.mark c.test c.yes c.no puts k r.fit n e held

        by : AlikeAnyhow (act k) (last n) ⊎ AlikeAnyhow k (last n)
            → AlikeAnyhow (act (record (closed r.kernel p n) { events = r.kernel.events + 1 + 1 })) (closed (act k) p n) ⊎ AlikeAnyhow (record (closed r.kernel p n) { events = r.kernel.events + 1 + 1 }) (closed (act k) p n)
            → AlikeAnyhow (act (record (closed r.kernel p n) { events = r.kernel.events + 1 + 1 })) (closed (last n) p n) ⊎ AlikeAnyhow (record (closed r.kernel p n) { events = r.kernel.events + 1 + 1 }) (closed (last n) p n)
        by (inl a) (inl b) = inl (alike_on _ (closed (act k) p n) (closed (last n) p n) s.upto s.names b (more (act k) n (act_normal k r.fit) a))
        by (inl a) (inr b) = inr (alike_on _ (closed (act k) p n) (closed (last n) p n) s.upto s.names b (more (act k) n (act_normal k r.fit) a))
        by (inr a) b =
            let it = more k n r.fit.normal a in
            inr (record { first = it.first; second = it.second; first_one_to_one = it.first_one_to_one; second_one_to_one = it.second_one_to_one; same = it.same })

      one_more : Next
      one_more = by (entry_of (fds_at k p) n) refl where
        by : (o : Option ℕ) → entry_of (fds_at k p) n ≡ o → Next
        by None none = none_more none
        by (Some e) held = some_more e held

    pub reach : (n : ℕ) → Reached n
    unfolding closed_below
    reach zero = record { kernel = k0; fit = fit0; same = refl; joins = inl (awake_anyhow (act k0) (act k0) (same_awake (act k0) (act k0) refl)) }
    reach (suc n) = let s = one_more n (reach n) in record { kernel = s.0; fit = s.1; same = s.2; joins = s.3 }

-- ---- the start

module _ {S : Type 0} (call : S → Reply → Call) (next : S → Reply → S) (p q : ℕ) (x y : Process S) (other : q ≢ p) (mark : Reply) (k : KernelState S) (still : IsStill k) (agree : EndsAgree k.entries k.pipes) (fresh : (n : ℕ) → k.events < n → pipe_of k.pipes n ≡ None)
    (there : at k.table p ≡ Some x) (at_q : Holds y (at k.table q)) (once : (fd : ℕ) (file : Opened) → file_at k.entries (entry_of x.fds fd) ≡ Some file → IsClosedAtOnce k p file.object) (free : FindsFree k (call y.machine y.reply)) where
  abbrev k0 : KernelState S
  k0 = touches y.machine mark 0 p k

  free_here : (b : Call) → FindsFree k b → FindsFree k0 b
  free_here Fork f = tt
  free_here (Exec is_found) f = tt
  free_here Exit f = tt
  free_here Wait f = tt
  free_here MakePipe f = f
  free_here (Read fd n) f = tt
  free_here (Write fd b) f = tt
  free_here (OpenFile name mode) f = f
  free_here (Close fd) f = tt
  free_here (Dup fd) f = tt

  nobody_here : (id : ℕ) → NobodyElseWrites k id p → NobodyElseWrites k0 id p
  nobody_here id nobody r fd f ne is = nobody r fd f ne (ap (λ (z : Slot S). file_at k.entries (entry_of (fds_of z) fd)) (sym (kept k.table p r (touch y.machine mark 0 (at k.table p)) ne)) ∙ is)

  once_here : (object : Object) → IsClosedAtOnce k p object → IsClosedAtOnce k0 p object
  once_here Input is = tt
  once_here Out is = tt
  once_here Diag is = tt
  once_here (File name mode) is = tt
  once_here (PipeRead id) nobody = nobody_here id nobody
  once_here (PipeWrite id) is = tt

  pub fit_start : Fit call next p q y other mark k0
  fit_start =
      let fds : fds_at k0 p ≡ x.fds = own_fds y.machine mark 0 p k ∙ ap fds_of there in
      record {
        still = still_touched y.machine mark 0 p k x there still;
        agree = agree;
        fresh = fresh;
        holds = in_own y q p (λ is. other (sym is)) k.table (touch y.machine mark 0 (at k.table p)) at_q;
        own = record x { status = Runnable; machine = y.machine; reply = mark; put = 0 };
        there = written (touch y.machine mark 0) refl k.table p ∙ ap (touch y.machine mark 0) there;
        normal = touches_again y.machine y.machine mark mark 0 0 p k;
        once = λ fd file is. once_here file.object (once fd file (ap (λ (d : Descriptors). file_at k.entries (entry_of d fd)) (sym fds) ∙ is));
        free = free_here (call y.machine y.reply) free;
      }
