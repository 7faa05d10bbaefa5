-- One descriptor less holds an end of a pipe, which is closed if no other one does: a close and an exit of another process come to the
-- same before and after that, but for who sleeps.
use Rattle.std.proofs.Common.{◌≡◌, ◌≢◌, ◌⊎◌, ℕ, zero, suc, ◌+◌, ◌-◌, ◌<◌, ◌≤◌, Bool, true, false, Option, Some, None, inl, inr, refl, sym, ap, subst, ◌∙◌, arith, get_or-set_other}
use Rattle.std.proofs.Math.ListN.{set}
use Rattle.std.proofs.lemmas.Bool.{cases_eq, lt-leb, eq-eqb}
use Rattle.std.proofs.lemmas.List.Sums.{sum_by-set}
use Rattle.std.specs.Prelude.{if◌then◌else◌, nat_le, ◌==◌, cond, Ok}
use Rattle.user_calls.specs.declared.calls.Call.{Call}
use Rattle.user_calls.specs.declared.calls.Call.TheVariants.{Fork, Exec, Exit, Wait, MakePipe, Read, Write, OpenFile, Close, Dup}
use Rattle.user_calls.specs.declared.calls.Reply.{Reply}
use Rattle.user_calls.specs.declared.calls.Reply.TheVariants.{Refused}
use Rattle.fd_table.specs.declared.names.Object.{Object}
use Rattle.fd_table.specs.declared.descriptors.TheConstants.{DESCRIPTORS}
use Rattle.fd_table.specs.Entries.{OpenFile as Opened, Entries, entry_at, count_of, less_held, last_object, released}
use Rattle.fd_table.specs.Descriptors.{Descriptors, entry_of, is_entry, holders_in, after_close, close_answer}
use Rattle.fd_table.proofs.Lists.{within_list}
use Rattle.proc_table.specs.Slots.{Slot, at}
use Rattle.proc_table.specs.Calls.{with_fds}
use Rattle.proc_table.proofs.Changes.{written}
use Rattle.kernel_model.specs.KernelState.{KernelState, fds_of, fds_at}
use Rattle.kernel_model.specs.Replies.{answered}
use Rattle.kernel_model.specs.Descriptors.{let_go, let_go_of, taken_away, closed_by, closed, closed_below, close, close_reply}
use Rattle.kernel_model.specs.Processes.{ended}
use Rattle.kernel_model.specs.Events.{acted}
use Rattle.kernel_model.specs.Woke.{woke}
use Rattle.law_kernel.specs.Ends.{AreApart}
use Rattle.law_turns.proofs.private_turns.Holders.{holds_one, free_holds_none}
use Rattle.law_turns.proofs.private_turns.Woken.{exited_told}
use Rattle.law_turns.proofs.private_turns.Wakes.{unseen, closed_told, answering}
use Rattle.law_turns.proofs.entry_numbers.Entries.{changed_entry}
use Rattle.law_turns.proofs.last_closes.Losing.{lost}
use Rattle.law_turns.proofs.last_closes.Closing.{away_lost, closed_other_lost, let_go_entries, let_go_fds, held_before, reply_lost}
use Rattle.law_turns.proofs.last_closes.Objects.{IsOpenOn, closed_on}
use Rattle.law_turns.proofs.write_ends.Ends.{PipeEnd, object_of, channel_of, IsNoEnd, let_go_end}
use Rattle.law_turns.proofs.write_ends.Cutting.{cut, IsCut, closed_by_cut, let_go_of_apart, no_end_released}

-- the call closes something
abbrev pub Closing : Call → Type 0
Closing Fork = ⊥
Closing (Exec found) = ⊥
Closing Exit = Unit {0}
Closing Wait = ⊥
Closing MakePipe = ⊥
Closing (Read fd n) = ⊥
Closing (Write fd b) = ⊥
Closing (OpenFile name mode) = ⊥
Closing (Close fd) = Unit {0}
Closing (Dup fd) = ⊥

-- ---- one entry

-- what the last holder lets go, if anything, is this object
abbrev pub IsLastOn : Object → Option Object → Type 0
IsLastOn object None = Unit {0}
IsLastOn object (Some last) = last ≡ object

last_if : (object : Object) (b : Bool) (f : Opened) → f.object ≡ object → IsLastOn object (if b then Some f.object else None)
last_if object true f is = is
last_if object false f is = tt

pub last_on : (object : Object) (x : Option Opened) → IsOpenOn object x → IsLastOn object (last_object x)
last_on object None is = tt
last_on object (Some f) is = last_if object (nat_le f.count 1) f is

pub shared_is_not_last : (x : Option Opened) → 1 < count_of x → last_object x ≡ None
shared_is_not_last None many = refl
shared_is_not_last (Some f) many = ap (λ (b : Bool). if b then Some f.object else None) (lt-leb f.count 1 many)

one_less : (x : Option Opened) → 1 < count_of x → count_of (less_held x) + 1 ≡ count_of x
one_less None many = absurd (omega (arith, many))
one_less (Some f) many =
    ap (λ (b : Bool). count_of (if b then None else Some (record { object = f.object; count = f.count - 1; offset = f.offset })) + 1) (lt-leb f.count 1 many) ∙ omega (arith, many)

pub freed_with_last : (x : Option Opened) (object : Object) → last_object x ≡ Some object → less_held x ≡ None
freed_with_last None object is = refl
freed_with_last (Some f) object is = by (nat_le f.count 1) is where
  by : (b : Bool) → (if b then Some f.object else None) ≡ Some object → let left : Option Opened = if b then None else Some (record { object = f.object; count = f.count - 1; offset = f.offset }) in left ≡ None
  by true it = refl
  by false it = absurd (let z : ⊥ = cc in z)

-- ---- how many places of a process hold it

holders_less : (fds : Descriptors) (fd d e : ℕ) → entry_of fds fd ≡ Some d → holders_in (set fds fd None) e ≤ holders_in fds e
holders_less fds fd d e held =
    omega (arith, sum_by-set (λ (x : Option ℕ). cond {A = ℕ} (is_entry e x) 1 0) fds fd None None (within_list fds fd d held))

own_holder_less : (fds : Descriptors) (fd e : ℕ) → entry_of fds fd ≡ Some e → holders_in (set fds fd None) e + 1 ≡ holders_in fds e
own_holder_less fds fd e held =
    omega (
      arith,
      sum_by-set (λ (x : Option ℕ). cond {A = ℕ} (is_entry e x) 1 0) fds fd None None (within_list fds fd e held),
      ap (λ (x : Option ℕ). cond {A = ℕ} (is_entry e x) 1 0) held ∙ ap (λ (b : Bool). cond {A = ℕ} b 1 0) (eq-eqb e e refl),
    )

module _ {S : Type 0} (end : PipeEnd) (id e pid : ℕ) where
  abbrev L : KernelState S → KernelState S
  L k = lost e pid k

  -- with this last object, if there is one, the end is closed
  abbrev pub shut_by : KernelState S → Option Object → KernelState S
  shut_by k None = L k
  shut_by k (Some object) = cut end id pid (L k)

  -- one descriptor less holds the entry, and with the last one the end is closed; and then whoever sleeps there is woken
  abbrev pub shut : KernelState S → KernelState S
  shut k = shut_by k (last_object (entry_at k.entries e))

  abbrev pub gone : KernelState S → KernelState S
  gone k = let_go_of (L k) (Ok (last_object (entry_at k.entries e)))

  pub let_go_shut : (j : KernelState S) (object : Object) → object ≡ object_of end id → woke (let_go j object) ≡ woke (cut end id pid j)
  let_go_shut j object is =
      ap (λ (o : Object). woke (let_go j o)) is ∙ ap woke (let_go_end end id j) ∙ unseen pid (cut end id pid j) (channel_of end id)

  pub gone_shut_by : (k : KernelState S) (o : Option Object) → IsLastOn (object_of end id) o → woke (let_go_of (L k) (Ok o)) ≡ woke (shut_by k o)
  gone_shut_by k None is = refl
  gone_shut_by k (Some object) is = let_go_shut (L k) object is

  pub gone_shut : (k : KernelState S) → IsOpenOn (object_of end id) (entry_at k.entries e) → woke (gone k) ≡ woke (shut k)
  gone_shut k on = gone_shut_by k (last_object (entry_at k.entries e)) (last_on (object_of end id) (entry_at k.entries e) on)

  -- the entry is the pipe's end, pid holds no other end with which it would see the close, and more than pid hold it
  pub record IsHeld (k : KernelState S) : Type 0 where
    pub on : IsOpenOn (object_of end id) (entry_at k.entries e)
    pub others : (fd d : ℕ) → entry_of (fds_at k pid) fd ≡ Some d → d ≢ e → IsNoEnd end id (entry_at k.entries d)
    pub apart : AreApart k.pipes
    pub more : holders_in (fds_at k pid) e < count_of (entry_at k.entries e)

  -- ---- a close

  module _ (k : KernelState S) (h : IsHeld k) where
    abbrev last : Option Object
    last = last_object (entry_at k.entries e)

    pub is_cut : (object : Object) → last ≡ Some object → IsCut end id pid (L k)
    is_cut object is = record { none = λ fd d held. by fd d held (cases_eq d e); apart = h.apart } where
      by : (fd d : ℕ) → entry_of (fds_at k pid) fd ≡ Some d → (d ≡ e) ⊎ (d ≢ e) → IsNoEnd end id (entry_at (released k.entries e) d)
      by fd d held (inl same) =
          subst (λ (i : ℕ). IsNoEnd end id (entry_at (released k.entries e) i)) (sym same) (subst (IsNoEnd end id) (sym (changed_entry less_held refl k.entries e ∙ freed_with_last (entry_at k.entries e) object is)) tt)
      by fd d held (inr ne) = subst (IsNoEnd end id) (sym (get_or-set_other k.entries e d (less_held (entry_at k.entries e)) None ne)) (h.others fd d held ne)

    module _ (fd d : ℕ) (held : entry_of (fds_at k pid) fd ≡ Some d) (ne : d ≢ e) where
      other_by : (o : Option Object) → last ≡ o → closed_by (shut_by k o) pid fd (Some d) ≡ shut_by (closed_by k pid fd (Some d)) o
      other_by None is = closed_other_lost e pid k fd d ne
      other_by (Some object) is = closed_by_cut end id pid (L k) fd (Some d) held (is_cut object is) ∙ ap (cut end id pid) (closed_other_lost e pid k fd d ne)

      last_kept : last ≡ last_object (entry_at (closed_by k pid fd (Some d)).entries e)
      last_kept =
          ap last_object (sym (ap (λ (t : Entries). entry_at t e) (let_go_entries e pid (taken_away k pid fd (Some d)) (close_answer k.entries (Some d))) ∙ get_or-set_other k.entries d e (less_held (entry_at k.entries d)) None (λ q. ne (sym q))))

      other_closed : closed_by (shut k) pid fd (Some d) ≡ shut (closed_by k pid fd (Some d))
      other_closed = other_by last refl ∙ ap (shut_by (closed_by k pid fd (Some d))) last_kept

    shared : (fd : ℕ) → entry_of (fds_at k pid) fd ≡ Some e → 1 < count_of (entry_at k.entries e)
    shared fd held = omega (arith, h.more, holds_one (fds_at k pid) fd e held)

    module _ (fd : ℕ) (held : entry_of (fds_at k pid) fd ≡ Some e) where
      abbrev away : KernelState S
      away = taken_away k pid fd (Some e)

      not_last : last ≡ None
      not_last = shared_is_not_last (entry_at k.entries e) (shared fd held)

      less : entry_at (released k.entries e) e ≡ less_held (entry_at k.entries e)
      less = changed_entry less_held refl k.entries e

      less_on : IsOpenOn (object_of end id) (less_held (entry_at k.entries e))
      less_on = subst (IsOpenOn (object_of end id)) (less) (subst (λ (t : Entries). IsOpenOn (object_of end id) (entry_at t e)) (entries_closed) (closed_on (object_of end id) e pid k fd h.on)) where
        entries_closed : (closed k pid fd).entries ≡ released k.entries e
        entries_closed = let_go_entries e pid (taken_away k pid fd (entry_of (fds_at k pid) fd)) (close_answer k.entries (entry_of (fds_at k pid) fd)) ∙ (λ i. (taken_away k pid fd (held i)).entries)

      own_closed : woke (closed_by (shut k) pid fd (Some e)) ≡ woke (shut (closed_by k pid fd (Some e)))
      own_closed =
          ap (λ (o : Option Object). woke (closed_by (shut_by k o) pid fd (Some e))) not_last ∙
          ap (λ (x : Option Opened). woke (let_go_of (taken_away (L k) pid fd (Some e)) (Ok (last_object x)))) less ∙
          ap (λ (j : KernelState S). woke (let_go_of j (Ok (last_object (less_held (entry_at k.entries e)))))) (away_lost e pid k fd (Some e)) ∙
          gone_shut_by away (last_object (less_held (entry_at k.entries e))) (last_on (object_of end id) (less_held (entry_at k.entries e)) less_on) ∙
          sym (ap (λ (o : Option Object). woke (shut (let_go_of away (Ok o)))) not_last ∙ ap (λ (x : Option Opened). woke (shut_by away (last_object x))) less)

    fds_shut : (o : Option Object) → fds_at (shut_by k o) pid ≡ fds_at k pid
    fds_shut None = refl
    fds_shut (Some object) = refl

    none_closed : (fd : ℕ) (o : Option Object) → closed_by (shut_by k o) pid fd None ≡ shut_by (closed_by k pid fd None) o
    none_closed fd None = refl
    none_closed fd (Some object) = refl

    closed_by_shut : (fd : ℕ) (o : Option ℕ) → entry_of (fds_at k pid) fd ≡ o → woke (closed_by (shut k) pid fd o) ≡ woke (shut (closed_by k pid fd o))
    closed_by_shut fd None held = ap woke (none_closed fd last)
    closed_by_shut fd (Some d) held = by (cases_eq d e) where
      by : (d ≡ e) ⊎ (d ≢ e) → woke (closed_by (shut k) pid fd (Some d)) ≡ woke (shut (closed_by k pid fd (Some d)))
      by (inl is) = subst (λ (i : ℕ). woke (closed_by (shut k) pid fd (Some i)) ≡ woke (shut (closed_by k pid fd (Some i)))) (sym is) (own_closed fd (held ∙ ap Some is))
      by (inr ne) = ap woke (other_closed fd d held ne)

    closed_shut : (fd : ℕ) → woke (closed (shut k) pid fd) ≡ woke (shut (closed k pid fd))
    closed_shut fd = ap (λ (f : Descriptors). woke (closed_by (shut k) pid fd (entry_of f fd))) (fds_shut last) ∙ closed_by_shut fd (entry_of (fds_at k pid) fd) refl

    -- ---- what a close leaves

    left_by : (fd : ℕ) (o : Option ℕ) → entry_of (fds_at k pid) fd ≡ o → holders_in (after_close (fds_at k pid) fd o) e < count_of (entry_at (taken_away k pid fd o).entries e)
    left_by fd None held = h.more
    left_by fd (Some d) held = by (cases_eq d e) where
      by : (d ≡ e) ⊎ (d ≢ e) → holders_in (set (fds_at k pid) fd None) e < count_of (entry_at (released k.entries d) e)
      by (inl is) =
          subst (λ (i : ℕ). holders_in (set (fds_at k pid) fd None) e < count_of (entry_at (released k.entries i) e)) (sym is)
          (omega (arith, h.more, own_holder_less (fds_at k pid) fd e (held ∙ ap Some is), one_less (entry_at k.entries e) (shared fd (held ∙ ap Some is)), ap count_of (less fd (held ∙ ap Some is))))
      by (inr ne) =
          omega (arith, h.more, holders_less (fds_at k pid) fd d e held, ap count_of (get_or-set_other k.entries d e (less_held (entry_at k.entries d)) None (λ q. ne (sym q))))

    slot_holds : (fds : Descriptors) (x : Slot S) → holders_in (fds_of (with_fds fds x)) e ≤ holders_in fds e
    slot_holds fds None = omega (arith, free_holds_none e)
    slot_holds fds (Some p) = omega arith

    closed_held : (fd : ℕ) → IsHeld (closed k pid fd)
    closed_held fd =
        let o = entry_of (fds_at k pid) fd in
        let away : KernelState S = taken_away k pid fd o in
        let t : (closed k pid fd).entries ≡ away.entries = let_go_entries e pid away (close_answer k.entries o) in
        let f : fds_at (closed k pid fd) pid ≡ fds_of (with_fds (after_close (fds_at k pid) fd o) (at k.table pid)) = let_go_fds e pid away (close_answer k.entries o) ∙ ap fds_of (written (with_fds (after_close (fds_at k pid) fd o)) refl k.table pid) in
        record {
          on = closed_on (object_of end id) e pid k fd h.on;
          others = λ gd d held ne. subst (λ (u : Entries). IsNoEnd end id (entry_at u d)) (sym t) (no_end_released end id k.entries o d (h.others gd d (held_before d pid k fd gd held) ne));
          apart = let_go_of_apart end id pid away (close_answer k.entries o) h.apart;
          more = omega (arith, left_by fd o refl, slot_holds (after_close (fds_at k pid) fd o) (at k.table pid), ap (λ (u : Entries). count_of (entry_at u e)) t, ap (λ (u : Descriptors). holders_in u e) f);
        }

  below_held : (k : KernelState S) (n : ℕ) → IsHeld k → IsHeld (closed_below k pid n)
  unfolding closed_below
  below_held k zero h = h
  below_held k (suc n) h = closed_held (closed_below k pid n) (below_held k n h) n

  below_shut : (k : KernelState S) (n : ℕ) → IsHeld k → woke (closed_below (shut k) pid n) ≡ woke (shut (closed_below k pid n))
  unfolding closed_below
  below_shut k zero h = refl
  below_shut k (suc n) h =
      sym (closed_told pid (closed_below (shut k) pid n) n) ∙ ap (λ (j : KernelState S). closed j pid n) (below_shut k n h) ∙ closed_told pid (shut (closed_below k pid n)) n ∙
      closed_shut (closed_below k pid n) (below_held k n h) n

  -- ---- the calls that close something

  module _ (after : S) (k : KernelState S) (h : IsHeld k) where
    ending : (j : KernelState S) → ended pid (woke j) ≡ woke (ended pid j)
    ending j = λ i. record (woke j) { table = exited_told j.table pid i }

    ended_by : (j : KernelState S) (o : Option Object) → ended pid (shut_by j o) ≡ shut_by (ended pid j) o
    ended_by j None = refl
    ended_by j (Some object) = refl

    answered_by : (j : KernelState S) (reply : Reply) (o : Option Object) → answered (shut_by j o) pid after reply ≡ shut_by (answered j pid after reply) o
    answered_by j reply None = refl
    answered_by j reply (Some object) = refl

    exit_by : (b : Bool) → woke (if b then answered (shut k) pid after Refused else ended pid (closed_below (shut k) pid DESCRIPTORS)) ≡ woke (shut (if b then answered k pid after Refused else ended pid (closed_below k pid DESCRIPTORS)))
    exit_by true = ap woke (answered_by k Refused (last_object (entry_at k.entries e)))
    exit_by false =
        let below = closed_below k pid DESCRIPTORS in
        sym (ending (closed_below (shut k) pid DESCRIPTORS)) ∙ ap (ended pid) (below_shut k DESCRIPTORS h) ∙ ending (shut below) ∙ ap woke (ended_by below (last_object (entry_at below.entries e)))

    reply_by : (fd : ℕ) (o : Option Object) → close_reply (close_answer (shut_by k o).entries (entry_of (fds_at (shut_by k o) pid) fd)) ≡ close_reply (close_answer k.entries (entry_of (fds_at k pid) fd))
    reply_by fd None = reply_lost e pid k (entry_of (fds_at k pid) fd)
    reply_by fd (Some object) = reply_lost e pid k (entry_of (fds_at k pid) fd)

    close_shut : (fd : ℕ) → woke (close (shut k) pid after fd) ≡ woke (shut (close k pid after fd))
    close_shut fd =
        let reply = close_reply (close_answer k.entries (entry_of (fds_at k pid) fd)) in
        ap (λ (r : Reply). woke (answered (closed (shut k) pid fd) pid after r)) (reply_by fd (last_object (entry_at k.entries e))) ∙
        sym (answering pid after (closed (shut k) pid fd) reply) ∙ ap (λ (j : KernelState S). answered j pid after reply) (closed_shut k h fd) ∙ answering pid after (shut (closed k pid fd)) reply ∙
        ap woke (answered_by (closed k pid fd) reply (last_object (entry_at (closed k pid fd).entries e)))

    pub closing_shut : (call : Call) (refused : Bool) → Closing call → woke (acted (shut k) pid after call refused) ≡ woke (shut (acted k pid after call refused))
    closing_shut Fork refused c = absurd c
    closing_shut (Exec found) refused c = absurd c
    closing_shut Exit refused c = exit_by (pid == 0)
    closing_shut Wait refused c = absurd c
    closing_shut MakePipe refused c = absurd c
    closing_shut (Read fd n) refused c = absurd c
    closing_shut (Write fd b) refused c = absurd c
    closing_shut (OpenFile name mode) refused c = absurd c
    closing_shut (Close fd) refused c = close_shut fd
    closing_shut (Dup fd) refused c = absurd c
