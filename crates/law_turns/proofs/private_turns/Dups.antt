-- What a dup, and a close of a descriptor whose entry another one of the process holds too, change.
use Rattle.std.proofs.Common.{◌≡◌, ℕ, ◌+◌, ◌-◌, ◌<◌, ◌≤◌, false, Option, Some, None, refl, sym, ap, subst, ◌∙◌, arith}
use Rattle.std.proofs.Math.ListN.{set}
use Rattle.std.proofs.lemmas.Bool.{lt-leb}
use Rattle.std.specs.Prelude.{nat_le, if◌then◌else◌, Ok}
use Rattle.user_calls.specs.declared.calls.Call.{Call}
use Rattle.user_calls.specs.declared.calls.Call.TheVariants.{Close, Dup}
use Rattle.user_calls.specs.declared.calls.Reply.{Reply}
use Rattle.user_calls.specs.declared.calls.Reply.TheVariants.{Done, Fd}
use Rattle.fd_table.specs.Entries.{OpenFile, entry_at, more_held, less_held, last_object}
use Rattle.fd_table.specs.Descriptors.{Descriptors, entry_of, lowest_free, holders_in, dup_answer, close_answer}
use Rattle.proc_table.specs.declared.states.Status.TheVariants.{Running}
use Rattle.proc_table.specs.Slots.{Slot, Table, Process, at, is_runnable_status}
use Rattle.proc_table.specs.Calls.{dispatched, with_status, with_fds, fds_set, made_ready, readied}
use Rattle.proc_table.proofs.Changes.{written}
use Rattle.kernel_model.specs.KernelState.{KernelState, fds_of, fds_at}
use Rattle.kernel_model.specs.Replies.{answered}
use Rattle.kernel_model.specs.Descriptors.{let_go_of, taken_away, closed_by, close_reply, dup_by, copied}
use Rattle.kernel_model.specs.Events.{acted, counted}
use Rattle.kernel_model.specs.Alike.{IsStill}
use Rattle.kernel_model.specs.Turns.{after_turn}
use Rattle.law_turns.proofs.orders.Follow.{given_0}
use Rattle.law_turns.specs.Retold.{Left, retold_slot, retold_table}
use Rattle.law_turns.proofs.private_turns.Recount.{Suits, G, recount}
use Rattle.law_turns.proofs.private_turns.Staying.{Holds}
use Rattle.law_turns.proofs.private_turns.Holders.{is_open}
use Rattle.law_turns.proofs.private_turns.Turned.{set_twice, turn_is}
use Rattle.law_turns.proofs.private_turns.Shared.{changes}

abbrev pub up : ℕ → ℕ
up c = c + 1

abbrev pub down : ℕ → ℕ
down c = c - 1

not_le : (c : ℕ) → 1 < c → nat_le c 1 ≡ false
not_le c more = lt-leb c 1 more

pub up_suits : Suits up 1
up_suits =
    record {
      some = omega arith;
      more = λ c n enough. omega arith;
      not_last = λ c enough. not_le c enough;
      not_last_then = λ c enough. not_le (c + 1) (omega (arith, enough));
      less = λ c enough. omega (arith, enough);
    }

pub down_suits : Suits down 2
down_suits =
    record {
      some = omega arith;
      more = λ c n enough. omega (arith, enough);
      not_last = λ c enough. not_le c (omega (arith, enough));
      not_last_then = λ c enough. not_le (c - 1) (omega (arith, enough));
      less = λ c enough. omega (arith, enough);
    }

more_is : (x : Option OpenFile) → more_held 1 x ≡ recount up x
more_is None = refl
more_is (Some f) = refl

less_is : (x : Option OpenFile) (f : OpenFile) → x ≡ Some f → 2 ≤ f.count → less_held x ≡ recount down x
less_is None f is enough = refl
less_is (Some g) f is enough =
    let it : g ≡ f = cc in
    λ i. if not_le g.count (subst (λ (h : OpenFile). 2 ≤ h.count) (sym it) enough) i then None else Some (record g { count = g.count - 1 })

last_is : (x : Option OpenFile) (f : OpenFile) → x ≡ Some f → 2 ≤ f.count → last_object x ≡ None
last_is None f is enough = refl
last_is (Some g) f is enough =
    let it : g ≡ f = cc in
    λ i. if not_le g.count (subst (λ (h : OpenFile). 2 ≤ h.count) (sym it) enough) i then Some g.object else None

module _ {S : Type 0} (call : S → Reply → Call) (next : S → Reply → S) (p : ℕ) (x : Process S) where
  abbrev pub after : S
  after = next x.machine x.reply

  abbrev pub left_with : Reply → Descriptors → Left S
  left_with reply fds = record { machine = next x.machine x.reply; reply = reply; fds = fds; put = 0 }

  slot_with : (reply : Reply) (fds : Descriptors) (y : Slot S) → Holds x y → made_ready after reply (with_fds fds (with_status (Running 0) y)) ≡ retold_slot (left_with reply fds) y
  slot_with reply fds y h =
      ap (λ (z : Slot S). made_ready after reply (with_fds fds (with_status (Running 0) z))) h.there ∙
      (λ i. Some (record h.now { status = sym h.ready i; machine = next x.machine x.reply; reply = reply; fds = fds; put = 0 })) ∙ sym (ap (retold_slot (left_with reply fds)) h.there)

  table_with : (t : Table S) (reply : Reply) (fds : Descriptors) → Holds x (at t p) → readied (fds_set (dispatched t p 0) p fds) p after reply ≡ retold_table p (left_with reply fds) t
  table_with t reply fds h =
      let a : Slot S = with_status (Running 0) (at t p) in
      let u : Table S = dispatched t p 0 in
      let v : Table S = fds_set u p fds in
      ap (λ (y : Slot S). set v p (made_ready after reply y)) (written (with_fds fds) refl u p ∙ ap (with_fds fds) (written (with_status (Running 0)) refl t p)) ∙
      set_twice u p (with_fds fds (at u p)) (made_ready after reply (with_fds fds a)) ∙ set_twice t p a (made_ready after reply (with_fds fds a)) ∙ ap (λ (y : Slot S). set t p y) (slot_with reply fds (at t p) h)

  module _ (l : KernelState S) (still : IsStill l) (h : Holds x (at l.table p)) where
    abbrev d : KernelState S
    d = counted (given_0 l p)

    own_fds : fds_at d p ≡ x.fds
    own_fds = ap fds_of (written (with_status (Running 0)) refl l.table p) ∙ ap (λ (y : Slot S). fds_of (with_status (Running 0) y)) h.there ∙ h.fds

    own_is : (c : Call) → call x.machine x.reply ≡ c → after_turn call next l p ≡ Some (acted d p after c false)
    own_is c is =
        turn_is call next l p h.now still h.there (ap is_runnable_status h.ready) ∙ ap Some ((λ i. acted d p (next (h.machine i) (h.reply i)) (call (h.machine i) (h.reply i)) false) ∙ ap (λ (b : Call). acted d p after b false) is)

    pub dup_own : (fd e place : ℕ) (enough : 1 ≤ holders_in x.fds e) → call x.machine x.reply ≡ Dup fd → entry_of x.fds fd ≡ Some e → lowest_free x.fds ≡ Some place
        → after_turn call next l p ≡ Some (changes call next p x (left_with (Fd place) (set x.fds place (Some e))) up e 1 up_suits enough l)
    dup_own fd e place enough is held free =
        let entry : entry_of (fds_at d p) fd ≡ Some e = ap (λ (f : Descriptors). entry_of f fd) own_fds ∙ held in
        let room : lowest_free (fds_at d p) ≡ Some place = ap lowest_free own_fds ∙ free in
        own_is (Dup fd) is ∙ ap Some (
        (λ i. dup_by (copied d p (entry i) (room i)) p after (dup_answer (entry i) (room i))) ∙
        (λ i. record d { table = readied (fds_set d.table p (set (own_fds i) place (Some e))) p after (Fd place); entries = set d.entries e (more_is (entry_at d.entries e) i) }) ∙
        (λ i. record d { table = table_with l.table (Fd place) (set x.fds place (Some e)) h i; entries = G up e d.entries }))

    pub close_own : (fd e : ℕ) (enough : 2 ≤ holders_in x.fds e) → call x.machine x.reply ≡ Close fd → entry_of x.fds fd ≡ Some e
        → after_turn call next l p ≡ Some (changes call next p x (left_with Done (set x.fds fd None)) down e 2 down_suits enough l)
    close_own fd e enough is held =
        let entry : entry_of (fds_at d p) fd ≡ Some e = ap (λ (f : Descriptors). entry_of f fd) own_fds ∙ held in
        let o = is_open e l.table l.entries still.sound p 2 x h (omega arith) enough in
        let kept : last_object (entry_at d.entries e) ≡ None = last_is (entry_at d.entries e) o.0 o.1 o.2 in
        own_is (Close fd) is ∙ ap Some (
        (λ i. answered (closed_by d p fd (entry i)) p after (close_reply (close_answer d.entries (entry i)))) ∙
        (λ i. answered (let_go_of (taken_away d p fd (Some e)) (Ok (kept i))) p after (close_reply (Ok (kept i)))) ∙
        (λ i. record d { table = readied (fds_set d.table p (set (own_fds i) fd None)) p after Done; entries = set d.entries e (less_is (entry_at d.entries e) o.0 o.1 o.2 i) }) ∙
        (λ i. record d { table = table_with l.table Done (set x.fds fd None) h i; entries = G down e d.entries }))
