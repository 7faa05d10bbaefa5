-- The slots of a table as they are seen, through the changes of a call.
use Rattle.std.proofs.Common.{◌≡◌, ◌≢◌, ◌⊎◌, ℕ, zero, suc, Bool, true, false, Option, Some, None, refl, sym, ap, ◌∙◌, subst, inl, inr}
use Rattle.std.proofs.Math.ListN.{set}
use Rattle.user_calls.specs.declared.calls.Reply.{Reply}
use Rattle.fd_table.specs.Descriptors.{Descriptors}
use Rattle.proc_table.specs.declared.states.Channel.{Channel}
use Rattle.proc_table.specs.declared.states.Channel.TheVariants.{PipeBytes, PipeRoom}
use Rattle.proc_table.specs.declared.states.Status.{Status}
use Rattle.proc_table.specs.declared.states.Status.TheVariants.{Runnable, Running, Asleep}
use Rattle.proc_table.specs.Slots.{Process, Slot, Table, at, is_zombie_status, is_asleep, parent_or_init}
use Rattle.proc_table.specs.Calls.{readied, made_ready, slept, put_to_sleep, fds_set, with_fds, all_woken, woken, woken_status, with_status, dispatched}
use Rattle.proc_table.proofs.Changes.{written, kept, mapped}
use Rattle.sh_machine.specs.State.{User}
use Rattle.process_model.specs.Seen.{Entry, act_of, fds_seen, zombie, live, seen_by, seen_slot, seen}
use Rattle.law_kernel.proofs.kernel.Exits.{zombie_by}

-- the process of p, but for its status, which isn't Zombie
pub record At (t : Table User) (p : ℕ) (parent : Option ℕ) (machine : User) (reply : Reply) (d : Descriptors) (put : ℕ) : Type 0 where
  pub status : Status
  pub alive : is_zombie_status status ≡ false
  pub is : at t p ≡ Some (record { status = status; parent = parent; machine = machine; reply = reply; fds = d; put = put })

-- the other slots look the same
abbrev pub Others : (ℕ → Entry) → Table User → Table User → ℕ → Type 0
Others name t u p = (q : ℕ) → q ≢ p → seen_slot name (at u q) ≡ seen_slot name (at t q)

pub seen_at : (name : ℕ → Entry) (t : Table User) (p : ℕ) (parent : Option ℕ) (m : User) (r : Reply) (d : Descriptors) (put : ℕ) → At t p parent m r d put → seen_slot name (at t p) ≡ live (parent_or_init parent) (act_of m r) put (fds_seen name d)
seen_at name t p parent m r d put a =
    ap (seen_slot name) a.is ∙ ap (λ b. seen_by b name (record { status = a.status; parent = parent; machine = m; reply = r; fds = d; put = put })) a.alive

-- init is left out
pub seen_up : (name : ℕ → Entry) (t : Table User) (q : ℕ) → q ≢ 0 → seen name t q ≡ seen_slot name (at t q)
seen_up name t zero ne = absurd (ne refl)
seen_up name t (suc q) ne = refl

pub seen_alike : (name other : ℕ → Entry) (t u : Table User) (q : ℕ) → seen_slot other (at u q) ≡ seen_slot name (at t q) → seen other u q ≡ seen name t q
seen_alike name other t u zero e = refl
seen_alike name other t u (suc q) e = e

pub others_refl : (name : ℕ → Entry) (t : Table User) (p : ℕ) → Others name t t p
others_refl name t p q ne = refl

pub others_then : (name : ℕ → Entry) (t u v : Table User) (p : ℕ) → Others name t u p → Others name u v p → Others name t v p
others_then name t u v p f g q ne = g q ne ∙ f q ne

-- a write of the slot of p
set_others : (name : ℕ → Entry) (t : Table User) (p : ℕ) (x : Slot User) → Others name t (set t p x) p
set_others name t p x q ne = ap (seen_slot name) (kept t p q x ne)

pub at_fds : (t : Table User) (p : ℕ) (parent : Option ℕ) (m : User) (r : Reply) (d e : Descriptors) (put : ℕ) → At t p parent m r d put → At (fds_set t p e) p parent m r e put
at_fds t p parent m r d e put a = record { status = a.status; alive = a.alive; is = written (with_fds e) refl t p ∙ ap (with_fds e) a.is }

pub fds_others : (name : ℕ → Entry) (t : Table User) (p : ℕ) (e : Descriptors) → Others name t (fds_set t p e) p
fds_others name t p e = set_others name t p (with_fds e (at t p))

pub at_ready : (t : Table User) (p : ℕ) (parent : Option ℕ) (m n : User) (r s : Reply) (d : Descriptors) (put : ℕ) → At t p parent m r d put → At (readied t p n s) p parent n s d 0
at_ready t p parent m n r s d put a = record { status = Runnable; alive = refl; is = written (made_ready n s) refl t p ∙ ap (made_ready n s) a.is }

pub ready_others : (name : ℕ → Entry) (t : Table User) (p : ℕ) (n : User) (s : Reply) → Others name t (readied t p n s) p
ready_others name t p n s = set_others name t p (made_ready n s (at t p))

pub at_slept : (t : Table User) (p : ℕ) (parent : Option ℕ) (m : User) (r : Reply) (d : Descriptors) (put now : ℕ) (c : Channel) → At t p parent m r d put → At (slept t p c now) p parent m r d now
at_slept t p parent m r d put now c a = record { status = Asleep c; alive = refl; is = written (put_to_sleep c now) refl t p ∙ ap (put_to_sleep c now) a.is }

pub slept_others : (name : ℕ → Entry) (t : Table User) (p now : ℕ) (c : Channel) → Others name t (slept t p c now) p
slept_others name t p now c = set_others name t p (put_to_sleep c now (at t p))

same_but_status : (name : ℕ → Entry) (p q : Process User) (b : Bool) → q.parent ≡ p.parent → q.machine ≡ p.machine → q.reply ≡ p.reply → q.fds ≡ p.fds → q.put ≡ p.put → seen_by b name q ≡ seen_by b name p
same_but_status name p q true pa ma re fd pu = ap (λ x. zombie (parent_or_init x)) pa
same_but_status name p q false pa ma re fd pu = cc

pub woken_seen : (name : ℕ → Entry) (c : Channel) (x : Slot User) → seen_slot name (woken c x) ≡ seen_slot name x
woken_seen name c None = refl
woken_seen name c (Some p) =
    ap (λ b. seen_by b name (record { status = woken_status c p.status; parent = p.parent; machine = p.machine; reply = p.reply; fds = p.fds; put = p.put })) (zombie_by c p.status)
    ∙ same_but_status name p (record { status = woken_status c p.status; parent = p.parent; machine = p.machine; reply = p.reply; fds = p.fds; put = p.put }) (is_zombie_status p.status) refl refl refl refl refl

pub at_woken : (t : Table User) (p : ℕ) (parent : Option ℕ) (m : User) (r : Reply) (d : Descriptors) (put : ℕ) (c : Channel) → At t p parent m r d put → At (all_woken c t) p parent m r d put
at_woken t p parent m r d put c a = record { status = woken_status c a.status; alive = zombie_by c a.status ∙ a.alive; is = mapped (woken c) refl t p ∙ ap (woken c) a.is }

pub woken_others : (name : ℕ → Entry) (t : Table User) (p : ℕ) (c : Channel) → Others name t (all_woken c t) p
woken_others name t p c q ne = ap (seen_slot name) (mapped (woken c) refl t q) ∙ woken_seen name c (at t q)

-- a dispatch is not seen
pub dispatch_seen : (name : ℕ → Entry) (t : Table User) (p h : ℕ) → ((q : Process User) → at t p ≡ Some q → is_zombie_status q.status ≡ false) → (q : ℕ) → (q ≡ p) ⊎ (q ≢ p) → seen_slot name (at (dispatched t p h) q) ≡ seen_slot name (at t q)
dispatch_seen name t p h alive q (inr ne) = set_others name t p (with_status (Running h) (at t p)) q ne
dispatch_seen name t p h alive q (inl is) =
    subst (λ n. seen_slot name (at (dispatched t p h) n) ≡ seen_slot name (at t n)) (sym is) (ap (seen_slot name) (written (with_status (Running h)) refl t p) ∙ by (at t p) alive)
  where
    by : (x : Slot User) → ((q : Process User) → x ≡ Some q → is_zombie_status q.status ≡ false) → seen_slot name (with_status (Running h) x) ≡ seen_slot name x
    by None alive = refl
    by (Some q) alive = sym (ap (λ b. seen_by b name q) (alive q refl))

-- who is put to sleep sleeps, also once those that wait for a pipe's bytes are woken
pub slept_sleeps : (t : Table User) (p now : ℕ) (x : Process User) (c : Channel) → at t p ≡ Some x → is_asleep (at (slept t p c now) p) ≡ true
slept_sleeps t p now x c is = ap is_asleep (written (put_to_sleep c now) refl t p ∙ ap (put_to_sleep c now) is)

pub sleeps_for_room : (t : Table User) (p now id : ℕ) (x : Process User) → at t p ≡ Some x → is_asleep (at (all_woken (PipeBytes id) (slept t p (PipeRoom id) now)) p) ≡ true
sleeps_for_room t p now id x is =
    ap is_asleep (mapped (woken (PipeBytes id)) refl (slept t p (PipeRoom id) now) p ∙ ap (woken (PipeBytes id)) (written (put_to_sleep (PipeRoom id) now) refl t p ∙ ap (put_to_sleep (PipeRoom id) now) is))
