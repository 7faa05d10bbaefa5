-- An exit of a process that holds no descriptor, as what it does to the kernel between two turns.
use Rattle.std.proofs.Common.{◌≡◌, ◌≢◌, ℕ, zero, suc, ◌+◌, [], ◌∷◌, Bool, false, Some, None, refl, sym, ap, ◌∙◌}
use Rattle.std.proofs.Math.ListN.{set}
use Rattle.std.proofs.lemmas.Bool.{ne_eqb}
use Rattle.std.proofs.lemmas.List.{map-set}
use Rattle.std.specs.Prelude.{map, is_some, ◌&&◌, if◌then◌else◌}
use Rattle.user_calls.specs.declared.calls.Call.{Call}
use Rattle.user_calls.specs.declared.calls.Call.TheVariants.{Exit}
use Rattle.user_calls.specs.declared.calls.Reply.{Reply}
use Rattle.user_calls.specs.declared.calls.Reply.TheVariants.{Refused}
use Rattle.fd_table.specs.declared.descriptors.TheConstants.{DESCRIPTORS}
use Rattle.fd_table.specs.Descriptors.{Descriptors, entry_of}
use Rattle.proc_table.specs.declared.states.Channel.TheVariants.{Children}
use Rattle.proc_table.specs.declared.states.Status.{Status}
use Rattle.proc_table.specs.declared.states.Status.TheVariants.{Runnable, Running, Zombie}
use Rattle.proc_table.specs.Slots.{Slot, Table, Process, at, is_number, is_zombie_status, is_runnable_status, is_zombie_child_of, parent_of}
use Rattle.proc_table.specs.Calls.{dispatched, with_status, with_fds, all_woken, given, buried, exited, zombie_child}
use Rattle.proc_table.proofs.Changes.{written}
use Rattle.kernel_model.specs.KernelState.{KernelState, fds_of, fds_at}
use Rattle.kernel_model.specs.Replies.{answered}
use Rattle.kernel_model.specs.Descriptors.{closed_by, closed, closed_below}
use Rattle.kernel_model.specs.Processes.{ended}
use Rattle.kernel_model.specs.Events.{acted, counted}
use Rattle.kernel_model.specs.Alike.{IsStill}
use Rattle.kernel_model.specs.Turns.{after_turn}
use Rattle.law_turns.proofs.orders.Follow.{given_0}
use Rattle.law_turns.proofs.private_turns.Unseen.{position_same}
use Rattle.law_turns.proofs.private_turns.Staying.{Holds}
use Rattle.law_turns.proofs.private_turns.Turned.{set_twice, turn_is}

-- ---- a slot that is written by what it holds

pub set_itself : {S : Type 0} (t : Table S) (p : ℕ) → set t p (at t p) ≡ t
set_itself [] p = refl
set_itself (x ∷ t) zero = refl
set_itself (x ∷ t) (suc p) = ap (λ (u : Table _). x ∷ u) (set_itself t p)

pub own_fds : {S : Type 0} (x : Slot S) → with_fds (fds_of x) x ≡ x
own_fds None = refl
own_fds (Some y) = refl

-- ---- what an exit does doesn't depend on whether the process ran

running_parent : {S : Type 0} (x : Slot S) → parent_of (with_status (Running 0) x) ≡ parent_of x
running_parent None = refl
running_parent (Some y) = refl

running_given : {S : Type 0} (p : ℕ) (x : Slot S) → given p (with_status (Running 0) x) ≡ with_status (Running 0) (given p x)
running_given p None = refl
running_given p (Some y) = refl

zombie_then : {S : Type 0} (s : Status) (x : Slot S) → with_status Zombie (with_status s x) ≡ with_status Zombie x
zombie_then s None = refl
zombie_then s (Some y) = refl

ready_child : {S : Type 0} (p : ℕ) (x : Process S) → x.status ≡ Runnable → is_zombie_child_of p (with_status (Running 0) (Some x)) ≡ is_zombie_child_of p (Some x)
ready_child p x ready = sym (ap (λ (s : Status). is_number p x.parent && is_zombie_status s) ready)

module _ {S : Type 0} (t : Table S) (p : ℕ) (x : Process S) (there : at t p ≡ Some x) (ready : x.status ≡ Runnable) where
  child_running : zombie_child (dispatched t p 0) p ≡ zombie_child t p
  child_running =
      position_same (is_zombie_child_of p) t p (with_status (Running 0) (at t p)) None
      (ap (λ (y : Slot S). is_zombie_child_of p (with_status (Running 0) y)) there ∙ ready_child p x ready ∙ sym (ap (is_zombie_child_of p) there))

  parent_running : parent_of (at (dispatched t p 0) p) ≡ parent_of (at t p)
  parent_running = ap parent_of (written (with_status (Running 0)) refl t p) ∙ running_parent (at t p)

  buried_running : buried (dispatched t p 0) p ≡ buried t p
  buried_running =
      let m : Table S = map (given p) t in
      let run : Slot S → Slot S = with_status (Running 0) in
      let first : map (given p) (dispatched t p 0) ≡ set m p (run (at m p)) =
      map-set (given p) t p (run (at t p)) ∙ ap (set m p) (running_given p (at t p) ∙ ap run (sym (mapped_at p t))) in
      ap (λ (u : Table S). set u p (with_status Zombie (at u p))) first ∙
      ap (λ (y : Slot S). set (set m p (run (at m p))) p (with_status Zombie y)) (written run refl m p) ∙ set_twice m p (run (at m p)) (with_status Zombie (run (at m p))) ∙
      ap (set m p) (zombie_then (Running 0) (at m p))
    where
      mapped_at : (q : ℕ) (u : Table S) → at (map (given p) u) q ≡ given p (at u q)
      mapped_at q [] = refl
      mapped_at zero (y ∷ u) = refl
      mapped_at (suc q) (y ∷ u) = mapped_at q u

  pub exited_running : exited (dispatched t p 0) p ≡ exited t p
  exited_running =
      λ i. (let gone = all_woken (Children (parent_running i)) (buried_running i) in if is_some (child_running i) then all_woken (Children 0) gone else gone)

-- ---- the turn

module _ {S : Type 0} (call : S → Reply → Call) (next : S → Reply → S) (p : ℕ) (x : Process S) (exits : call x.machine x.reply ≡ Exit) (child : p ≢ 0) (bare : (fd : ℕ) → entry_of x.fds fd ≡ None) where
  -- what the turn comes to, and with its two events
  abbrev pub buries : KernelState S → KernelState S
  buries k = record k { table = exited k.table p; events = k.events + 1 + 1 }

  closed_none : (k : KernelState S) (fd : ℕ) → fds_at k p ≡ x.fds → closed k p fd ≡ k
  closed_none k fd own =
      ap (closed_by k p fd) (ap (λ (f : Descriptors). entry_of f fd) own ∙ bare fd) ∙ (λ i. record k { table = (ap (set k.table p) (own_fds (at k.table p)) ∙ set_itself k.table p) i })

  below_none : (k : KernelState S) (n : ℕ) → fds_at k p ≡ x.fds → closed_below k p n ≡ k
  unfolding closed_below
  below_none k zero own = refl
  below_none k (suc n) own = ap (λ (j : KernelState S). closed j p n) (below_none k n own) ∙ closed_none k n own

  pub own : (k : KernelState S) → IsStill k → Holds x (at k.table p) → after_turn call next k p ≡ Some (buries k)
  own k still h =
      let d : KernelState S = counted (given_0 k p) in
      let m : S = next x.machine x.reply in
      let fds : fds_at d p ≡ x.fds = ap fds_of (written (with_status (Running 0)) refl k.table p) ∙ ap (λ (y : Slot S). fds_of (with_status (Running 0) y)) h.there ∙ h.fds in
      turn_is call next k p h.now still h.there (ap is_runnable_status h.ready) ∙
      ap Some (
      (λ i. acted d p (next (h.machine i) (h.reply i)) (call (h.machine i) (h.reply i)) false) ∙ ap (λ (c : Call). acted d p m c false) exits ∙
      ap (λ (b : Bool). if b then answered d p m Refused else ended p (closed_below d p DESCRIPTORS)) (ne_eqb p 0 child) ∙ ap (ended p) (below_none d DESCRIPTORS fds) ∙
      (λ i. record d { table = exited_running k.table p h.now h.there h.ready i }))
