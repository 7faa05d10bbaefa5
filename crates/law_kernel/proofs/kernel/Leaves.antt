-- What a call of one process leaves to another one that sleeps.
use Rattle.std.proofs.Common.{◌≡◌, ◌≢◌, ℕ, zero, suc, Option, Some, None, refl, sym, ap, subst, ◌∙◌, get_or-set_other}
use Rattle.std.proofs.Math.ListN.{set}
use Rattle.std.specs.Prelude.{is_some, Result, Ok, Err}
use Rattle.fd_table.specs.declared.faults.FdFault.{FdFault}
use Rattle.fd_table.specs.declared.names.Object.{Object}
use Rattle.fd_table.specs.declared.names.Object.TheVariants.{Input, Out, Diag, File, PipeRead, PipeWrite}
use Rattle.fd_table.specs.Entries.{Entries, entry_at, lowest_free_entry}
use Rattle.fd_table.specs.Descriptors.{Descriptors, entry_of, close_answer, released_by_close}
use Rattle.proc_table.specs.declared.states.Channel.{Channel}
use Rattle.proc_table.specs.declared.states.Channel.TheVariants.{PipeBytes, PipeRoom, Children}
use Rattle.proc_table.specs.declared.states.Status.TheVariants.{Asleep}
use Rattle.proc_table.specs.Slots.{Table, Slot, Process, at, parent_of}
use Rattle.proc_table.specs.Calls.{woken, all_woken, given, exited, zombie_child}
use Rattle.proc_table.proofs.Changes.{mapped, exit_other}
use Rattle.proc_table.proofs.Counts.{used_within}
use Rattle.kernel_model.specs.KernelState.{KernelState, fds_of, fds_at}
use Rattle.kernel_model.specs.Sound.{IsMid}
use Rattle.kernel_model.specs.Descriptors.{let_go, let_go_of, taken_away, closed, closed_below, opened_at, with_open}
use Rattle.kernel_model.proofs.Closing.{closed_below_mid}
use Rattle.kernel_model.proofs.Held.{runs_within}
use Rattle.law_kernel.specs.Outcome.{object_of}
use Rattle.law_kernel.proofs.kernel.Others.{SlotKept, Kept, kept_same, slot_then, kept_then, woken_kept, given_kept, kept_if, Stay, close_stays, opened_stay}

-- if q sleeps now, it slept before, with the same call, and its descriptors hold the same objects
pub record Left {S : Type 0} (t : Table S) (E F : Entries) (q : ℕ) (now : Process S) (c : Channel) : Type 0 where
  pub slot : SlotKept (at t q) now c
  pub objects : Stay E slot.p.fds F

abbrev pub Leaves : {S : Type 0} → ℕ → KernelState S → KernelState S → Type 0
Leaves q k l = (now : Process _) (c : Channel) → at l.table q ≡ Some now → now.status ≡ Asleep c → Left k.table k.entries l.entries q now c

module _ {S : Type 0} (q : ℕ) where
  pub leaves : (k l : KernelState S) → Kept (at k.table q) (at l.table q) → ((p : Process S) → at k.table q ≡ Some p → Stay k.entries p.fds l.entries) → Leaves q k l
  leaves k l slot objects now c is sleeps = let s = slot now c is sleeps in record { slot = s; objects = objects s.p s.was }

  pub leaves_same : (k : KernelState S) → Leaves q k k
  leaves_same k = leaves k k (kept_same (at k.table q) (at k.table q) refl) (λ p is fd e object held has. has)

  pub leaves_then : (k l m : KernelState S) → Leaves q k l → Leaves q l m → Leaves q k m
  leaves_then k l m a b now c is sleeps =
      let second = b now c is sleeps in
      let first = a second.slot.p c second.slot.was second.slot.asleep in
      record {
        slot = slot_then (at k.table q) (at l.table q) now c second.slot first.slot;
        objects = λ fd e object held has. second.objects fd e object (ap (λ fds. entry_of fds fd) first.slot.fds ∙ held) (first.objects fd e object held has);
      }

  -- all stays but what the caller's slot holds
  pub leaves_slot : (k l : KernelState S) (pid : ℕ) (x : Slot S) → q ≢ pid → l.table ≡ set k.table pid x → ((p : Process S) → at k.table q ≡ Some p → Stay k.entries p.fds l.entries) → Leaves q k l
  leaves_slot k l pid x ne same objects =
      leaves k l (kept_same (at k.table q) (at l.table q) (ap (λ (t : Table S). at t q) same ∙ get_or-set_other k.table pid q x None ne)) objects

  -- the sleepers of a channel are woken
  pub leaves_woken : (k l : KernelState S) (w : Channel) → l.table ≡ all_woken w k.table → l.entries ≡ k.entries → Leaves q k l
  leaves_woken k l w same entries =
      leaves k l (subst (λ (y : Slot S). Kept (at k.table q) y) (sym (ap (λ (t : Table S). at t q) same ∙ mapped (woken w) refl k.table q)) (woken_kept w (at k.table q)))
      (λ p is fd e object held has. ap (λ (E : Entries). object_of (entry_at E e)) entries ∙ has)

  -- a process ends
  pub leaves_exited : (k l : KernelState S) (pid : ℕ) → q ≢ pid → l.table ≡ exited k.table pid → l.entries ≡ k.entries → Leaves q k l
  leaves_exited k l pid ne same entries =
      let x = at k.table q in
      let parent = parent_of (at k.table pid) in
      let y = given pid x in
      let once = woken (Children parent) y in
      let first = kept_then x y once (given_kept pid x) (woken_kept (Children parent) y) in
      let both = kept_if (is_some (zombie_child k.table pid)) x (woken (Children 0) once) once (kept_then x once (woken (Children 0) once) first (woken_kept (Children 0) once)) first in
      leaves k l (subst (λ (z : Slot S). Kept x z) (sym (ap (λ (t : Table S). at t q) same ∙ exit_other k.table pid q ne)) both)
      (λ p is fd e object held has. ap (λ (E : Entries). object_of (entry_at E e)) entries ∙ has)

  module _ (pid : ℕ) (ne : q ≢ pid) where
    -- ---- close

    let_go_leaves : (k : KernelState S) (object : Object) → Leaves q k (let_go k object)
    let_go_leaves k Input = leaves_same k
    let_go_leaves k Out = leaves_same k
    let_go_leaves k Diag = leaves_same k
    let_go_leaves k (File name mode) = leaves_same k
    let_go_leaves k (PipeRead id) = leaves_woken k (let_go k (PipeRead id)) (PipeRoom id) refl refl
    let_go_leaves k (PipeWrite id) = leaves_woken k (let_go k (PipeWrite id)) (PipeBytes id) refl refl

    let_go_of_leaves : (k : KernelState S) (r : Result (Option Object) FdFault) → Leaves q k (let_go_of k r)
    let_go_of_leaves k (Err fault) = leaves_same k
    let_go_of_leaves k (Ok None) = leaves_same k
    let_go_of_leaves k (Ok (Some object)) = let_go_leaves k object

    pub closed_leaves : (k : KernelState S) (fd n : ℕ) → IsMid n k.table k.entries pid → Leaves q k (closed k pid fd)
    closed_leaves k fd n mid =
        let entry = entry_of (fds_at k pid) fd in
        let away : KernelState S = taken_away k pid fd entry in
        leaves_then k away (closed k pid fd)
        (leaves_slot k away pid _ ne refl
        (λ p is. subst (λ (fds : Descriptors). Stay k.entries fds (released_by_close k.entries entry)) (ap fds_of is) (close_stays k.table k.entries mid.sound pid q ne (runs_within k.table pid mid.runs) (used_within k.table q p is) fd entry refl)))
        (let_go_of_leaves away (close_answer k.entries entry))

    pub closed_below_leaves : (k : KernelState S) (m n : ℕ) → IsMid n k.table k.entries pid → Leaves q k (closed_below k pid m)
    unfolding closed_below
    closed_below_leaves k zero n mid = leaves_same k
    closed_below_leaves k (suc m) n mid =
        leaves_then k (closed_below k pid m) (closed (closed_below k pid m) pid m) (closed_below_leaves k m n mid) (closed_leaves (closed_below k pid m) m n (closed_below_mid n pid k m mid))

    -- ---- open

    opened_leaves : (k : KernelState S) (object : Object) (place : Option ℕ) → lowest_free_entry k.entries ≡ place → Leaves q k (opened_at k pid object place)
    opened_leaves k object None found = leaves_same k
    opened_leaves k object (Some e) found =
        leaves_slot k (opened_at k pid object (Some e)) pid _ ne refl (λ p is. opened_stay k.entries p.fds (lowest_free_entry k.entries) object refl)

    pub open_leaves : (k : KernelState S) (object : Object) → Leaves q k (with_open k pid object)
    open_leaves k object = opened_leaves k object (lowest_free_entry k.entries) refl
