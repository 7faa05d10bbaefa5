-- A turn that a kernel of a run can take can be taken in one that differs only in the numbers of slots.
use Rattle.std.proofs.Common.{◌≡◌, ◌≢◌, ◌⊎◌, ℕ, ◌+◌, List, [], ◌∷◌, true, false, Option, Some, None, length, inl, inr, refl, sym, ap, subst, ◌∙◌, arith}
use Rattle.std.proofs.Math.ListN.{length-set}
use Rattle.std.proofs.lemmas.Bool.{cases_eq}
use Rattle.user_calls.specs.declared.calls.Call.{Call}
use Rattle.user_calls.specs.declared.calls.Reply.{Reply}
use Rattle.proc_table.specs.declared.pid.TheConstants.{PROCS}
use Rattle.proc_table.specs.declared.states.Channel.TheVariants.{Children}
use Rattle.proc_table.specs.declared.states.Status.{Status}
use Rattle.proc_table.specs.declared.states.Status.TheVariants.{Runnable, Running, Asleep, Zombie}
use Rattle.proc_table.specs.Slots.{Slot, Table, Process, at, is_free, is_child_of, is_zombie, is_zombie_status, is_runnable_status}
use Rattle.proc_table.specs.Calls.{dispatched, with_status}
use Rattle.proc_table.proofs.Changes.{written, kept}
use Rattle.kernel_model.specs.KernelState.{KernelState}
use Rattle.kernel_model.specs.Events.{acted, counted}
use Rattle.kernel_model.proofs.Lasting.{no_run}
use Rattle.law_kernel.specs.Sleeping.{Lives, SleepsOn, IsFamily}
use Rattle.kernel_model.specs.Turns.{by_turns, after_turn, after_turns, quiet_turns, turn_events, turn_notes}
use Rattle.kernel_model.specs.Alike.{IsStill}
use Rattle.kernel_model.specs.Begun.{IsBegun}
use Rattle.kernel_model.specs.Numbers.{Numbering}
use Rattle.law_turns.proofs.orders.Follow.{after_turn as turned, given_0}
use Rattle.law_turns.proofs.orders.Back.{could_turn}
use Rattle.law_turns.proofs.private_turns.Begun.{IsSettled, begun_on, begun_still, begun_settled}
use Rattle.law_turns.proofs.private_turns.Turned.{turn_is, ready_slot}
use Rattle.kernel_model.specs.Slots.{moved_status, moved_process, moved_slot, SameButSlots}
use Rattle.law_turns.specs.TakenToo.{IsTurnTakenToo, AreTurnsTakenToo}
use Rattle.law_turns.proofs.slot_numbers.Slots.{exactly}
use Rattle.law_turns.proofs.slot_numbers.Tables.{Moves, dispatched_moved}
use Rattle.law_turns.proofs.slot_numbers.Acted.{Mid, but_slots, acted_under}

-- ---- a dispatch

alive_status : (s : Status) → is_runnable_status s ≡ true → is_zombie_status s ≡ false
alive_status Runnable is = refl
alive_status (Running h) is = refl
alive_status (Asleep c) is = refl
alive_status Zombie is = absurd (let z : ⊥ = cc in z)

ready_status : (to : ℕ → ℕ) (s : Status) → is_runnable_status s ≡ true → is_runnable_status (moved_status to s) ≡ true
ready_status to Runnable is = refl
ready_status to (Running h) is = is
ready_status to (Asleep c) is = is
ready_status to Zombie is = is

child_status : {S : Type 0} (q : ℕ) (s : Status) (x : Slot S) → is_child_of q (with_status s x) ≡ is_child_of q x
child_status q s None = refl
child_status q s (Some p) = refl

lives_running : {S : Type 0} (x : Slot S) → Lives x → Lives (with_status (Running 0) x)
lives_running None l = l
lives_running (Some p) l = record { used = refl; alive = refl }

sleeps_running : {S : Type 0} (x : Slot S) (q : ℕ) → SleepsOn (with_status (Running 0) x) (Children q) → ⊥
sleeps_running None q s = s
sleeps_running (Some p) q s = let z : ⊥ = cc in z

module _ {S : Type 0} (t : Table S) (pid : ℕ) where
  -- what holds of each slot holds of it after a dispatch
  slot_by : (Q : Slot S → Type 0) (i : ℕ) → ((i ≡ pid) → Q (with_status (Running 0) (at t pid))) → Q (at t i) → Q (at (dispatched t pid 0) i)
  slot_by Q i at_pid other = by (cases_eq i pid) where
    by : (i ≡ pid) ⊎ (i ≢ pid) → Q (at (dispatched t pid 0) i)
    by (inl is) = subst Q (sym (ap (at (dispatched t pid 0)) is ∙ written (with_status (Running 0)) refl t pid)) (at_pid is)
    by (inr ne) = subst Q (sym (kept t pid i (with_status (Running 0) (at t pid)) ne)) other

  lives_on : (i : ℕ) → Lives (at t i) → Lives (at (dispatched t pid 0) i)
  lives_on i l = slot_by (λ x. Lives x) i (λ is. lives_running (at t pid) (subst (λ (j : ℕ). Lives (at t j)) is l)) l

  child_before : (i q : ℕ) → is_child_of q (at (dispatched t pid 0) i) ≡ is_child_of q (at t i)
  child_before i q = slot_by (λ x. is_child_of q x ≡ is_child_of q (at t i)) i (λ is. child_status q (Running 0) (at t pid) ∙ ap (λ (j : ℕ). is_child_of q (at t j)) (sym is)) refl

  sleeps_before : (i q : ℕ) → SleepsOn (at (dispatched t pid 0) i) (Children q) → SleepsOn (at t i) (Children q)
  sleeps_before i q = slot_by (λ x. SleepsOn x (Children q) → SleepsOn (at t i) (Children q)) i (λ is s. absurd (sleeps_running (at t pid) q s)) (λ s. s)

  mid_of : length (dispatched t pid 0) ≡ PROCS → IsFamily t → ((i q : ℕ) → SleepsOn (at t i) (Children q) → q ≡ i) → Lives (at t pid) → Mid (dispatched t pid 0) pid
  mid_of long family own alive =
      record {
        long = long;
        names = record { parents = λ i q is. lives_on q (family.parents i q (sym (child_before i q) ∙ is)); own = λ i q s. own i q (sleeps_before i q s) };
        init = lives_on 0 family.init;
        alive = lives_on pid alive;
      }

-- ---- a turn

module _ {S : Type 0} (call : S → Reply → Call) (next : S → Reply → S) where
  -- a kernel in the middle of a turn
  settled_mid : (k : KernelState S) (pid : ℕ) (x : Process S) → IsSettled call k → at k.table pid ≡ Some x → is_runnable_status x.status ≡ true → Mid (counted (given_0 k pid)).table pid
  settled_mid k pid x b there ready =
      mid_of k.table pid (length-set k.table pid (with_status (Running 0) (at k.table pid)) ∙ b.still.sound.slots) b.rests.family (λ i q s. (b.rests.waits i (Children q) s).0)
      (record { used = ap is_free there; alive = ap is_zombie there ∙ alive_status x.status ready })

  pub begun_mid : (k : KernelState S) (pid : ℕ) (x : Process S) → IsBegun call next k → at k.table pid ≡ Some x → is_runnable_status x.status ≡ true → Mid (counted (given_0 k pid)).table pid
  begun_mid k pid x b there ready = settled_mid k pid x (begun_settled call next k b) there ready

  module _ (k l : KernelState S) (b : IsSettled call k) (d : IsStill l) (a : SameButSlots k l) (pid : ℕ) (x : Process S) (there : at k.table pid ≡ Some x) (ready : is_runnable_status x.status ≡ true) where
    n : Numbering
    n = a.numbering

    me : ℕ
    me = a.numbering.to pid

    lives : Lives (at k.table pid)
    lives = record { used = ap is_free there; alive = ap is_zombie there ∙ alive_status x.status ready }

    mine : at l.table (a.numbering.to pid) ≡ moved_slot a.numbering.to (at k.table pid)
    mine = exactly a.numbering (at k.table pid) (at l.table (a.numbering.to pid)) (a.moved.slots pid) lives.alive

    both : Moves a.numbering pid (a.numbering.to pid) k.table l.table
    both = record { moved = a.moved; number = refl; mine = mine }

    dispatched_both : Moves a.numbering pid (a.numbering.to pid) (counted (given_0 k pid)).table (counted (given_0 l (a.numbering.to pid))).table
    dispatched_both = dispatched_moved a.numbering pid (a.numbering.to pid) k.table l.table both

    there_l : at l.table (a.numbering.to pid) ≡ Some (moved_process a.numbering.to x)
    there_l = mine ∙ ap (moved_slot a.numbering.to) there

    left : SameButSlots (turned call next k pid x false) (turned call next l (a.numbering.to pid) (moved_process a.numbering.to x) false)
    left =
        let dk : KernelState S = counted (given_0 k pid) in
        let u : Table S = (counted (given_0 l (a.numbering.to pid))).table in
        let it = acted_under a.numbering pid (a.numbering.to pid) (next x.machine x.reply) dk u dispatched_both (settled_mid k pid x b there ready)
        (length-set l.table (a.numbering.to pid) (with_status (Running 0) (at l.table (a.numbering.to pid))) ∙ d.sound.slots) (call x.machine x.reply) false in
        let same_l : record dk { table = u } ≡ counted (given_0 l (a.numbering.to pid)) = ap (λ (j : KernelState S). record (counted (counted j)) { table = u }) a.rest in
        subst (λ (j : KernelState S). SameButSlots (turned call next k pid x false) (acted j (a.numbering.to pid) (next x.machine x.reply) (call x.machine x.reply) false)) same_l
        (but_slots pid (a.numbering.to pid) _ _ it)

    taken : (now : KernelState S) → after_turn call next k pid ≡ Some now → IsTurnTakenToo call next l (a.numbering.to pid) now
    taken now is =
        let here : Some (turned call next k pid x false) ≡ Some now = sym (turn_is call next k pid x b.still there ready) ∙ is in
        let same : turned call next k pid x false ≡ now = cc in
        record {
          after = turned call next l (a.numbering.to pid) (moved_process a.numbering.to x) false;
          turn = turn_is call next l (a.numbering.to pid) (moved_process a.numbering.to x) d there_l (ready_status a.numbering.to x.status ready);
          same = subst (λ (j : KernelState S). SameButSlots j (turned call next l (a.numbering.to pid) (moved_process a.numbering.to x) false)) same left;
        }

  pub settled_taken : (k l now : KernelState S) (pid : ℕ) (a : SameButSlots k l) → IsSettled call k → IsStill l → after_turn call next k pid ≡ Some now → IsTurnTakenToo call next l (a.numbering.to pid) now
  settled_taken k l now pid a b d is =
      let r = ready_slot (at k.table pid) (could_turn call next k (record { pid = pid; refused = false }) (now, is)) in
      taken k l b d a pid r.process r.there r.ready now is

  pub turn_taken : (k l now : KernelState S) (pid : ℕ) (a : SameButSlots k l) → IsBegun call next k → IsBegun call next l → after_turn call next k pid ≡ Some now → IsTurnTakenToo call next l (a.numbering.to pid) now
  turn_taken k l now pid a b d is = settled_taken k l now pid a (begun_settled call next k b) (begun_still call next l d) is

  -- ---- turns

  then_taken : (l m : KernelState S) (pid many : ℕ) (now : KernelState S) (one : IsTurnTakenToo call next l pid now) → AreTurnsTakenToo call next one.after many m → AreTurnsTakenToo call next l (many + 1) m
  then_taken l m pid many now one later =
      record {
        pids = pid ∷ later.pids;
        long = omega (arith, later.long);
        last = later.last;
        turns = ap (λ (o : Option (KernelState S)). by_turns call next o (quiet_turns later.pids)) one.turn ∙ later.turns;
        same = later.same;
      }

  pub turns_taken : (k l m : KernelState S) (pids : List ℕ) → SameButSlots k l → IsBegun call next k → IsBegun call next l → after_turns call next k pids ≡ Some m → AreTurnsTakenToo call next l (length pids) m
  turns_taken k l m [] a b d is =
      let same : k ≡ m = cc in
      record { pids = []; long = refl; last = l; turns = refl; same = subst (λ (j : KernelState S). SameButSlots j l) same a }
  turns_taken k l m (pid ∷ pids) a b d is = by (after_turn call next k pid) refl (λ j i. turns_taken j i m pids) is where
    by : (o : Option (KernelState S)) → after_turn call next k pid ≡ o → ((j i : KernelState S) → SameButSlots j i → IsBegun call next j → IsBegun call next i → after_turns call next j pids ≡ Some m → AreTurnsTakenToo call next i (length pids) m)
        → by_turns call next o (quiet_turns pids) ≡ Some m → AreTurnsTakenToo call next l (length (pid ∷ pids)) m
    by None first on rest = absurd (no_run call next (turn_events (quiet_turns pids)) (turn_notes (quiet_turns pids)) m rest)
    by (Some j) first on rest =
        let one = turn_taken k l j pid a b d first in
        let later = on j one.after one.same (begun_on call next k j (pid ∷ []) b first) (begun_on call next l one.after (a.numbering.to pid ∷ []) d one.turn) rest in
        subst (λ (i : ℕ). AreTurnsTakenToo call next l i m) (omega arith) (then_taken l m (a.numbering.to pid) (length pids) j one later)
