-- Whatever turns one kernel can take, one that is alike can take.
use Rattle.std.proofs.Common.{◌≡◌, ℕ, List, [], ◌∷◌, Bool, true, false, Option, Some, None, refl, sym, ap, subst, ◌∙◌}
use Rattle.std.specs.Prelude.{if◌then◌else◌, ◌&&◌, not, is_some, position, nat_lt}
use Rattle.std.proofs.lemmas.Bool.{and_parts}
use Rattle.user_calls.specs.declared.calls.Call.{Call}
use Rattle.user_calls.specs.declared.calls.Reply.{Reply}
use Rattle.proc_table.specs.declared.states.Status.{Status}
use Rattle.proc_table.specs.declared.states.Status.TheVariants.{Runnable, Running, Asleep, Zombie}
use Rattle.proc_table.specs.declared.table.TheConstants.{HARTS}
use Rattle.proc_table.specs.Slots.{Slot, at, is_runnable, is_runnable_status, is_running, is_running_status, is_running_on}
use Rattle.proc_table.specs.Calls.{dispatched}
use Rattle.kernel_model.specs.Quiet.{no_refusals}
use Rattle.kernel_model.specs.declared.events.Event.{Event}
use Rattle.kernel_model.specs.declared.events.Event.TheVariants.{Dispatch, Trap}
use Rattle.kernel_model.specs.KernelState.{KernelState}
use Rattle.kernel_model.specs.Events.{counted, can_dispatch, happens, then_happens}
use Rattle.kernel_model.proofs.Lasting.{no_run}
use Rattle.kernel_model.specs.Idle.{idle_slot, idle_status}
use Rattle.kernel_model.specs.Alike.{Alike, IsStill}
use Rattle.kernel_model.specs.Turns.{Turn, callers, quiet_turns, turns_of, turn_events, turn_notes, by_turns}
use Rattle.law_turns.proofs.orders.Follow.{slots_alike, none_runs, after_turn, given_happens, turn_happens, turn_still}
use Rattle.law_turns.proofs.orders.Turning.{followed}

idle_runnable : (name : ℕ → ℕ) (s : Status) → is_runnable_status s ≡ true → is_runnable_status (idle_status name s) ≡ true
idle_runnable name Runnable is = is
idle_runnable name (Running h) is = refl
idle_runnable name (Asleep c) is = is
idle_runnable name Zombie is = is

idle_slot_runnable : {S : Type 0} (name : ℕ → ℕ) (x : Slot S) → is_runnable x ≡ true → is_runnable (idle_slot name x) ≡ true
idle_slot_runnable name None is = is
idle_slot_runnable name (Some p) is = idle_runnable name p.status is

runnable_before : (name : ℕ → ℕ) (s : Status) → is_runnable_status (idle_status name s) ≡ true → is_running_status s ≡ false → is_runnable_status s ≡ true
runnable_before name Runnable is still = is
runnable_before name (Running h) is still = absurd (let z : ⊥ = cc in z)
runnable_before name (Asleep c) is still = is
runnable_before name Zombie is still = is

slot_before : {S : Type 0} (name : ℕ → ℕ) (x : Slot S) → is_runnable (idle_slot name x) ≡ true → is_running x ≡ false → is_runnable x ≡ true
slot_before name None is still = is
slot_before name (Some p) is still = runnable_before name p.status is still

runnable_too : {S : Type 0} (k l : KernelState S) (a : Alike k l) (pid : ℕ) → IsStill k → is_runnable (at l.table pid) ≡ true → is_runnable (at k.table pid) ≡ true
runnable_too k l a pid still is =
    slot_before a.first (at k.table pid) (ap is_runnable (slots_alike k l a pid) ∙ idle_slot_runnable a.second (at l.table pid) is) (none_runs k.table pid still.idle)

module _ {S : Type 0} (call : S → Reply → Call) (next : S → Reply → S) where
  -- the turn leads from k to a still kernel
  pub record OneTurn (k : KernelState S) (t : Turn) : Type 0 where
    pub now : KernelState S
    pub runs : by_turns call next (Some k) (t ∷ []) ≡ Some now
    pub still : IsStill now

  one_turn : (k : KernelState S) (t : Turn) (x : Slot S) → at k.table t.pid ≡ x → is_runnable x ≡ true → IsStill k → OneTurn k t
  one_turn k t None there ready still = absurd (let z : ⊥ = cc in z)
  one_turn k t (Some q) there ready still =
      record {
        now = after_turn call next k t.pid q t.refused;
        runs = ap (λ (o : Option (KernelState S)). then_happens call next o (Trap 0 t.pid) t.refused) (given_happens call next k t.pid q t.refused still there ready) ∙ turn_happens call next k t.pid q t.refused still there ready;
        still = turn_still call next k t.pid q t.refused still there ready;
      }

  was_runnable : (l i : KernelState S) (t : Turn) → then_happens call next (happens call next l (Dispatch 0 t.pid) false) (Trap 0 t.pid) t.refused ≡ Some i → is_runnable (at l.table t.pid) ≡ true
  was_runnable l i t is = by (can_dispatch l.table 0 t.pid) refl is where
    by : (b : Bool) → can_dispatch l.table 0 t.pid ≡ b → then_happens call next (if b then Some (record (counted l) { table = dispatched l.table t.pid 0 }) else None) (Trap 0 t.pid) t.refused ≡ Some i → is_runnable (at l.table t.pid) ≡ true
    by true can some = (and_parts (nat_lt 0 HARTS && not (is_some (position (is_running_on 0) l.table))) (is_runnable (at l.table t.pid)) can).1
    by false can some = absurd (let z : ⊥ = cc in z)

  -- these turns lead from k to a still kernel that is alike to m, which is still too
  pub record Matched (k : KernelState S) (ts : List Turn) (m : KernelState S) : Type 0 where
    pub last : KernelState S
    pub runs : by_turns call next (Some k) ts ≡ Some last
    pub alike : Alike last m
    pub still : IsStill last
    pub still_too : IsStill m

  matched_more : (k m : KernelState S) (t : Turn) (ts : List Turn) (one : OneTurn k t) → Matched one.now ts m → Matched k (t ∷ ts) m
  matched_more k m t ts one later =
      record {
        last = later.last;
        runs = ap (λ (o : Option (KernelState S)). by_turns call next o ts) one.runs ∙ later.runs;
        alike = later.alike;
        still = later.still;
        still_too = later.still_too;
      }

  pub matched : (k l m : KernelState S) (ts : List Turn) → by_turns call next (Some l) ts ≡ Some m → Alike k l → IsStill k → IsStill l → Matched k ts m
  matched k l m [] is a still too =
      let same : l ≡ m = cc in
      record { last = k; runs = refl; alike = subst (λ (j : KernelState S). Alike k j) same a; still = still; still_too = subst (λ (j : KernelState S). IsStill j) same too }
  matched k l m (t ∷ ts) is a still too = by (then_happens call next (happens call next l (Dispatch 0 t.pid) false) (Trap 0 t.pid) t.refused) refl (λ j i. matched j i m ts) is where
    by : (o : Option (KernelState S)) → then_happens call next (happens call next l (Dispatch 0 t.pid) false) (Trap 0 t.pid) t.refused ≡ o → ((j i : KernelState S) → by_turns call next (Some i) ts ≡ Some m → Alike j i → IsStill j → IsStill i → Matched j ts m) → by_turns call next o ts ≡ Some m → Matched k (t ∷ ts) m
    by None first on rest = absurd (no_run call next (turn_events ts) (turn_notes ts) m rest)
    by (Some i) first on rest =
        let one = one_turn k t (at k.table t.pid) refl (runnable_too k l a t.pid still (was_runnable l i t first)) still in
        let f = followed call next k l one.now (turn_events (t ∷ [])) (turn_notes (t ∷ [])) one.runs (record { alike = a; names = still.names }) too in
        let both : Some f.last ≡ Some i = sym f.runs ∙ first in
        let same : f.last ≡ i = cc in
        matched_more k m t ts one (on one.now i rest (subst (λ (j : KernelState S). Alike one.now j) same f.alike) one.still (subst (λ (j : KernelState S). IsStill j) same f.still))

pub alike_back : {S : Type 0} (k l : KernelState S) → Alike k l → Alike l k
alike_back k l a = record { first = a.second; second = a.first; first_one_to_one = a.second_one_to_one; second_one_to_one = a.first_one_to_one; same = sym a.same }

module _ {S : Type 0} (call : S → Reply → Call) (next : S → Reply → S) where
  pub can_turn : (k : KernelState S) (t : Turn) → IsStill k → is_runnable (at k.table t.pid) ≡ true → (now : KernelState S) × (by_turns call next (Some k) (t ∷ []) ≡ Some now)
  can_turn k t still ready = let one = one_turn call next k t (at k.table t.pid) refl ready still in (one.now, one.runs)

  pub could_turn : (k : KernelState S) (t : Turn) → (now : KernelState S) × (by_turns call next (Some k) (t ∷ []) ≡ Some now) → is_runnable (at k.table t.pid) ≡ true
  could_turn k t is = was_runnable call next k is.0 t is.1

pub quiet_is : (es : List Event) → turns_of es (no_refusals es) ≡ quiet_turns (callers es)
quiet_is [] = refl
quiet_is (Dispatch h pid ∷ es) = quiet_is es
quiet_is (Trap h pid ∷ es) = ap (λ (ts : List Turn). record { pid = pid; refused = false } ∷ ts) (quiet_is es)
