-- A turn that changes only its process's slot can be taken before or after any other process's turn.
use Rattle.std.proofs.Common.{◌≡◌, ◌≢◌, ℕ, zero, suc, ◌+◌, List, [], ◌∷◌, true, false, Option, Some, None, refl, sym, ap, subst, ◌∙◌, arith}
use Rattle.std.proofs.Math.ListN.{set}
use Rattle.std.proofs.lemmas.List.{map-set}
use Rattle.std.specs.Prelude.{map}
use Rattle.user_calls.specs.declared.calls.Call.{Call}
use Rattle.user_calls.specs.declared.calls.Reply.{Reply}
use Rattle.proc_table.specs.declared.states.Status.{Status}
use Rattle.proc_table.specs.declared.states.Status.TheVariants.{Runnable, Running, Asleep, Zombie}
use Rattle.proc_table.specs.Slots.{Slot, Table, Process, at, is_free, is_runnable, is_runnable_status}
use Rattle.proc_table.specs.Calls.{dispatched, with_status, made_ready, readied}
use Rattle.proc_table.proofs.Changes.{written, kept, mapped}
use Rattle.kernel_model.specs.declared.events.Event.TheVariants.{Trap}
use Rattle.kernel_model.specs.KernelState.{KernelState}
use Rattle.kernel_model.specs.Replies.{answered}
use Rattle.kernel_model.specs.Events.{acted, counted, then_happens}
use Rattle.law_kernel.proofs.outcomes.Outcomes.{every_call_ends}
use Rattle.kernel_model.specs.Idle.{idle_slot, idle_kernel}
use Rattle.kernel_model.specs.Alike.{Alike, IsStill, HasNamesUpTo}
use Rattle.kernel_model.specs.Turns.{after_turn}
use Rattle.law_turns.proofs.orders.Names.{acted_alike}
use Rattle.law_turns.proofs.orders.Follow.{after_turn as turned, given_0, given_happens, turn_happens, turn_still, given_names}
use Rattle.law_turns.proofs.orders.Back.{could_turn}
use Rattle.law_turns.proofs.orders.Turning.{relike}
use Rattle.law_turns.proofs.orders.Booted.{alike_itself}
use Rattle.law_turns.specs.Retold.{Left, retold_slot, retold_table, retold}
use Rattle.law_turns.proofs.private_turns.Unseen.{status_told}
use Rattle.law_turns.proofs.private_turns.Unheard.{acted_told}
use Rattle.law_turns.proofs.private_turns.Staying.{Holds, holds_alive, in_own, ends_keeping}

-- ---- lists

pub set_twice : {X : Type 0} (xs : List X) (i : ℕ) (x y : X) → set (set xs i x) i y ≡ set xs i y
set_twice [] i x y = refl
set_twice (z ∷ xs) zero x y = refl
set_twice (z ∷ xs) (suc i) x y = ap (λ (l : List _). z ∷ l) (set_twice xs i x y)

-- ---- names

told_idle : {S : Type 0} (l : Left S) (name : ℕ → ℕ) (x : Slot S) → idle_slot name (retold_slot l x) ≡ retold_slot l (idle_slot name x)
told_idle l name None = refl
told_idle l name (Some p) = refl

pub idle_told : {S : Type 0} (p : ℕ) (l : Left S) (name : ℕ → ℕ) (t : Table S) → map (idle_slot name) (retold_table p l t) ≡ retold_table p l (map (idle_slot name) t)
idle_told p l name t =
    map-set (idle_slot name) t p (retold_slot l (at t p)) ∙ ap (λ (y : Slot _). set (map (idle_slot name) t) p y) (told_idle l name (at t p) ∙ ap (retold_slot l) (sym (mapped (idle_slot name) refl t p)))

told_names : {S : Type 0} (p : ℕ) (l : Left S) (n : ℕ) (k : KernelState S) → HasNamesUpTo n k → HasNamesUpTo n (retold p l k)
told_names p l n k names f g one two agree =
    (λ i. record (idle_kernel f 0 k) { table = idle_told p l f k.table i }) ∙ ap (retold p l) (names f g one two agree) ∙ sym (λ i. record (idle_kernel g 0 k) { table = idle_told p l g k.table i })

-- ---- turns

pub runnable_by : (s : Status) → is_runnable_status s ≡ true → s ≡ Runnable
runnable_by Runnable is = refl
runnable_by (Running h) is = absurd (let z : ⊥ = cc in z)
runnable_by (Asleep c) is = absurd (let z : ⊥ = cc in z)
runnable_by Zombie is = absurd (let z : ⊥ = cc in z)

-- a slot whose process is Runnable
pub record Ready {S : Type 0} (x : Slot S) : Type 0 where
  pub process : Process S
  pub there : x ≡ Some process
  pub ready : is_runnable_status process.status ≡ true

pub ready_slot : {S : Type 0} (x : Slot S) → is_runnable x ≡ true → Ready x
ready_slot None is = absurd (let z : ⊥ = cc in z)
ready_slot (Some p) is = record { process = p; there = refl; ready = is }

module _ {S : Type 0} (call : S → Reply → Call) (next : S → Reply → S) where
  pub turn_is : (k : KernelState S) (pid : ℕ) (x : Process S) → IsStill k → at k.table pid ≡ Some x → is_runnable_status x.status ≡ true → after_turn call next k pid ≡ Some (turned call next k pid x false)
  turn_is k pid x still there ready =
      ap (λ (o : Option (KernelState S)). then_happens call next o (Trap 0 pid) false) (given_happens call next k pid x false still there ready) ∙ turn_happens call next k pid x false still there ready

  -- what is left in p's slot stays there over another's turn
  pub turn_keeps : (k : KernelState S) (p q : ℕ) (x y : Process S) → q ≢ p → Holds x (at k.table p) → Holds x (at (turned call next k q y false).table p)
  turn_keeps k p q x y ne h =
      let d : KernelState S = counted (given_0 k q) in
      let before : Holds x (at d.table p) = in_own x p q ne k.table _ h in
      ends_keeping x p q ne d (next y.machine y.reply) (call y.machine y.reply) (turned call next k q y false) before (every_call_ends d q (next y.machine y.reply) (call y.machine y.reply) false)

  -- a call of p that only answers it, and another's turn
  module _ (p : ℕ) (x : Process S) (reply : Reply) (answers : (k : KernelState S) → acted k p (next x.machine x.reply) (call x.machine x.reply) false ≡ answered k p (next x.machine x.reply) reply) where
    -- what p's turn leaves in its slot
    abbrev pub left : Left S
    left = record { machine = next x.machine x.reply; reply = reply; fds = x.fds; put = 0 }

    -- p's turn where it is: two events, and what is left
    abbrev pub leaves : KernelState S → KernelState S
    leaves k = record (retold p left k) { events = k.events + 1 + 1 }

    slot_left : (y : Slot S) → Holds x y → made_ready (next x.machine x.reply) reply (with_status (Running 0) y) ≡ retold_slot left y
    slot_left y h =
        ap (λ (z : Slot S). made_ready (next x.machine x.reply) reply (with_status (Running 0) z)) h.there ∙
        (λ i. Some (record h.now { status = sym h.ready i; machine = next x.machine x.reply; reply = reply; fds = h.fds i; put = 0 })) ∙ sym (ap (retold_slot left) h.there)

    table_left : (t : Table S) → Holds x (at t p) → readied (dispatched t p 0) p (next x.machine x.reply) reply ≡ retold_table p left t
    table_left t h =
        ap (λ (y : Slot S). set (dispatched t p 0) p (made_ready (next x.machine x.reply) reply y)) (written (with_status (Running 0)) refl t p) ∙
        set_twice t p (with_status (Running 0) (at t p)) (made_ready (next x.machine x.reply) reply (with_status (Running 0) (at t p))) ∙ ap (λ (y : Slot S). set t p y) (slot_left (at t p) h)

    own_turn : (k : KernelState S) (now : Process S) → now.machine ≡ x.machine → now.reply ≡ x.reply → Holds x (at k.table p) → turned call next k p now false ≡ leaves k
    own_turn k now machine same h =
        (λ i. acted (counted (given_0 k p)) p (next (machine i) (same i)) (call (machine i) (same i)) false) ∙ answers (counted (given_0 k p)) ∙ (λ i. record (leaves k) { table = table_left k.table h i })

    own_is : (k : KernelState S) → IsStill k → Holds x (at k.table p) → after_turn call next k p ≡ Some (leaves k)
    own_is k still h =
        turn_is k p h.now still h.there (ap is_runnable_status h.ready) ∙ ap Some (own_turn k h.now h.machine h.reply h)

    own_still : (k : KernelState S) → IsStill k → Holds x (at k.table p) → IsStill (leaves k)
    own_still k still h = subst (λ (m : KernelState S). IsStill m) (own_turn k h.now h.machine h.reply h) (turn_still call next k p h.now false still h.there (ap is_runnable_status h.ready))

    -- what two turns in either order come to is alike
    pub record Either (k l : KernelState S) (q : ℕ) : Type 0 where
      pub first : after_turn call next k p ≡ Some (leaves k)
      pub still : IsStill l
      pub holds : Holds x (at l.table p)
      pub second : after_turn call next l p ≡ Some (leaves l)
      pub after : KernelState S
      pub third : after_turn call next (leaves k) q ≡ Some after
      pub after_still : IsStill after
      pub both_still : IsStill (leaves l)
      pub alike : Alike after (leaves l)

    either_by : (k : KernelState S) (q : ℕ) (y : Process S) → q ≢ p → IsStill k → Holds x (at k.table p) → at k.table q ≡ Some y → is_runnable_status y.status ≡ true → Either k (turned call next k q y false) q
    either_by k q y ne still h there ready =
        let l : KernelState S = turned call next k q y false in
        let l_still : IsStill l = turn_still call next k q y false still there ready in
        let l_holds : Holds x (at l.table p) = turn_keeps k p q x y ne h in
        let a : KernelState S = leaves k in
        let a_still : IsStill a = own_still k still h in
        let a_there : at a.table q ≡ Some y = kept k.table p q (retold_slot left (at k.table p)) ne ∙ there in
        let c : KernelState S = turned call next a q y false in
        let c_still : IsStill c = turn_still call next a q y false a_still a_there ready in
        let d : KernelState S = counted (given_0 k q) in
        let names : HasNamesUpTo k.events (retold p left d) = told_names p left k.events (counted (given_0 k q)) (given_names call next k q y false still there ready) in
        let given : counted (given_0 a q) ≡ record (retold p left d) { events = k.events + 1 + 1 + 1 + 1 } = λ i. record (counted (given_0 a q)) { table = status_told p left q ne k.table (Running 0) i } in
        let alike : Alike c (acted (retold p left d) q (next y.machine y.reply) (call y.machine y.reply) false) =
        subst (λ (m : KernelState S). Alike (acted m q (next y.machine y.reply) (call y.machine y.reply) false) (acted (retold p left d) q (next y.machine y.reply) (call y.machine y.reply) false)) (sym given)
        (acted_alike (record (retold p left d) { events = k.events + 1 + 1 + 1 + 1 }) (retold p left d) k.events k.events q (next y.machine y.reply) (call y.machine y.reply) false names names (omega arith) (omega arith) (relike (retold p left d) (record (retold p left d) { events = k.events + 1 + 1 + 1 + 1 }) (retold p left d) (retold p left d) (alike_itself (retold p left d)) refl refl)) in
        let d_holds : Holds x (at d.table p) = in_own x p q ne k.table _ h in
        let same : acted (retold p left d) q (next y.machine y.reply) (call y.machine y.reply) false ≡ retold p left l =
        acted_told p left q ne (next y.machine y.reply) d (call y.machine y.reply) false (ap is_free d_holds.there) (holds_alive x (at d.table p) d_holds) in
        let alike_l : Alike c (retold p left l) = subst (λ (m : KernelState S). Alike c m) same alike in
        record {
          first = own_is k still h;
          still = l_still;
          holds = l_holds;
          second = own_is l l_still l_holds;
          after = c;
          third = turn_is a q y a_still a_there ready;
          after_still = c_still;
          both_still = own_still l l_still l_holds;
          alike = relike c c (retold p left l) (leaves l) alike_l refl refl;
        }

    pub either : (k l : KernelState S) (q : ℕ) → q ≢ p → IsStill k → Holds x (at k.table p) → after_turn call next k q ≡ Some l → Either k l q
    either k l q ne still h second =
        let r = ready_slot (at k.table q) (could_turn call next k (record { pid = q; refused = false }) (l, second)) in
        let both : Some (turned call next k q r.process false) ≡ Some l = sym (turn_is k q r.process still r.there r.ready) ∙ second in
        let same : turned call next k q r.process false ≡ l = cc in
        subst (λ (m : KernelState S). Either k m q) same (either_by k q r.process ne still h r.there r.ready)
