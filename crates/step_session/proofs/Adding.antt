-- What a turn adds to the schedule, and that nobody runs after it.
use Rattle.std.proofs.Common.{◌≡◌, ℕ, zero, suc, ◌+◌, ◌*◌, ◌-◌, List, [], ◌∷◌, ◌++◌, Bool, true, false, Some, None, length, take, refl, sym, ap, subst, ◌∙◌, arith}
use Rattle.std.specs.Prelude.{count_by, if◌then◌else◌, cond}
use Rattle.mem_files.specs.Name.{Name, Bytes}
use Rattle.user_calls.specs.declared.calls.Call.{Call}
use Rattle.user_calls.specs.declared.calls.Reply.{Reply}
use Rattle.proc_table.specs.declared.states.Status.TheVariants.{Running}
use Rattle.proc_table.specs.Slots.{Slot, Table, at, is_running}
use Rattle.proc_table.specs.Calls.{dispatched, with_status}
use Rattle.proc_table.proofs.Changes.{written}
use Rattle.kernel_model.specs.declared.events.Event.{Event}
use Rattle.kernel_model.specs.declared.events.Event.TheVariants.{Dispatch, Trap}
use Rattle.kernel_model.specs.KernelState.{KernelState}
use Rattle.kernel_model.specs.Boot.{boot_kernel}
use Rattle.kernel_model.specs.Events.{can_dispatch, counted, is_dispatch}
use Rattle.kernel_model.specs.History.{History, GoesOn, IsTask}
use Rattle.kernel_model.specs.Turns.{callers, quiet_turns, turn_events}
use Rattle.step_session.specs.Sessions.{AreTurns, IsBegun, IsSession, Takes, first_kernel}
use Rattle.std.proofs.lemmas.List.Sums.{sum_by-cons}

pub first_is : {S : Type 0} (init shell : S) (input : Bytes) (list : List (Name × Bytes)) → first_kernel init shell input list ≡ boot_kernel init shell input list
unfolding first_kernel
first_is init shell input list = refl

-- ---- a process that is given to hart 0

begun_by : {S : Type 0} (x : Slot S) (machine : S) (reply : Reply) → IsTask x machine reply → IsBegun (with_status (Running 0) x) machine reply
begun_by None machine reply task = absurd task
begun_by (Some p) machine reply task = (refl, sym task.0, sym task.1)

module _ {S : Type 0} (call : S → Reply → Call) (next : S → Reply → S) where
  table_by : (k m : KernelState S) (pid : ℕ) (b : Bool) → (if b then Some (record (counted k) { table = dispatched k.table pid 0 }) else None) ≡ Some m → m.table ≡ dispatched k.table pid 0
  table_by k m pid true is = let same : record (counted k) { table = dispatched k.table pid 0 } ≡ m = cc in ap (λ (j : KernelState S). j.table) (sym same)
  table_by k m pid false is = absurd (let z : ⊥ = cc in z)

  pub begun : (old given : History S) (pid : ℕ) (machine : S) (reply : Reply) → GoesOn call next old (Dispatch 0 pid) given → IsTask (at old.now.table pid) machine reply → IsBegun (at given.now.table pid) machine reply
  begun old given pid machine reply goes task =
      let table : given.now.table ≡ dispatched old.now.table pid 0 = table_by old.now given.now pid (can_dispatch old.now.table 0 pid) goes.note.2 in
      subst (λ (x : Slot S). IsBegun x machine reply) (sym (ap (λ (t : Table S). at t pid) table ∙ written (with_status (Running 0)) refl old.now.table pid)) (begun_by (at old.now.table pid) machine reply task)

  -- ---- the schedule

  pub turn_adds : (old new : History S) (pid : ℕ) → Takes call next old pid new → new.schedule ≡ old.schedule ++ Dispatch 0 pid ∷ Trap 0 pid ∷ []
  turn_adds old new pid turn = turn.calls.schedule ∙ ap (λ (es : List Event). es ++ Trap 0 pid ∷ []) turn.begins.schedule ∙ both old.schedule where
    both : (es : List Event) → (es ++ Dispatch 0 pid ∷ []) ++ Trap 0 pid ∷ [] ≡ es ++ Dispatch 0 pid ∷ Trap 0 pid ∷ []
    both [] = refl
    both (e ∷ es) = ap (λ (rest : List Event). e ∷ rest) (both es)

  pub turn_boot : (old new : History S) (pid : ℕ) → Takes call next old pid new → new.boot ≡ old.boot
  turn_boot old new pid turn = turn.calls.boot ∙ turn.begins.boot

-- one turn more has two events more
one_more : (pids : List ℕ) (pid : ℕ) → turn_events (quiet_turns (pids ++ pid ∷ [])) ≡ turn_events (quiet_turns pids) ++ Dispatch 0 pid ∷ Trap 0 pid ∷ []
one_more [] pid = refl
one_more (first ∷ pids) pid = ap (λ (es : List Event). Dispatch 0 first ∷ Trap 0 first ∷ es) (one_more pids pid)

callers_more : (events : List Event) (pid : ℕ) → callers (events ++ Dispatch 0 pid ∷ Trap 0 pid ∷ []) ≡ callers events ++ pid ∷ []
callers_more [] pid = refl
callers_more (Dispatch h p ∷ events) pid = callers_more events pid
callers_more (Trap h p ∷ events) pid = ap (λ (pids : List ℕ). p ∷ pids) (callers_more events pid)

pub turns_more : (before after : List Event) (pid : ℕ) → AreTurns before → after ≡ before ++ Dispatch 0 pid ∷ Trap 0 pid ∷ [] → AreTurns after
turns_more before after pid turns is =
    is
    ∙ ap (λ (es : List Event). es ++ Dispatch 0 pid ∷ Trap 0 pid ∷ []) turns
    ∙ sym (one_more (callers before) pid)
    ∙ ap (λ (pids : List ℕ). turn_events (quiet_turns pids)) (sym (callers_more before pid) ∙ sym (ap callers is))

callers_are : (pids : List ℕ) → callers (turn_events (quiet_turns pids)) ≡ pids
callers_are [] = refl
callers_are (pid ∷ pids) = ap (λ (rest : List ℕ). pid ∷ rest) (callers_are pids)

turns_length : (pids : List ℕ) → length (turn_events (quiet_turns pids)) ≡ 2 * length pids
turns_length [] = refl
turns_length (pid ∷ pids) = omega (arith, turns_length pids)

pub long : (events : List Event) → AreTurns events → length events ≡ 2 * length (callers events)
long events turns = ap length turns ∙ turns_length (callers events)

count_cons : (e : Event) (events : List Event) → count_by is_dispatch (e ∷ events) ≡ cond (is_dispatch e) 1 0 + count_by is_dispatch events
count_cons e events = sum_by-cons (λ (x : Event). cond (is_dispatch x) 1 0) e events

dispatches : (pids : List ℕ) → count_by is_dispatch (turn_events (quiet_turns pids)) ≡ length pids
dispatches [] = refl
dispatches (pid ∷ pids) = omega (arith, count_cons (Dispatch 0 pid) (Trap 0 pid ∷ turn_events (quiet_turns pids)), count_cons (Trap 0 pid) (turn_events (quiet_turns pids)), dispatches pids)

-- nobody runs where each dispatch was followed by its trap
pub nobody : (events : List Event) (running : ℕ) → AreTurns events → length events + running ≡ 2 * count_by is_dispatch events → running ≡ 0
nobody events running turns paired = omega (arith, paired, long events turns, ap (count_by is_dispatch) turns, dispatches (callers events))

count_more : (events : List Event) (pid : ℕ) → count_by is_dispatch (events ++ Dispatch 0 pid ∷ Trap 0 pid ∷ []) ≡ count_by is_dispatch events + 1
count_more [] pid = refl
count_more (e ∷ events) pid = omega (arith, count_cons e (events ++ Dispatch 0 pid ∷ Trap 0 pid ∷ []), count_cons e events, count_more events pid)

length_more : (events : List Event) (pid : ℕ) → length (events ++ Dispatch 0 pid ∷ Trap 0 pid ∷ []) ≡ length events + 2
length_more [] pid = refl
length_more (e ∷ events) pid = omega (arith, length_more events pid)

-- as many run after a turn as before it
pub as_many : (before after : List Event) (pid ran runs : ℕ) → after ≡ before ++ Dispatch 0 pid ∷ Trap 0 pid ∷ [] → length before + ran ≡ 2 * count_by is_dispatch before → length after + runs ≡ 2 * count_by is_dispatch after → runs ≡ ran
as_many before after pid ran runs is was now =
    omega (arith, was, now, ap length is, length_more before pid, ap (count_by is_dispatch) is, count_more before pid)

-- ---- turns that are taken back

twice : (n : ℕ) → 2 * suc n ≡ suc (suc (2 * n))
twice n = omega arith

take_turns : (n : ℕ) (pids : List ℕ) → take (2 * n) (turn_events (quiet_turns pids)) ≡ turn_events (quiet_turns (take n pids))
take_turns zero pids = refl
take_turns (suc n) [] = let none : List Event = [] in ap (λ (m : ℕ). take m none) (twice n)
take_turns (suc n) (pid ∷ pids) =
    ap (λ (m : ℕ). take m (Dispatch 0 pid ∷ Trap 0 pid ∷ turn_events (quiet_turns pids))) (twice n)
    ∙ ap (λ (es : List Event). Dispatch 0 pid ∷ Trap 0 pid ∷ es) (take_turns n pids)

-- a beginning of turns is one of turns
fewer_by : (n : ℕ) (events : List Event) → AreTurns events → AreTurns (take (2 * n) events)
fewer_by n events turns =
    let is : take (2 * n) events ≡ turn_events (quiet_turns (take n (callers events))) = ap (take (2 * n)) turns ∙ take_turns n (callers events) in
    is ∙ ap (λ (pids : List ℕ). turn_events (quiet_turns pids)) (sym (callers_are (take n (callers events))) ∙ sym (ap callers is))

pub fewer : (n : ℕ) (events kept : List Event) → AreTurns events → kept ≡ take (length events - 2 * n) events → AreTurns kept
fewer n events kept turns is =
    let even : length events - 2 * n ≡ 2 * (length (callers events) - n) = omega (arith, long events turns) in
    subst AreTurns (sym (is ∙ ap (λ (m : ℕ). take m events) even)) (fewer_by (length (callers events) - n) events turns)

-- ---- sessions

module _ {S : Type 0} (call : S → Reply → Call) (next : S → Reply → S) where
  pub still : (old new : History S) (pid : ℕ) → Takes call next old pid new → length old.schedule + count_by is_running old.now.table ≡ 2 * count_by is_dispatch old.schedule → length new.schedule + count_by is_running new.now.table ≡ 2 * count_by is_dispatch new.schedule → (start : KernelState S) → IsSession start old → IsSession start new
  still old new pid turn was now start session = record {
    begun = turn_boot call next old new pid turn ∙ session.begun;
    turns = turns_more old.schedule new.schedule pid session.turns (turn_adds call next old new pid turn);
    idle = as_many old.schedule new.schedule pid (count_by is_running old.now.table) (count_by is_running new.now.table) (turn_adds call next old new pid turn) was now ∙ session.idle;
  }

pub unchanged : {S : Type 0} (old new : History S) → new ≡ old → (start : KernelState S) → IsSession start old → IsSession start new
unchanged old new same start session = subst (IsSession start) (sym same) session
