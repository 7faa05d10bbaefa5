-- Who sleeps isn't seen: a kernel does what one does that it is alike to but for who sleeps.
use Rattle.std.proofs.Common.{◌≡◌, ◌⊎◌, ℕ, ◌<◌, [], ◌∷◌, true, false, Some, None, inl, inr, refl, sym, ap, subst, ◌∙◌, arith}
use Rattle.user_calls.specs.declared.calls.Call.{Call}
use Rattle.user_calls.specs.declared.calls.Reply.{Reply}
use Rattle.proc_table.specs.declared.states.Channel.{Channel}
use Rattle.proc_table.specs.declared.states.Status.{Status}
use Rattle.proc_table.specs.declared.states.Status.TheVariants.{Runnable, Running, Asleep, Zombie}
use Rattle.proc_table.specs.Slots.{Slot, Process, at, is_runnable, is_runnable_status, is_running}
use Rattle.kernel_model.specs.KernelState.{KernelState}
use Rattle.kernel_model.specs.Events.{acted, counted, IsFinished}
use Rattle.law_kernel.specs.Sleeping.{SleepsOn}
use Rattle.kernel_model.specs.Idle.{idle_slot, idle_status, idle_kernel}
use Rattle.kernel_model.specs.Alike.{Alike, HasNamesUpTo, IsStill}
use Rattle.kernel_model.specs.Outcome.{SameOutcome, outcome_of}
use Rattle.kernel_model.specs.Turns.{after_turn}
use Rattle.law_turns.proofs.orders.Tables.{map_swap, at_idle}
use Rattle.law_turns.proofs.orders.Names.{acted_alike}
use Rattle.law_turns.proofs.orders.Follow.{after_turn as turned, given_0, given_names, dispatch_idle, none_runs}
use Rattle.law_turns.proofs.orders.Back.{could_turn}
use Rattle.law_turns.proofs.orders.Keys.{one_key}
use Rattle.kernel_model.specs.Woke.{woke_status, woke_slot, woke_table, woke, AlikeAwake, SameKeyAwake}
use Rattle.kernel_model.specs.Begun.{DoesAwake, itself, likened}
use Rattle.kernel_model.specs.Reduced.{IsFollowing, ComesTo}
use Rattle.law_turns.proofs.private_turns.Woken.{at_woke}
use Rattle.law_turns.proofs.private_turns.Wakes.{acted_woke}
use Rattle.law_turns.proofs.private_turns.Fine.{FinePut, Fine}
use Rattle.law_turns.proofs.private_turns.Idling.{idle_call}
use Rattle.law_turns.proofs.private_turns.Turned.{turn_is, ready_slot, runnable_by}
use Rattle.law_turns.proofs.private_turns.Begun.{IsSettled, begun_on, begun_still, begun_settled}

-- ---- to wake and to be idle

woke_idle_status : (name : ℕ → ℕ) (s : Status) → idle_status name (woke_status s) ≡ woke_status (idle_status name s)
woke_idle_status name Runnable = refl
woke_idle_status name (Running h) = refl
woke_idle_status name (Asleep c) = refl
woke_idle_status name Zombie = refl

woke_idle_slot : {S : Type 0} (name : ℕ → ℕ) (x : Slot S) → idle_slot name (woke_slot x) ≡ woke_slot (idle_slot name x)
woke_idle_slot name None = refl
woke_idle_slot name (Some p) = λ i. Some (record p { status = woke_idle_status name p.status i })

woke_idle : {S : Type 0} (name : ℕ → ℕ) (k : KernelState S) → idle_kernel name 0 (woke k) ≡ woke (idle_kernel name 0 k)
woke_idle name k = λ i. record (idle_kernel name 0 k) { table = map_swap (idle_slot name) woke_slot (idle_slot name) woke_slot (woke_idle_slot name) k.table i }

woke_names : {S : Type 0} (n : ℕ) (k : KernelState S) → HasNamesUpTo n k → HasNamesUpTo n (woke k)
woke_names n k names f g one two agree = woke_idle f k ∙ ap woke (names f g one two agree) ∙ sym (woke_idle g k)

pub alike_awake : {S : Type 0} (k l : KernelState S) → Alike k l → AlikeAwake k l
alike_awake k l a =
    record {
      first = a.first;
      second = a.second;
      first_one_to_one = a.first_one_to_one;
      second_one_to_one = a.second_one_to_one;
      same = woke_idle a.first k ∙ ap woke a.same ∙ sym (woke_idle a.second l);
    }

pub one_key_awake : {S : Type 0} (k l : KernelState S) → SameKeyAwake k l → AlikeAwake k l
one_key_awake k l is =
    let a = one_key (woke k) (woke l) is in
    record { first = a.first; second = a.second; first_one_to_one = a.first_one_to_one; second_one_to_one = a.second_one_to_one; same = a.same }

-- ---- slots

slots_awake : {S : Type 0} (k l : KernelState S) (a : AlikeAwake k l) (pid : ℕ) → idle_slot a.first (woke_slot (at k.table pid)) ≡ idle_slot a.second (woke_slot (at l.table pid))
slots_awake k l a pid =
    ap (idle_slot a.first) (sym (at_woke k.table pid)) ∙ sym (at_idle a.first (woke_table k.table) pid) ∙ ap (λ (j : KernelState _). at j.table pid) a.same ∙ at_idle a.second (woke_table l.table) pid ∙ ap (idle_slot a.second) (at_woke l.table pid)

free_awake : {S : Type 0} (name : ℕ → ℕ) (x : Slot S) → idle_slot name (woke_slot x) ≡ None → x ≡ None
free_awake name None is = refl
free_awake name (Some p) is = absurd (let z : ⊥ = cc in z)

pub outcome_awake : {S : Type 0} (k l : KernelState S) → AlikeAwake k l → SameOutcome k l
outcome_awake k l a =
    let there : IsFinished k → IsFinished l = λ over pid other. free_awake a.second (at l.table pid) (sym (slots_awake k l a pid) ∙ ap (λ (x : Slot _). idle_slot a.first (woke_slot x)) (over pid other)) in
    let back : IsFinished l → IsFinished k = λ over pid other. free_awake a.first (at k.table pid) (slots_awake k l a pid ∙ ap (λ (x : Slot _). idle_slot a.second (woke_slot x)) (over pid other)) in
    record {
      outcome = ap outcome_of a.same;
      input = ap (λ (j : KernelState _). j.input) a.same;
      finished = (there, back);
    }

-- ---- a call in two kernels that are alike but for who sleeps

calls_awake : {S : Type 0} (j i : KernelState S) (m n p : ℕ) (after : S) (c : Call) → HasNamesUpTo m j → HasNamesUpTo n i → m < j.events → n < i.events → AlikeAwake j i → AlikeAwake (acted j p after c false) (acted i p after c false)
calls_awake j i m n p after c names names_too later later_too a =
    let before : Alike (woke j) (woke i) = record { first = a.first; second = a.second; first_one_to_one = a.first_one_to_one; second_one_to_one = a.second_one_to_one; same = a.same } in
    let b = acted_alike (woke j) (woke i) m n p after c false (woke_names m j names) (woke_names n i names_too) later later_too before in
    record {
      first = b.first;
      second = b.second;
      first_one_to_one = b.first_one_to_one;
      second_one_to_one = b.second_one_to_one;
      same = ap (idle_kernel b.first 0) (sym (acted_woke p after j c false)) ∙ woke_idle b.first (acted (woke j) p after c false) ∙ ap woke b.same ∙ sym (woke_idle b.second (acted (woke i) p after c false)) ∙ ap (idle_kernel b.second 0) (acted_woke p after i c false);
    }

-- a dispatch isn't seen
pub given_awake : {S : Type 0} (name : ℕ → ℕ) (l : KernelState S) (p : ℕ) → is_runnable (at l.table p) ≡ true → idle_kernel name 0 (woke (counted (given_0 l p))) ≡ idle_kernel name 0 (woke l)
given_awake name l p ready =
    woke_idle name (counted (given_0 l p)) ∙ ap woke (λ i. record (idle_kernel name 0 l) { table = dispatch_idle name l.table p 0 ready i }) ∙ sym (woke_idle name l)

-- ---- a process that is Runnable in one kernel, in another one

-- it is there with the same machine and reply, and Runnable, or asleep
pub record Elsewhere {S : Type 0} (y : Process S) (x : Slot S) : Type 0 where
  pub process : Process S
  pub there : x ≡ Some process
  pub machine : process.machine ≡ y.machine
  pub reply : process.reply ≡ y.reply
  pub status : (process.status ≡ Runnable) ⊎ ((c : Channel) × (process.status ≡ Asleep c))

status_by : (name : ℕ → ℕ) (s : Status) → idle_status name (woke_status s) ≡ Runnable → ((h : ℕ) → s ≡ Running h → ⊥) → (s ≡ Runnable) ⊎ ((c : Channel) × (s ≡ Asleep c))
status_by name Runnable is still = inl refl
status_by name (Running h) is still = absurd (still h refl)
status_by name (Asleep c) is still = inr (c, refl)
status_by name Zombie is still = absurd (let z : ⊥ = cc in z)

elsewhere_by : {S : Type 0} (f g : ℕ → ℕ) (y : Process S) (x : Slot S) → y.status ≡ Runnable → is_running x ≡ false → idle_slot f (woke_slot x) ≡ idle_slot g (woke_slot (Some y)) → Elsewhere y x
elsewhere_by f g y None ready still same = absurd (let z : ⊥ = cc in z)
elsewhere_by f g y (Some x) ready still same =
    let here : record x { status = idle_status f (woke_status x.status) } ≡ record y { status = idle_status g (woke_status y.status) } = cc in
    record {
      process = x;
      there = refl;
      machine = ap (λ (r : Process _). r.machine) here;
      reply = ap (λ (r : Process _). r.reply) here;
      status = status_by f x.status (ap (λ (r : Process _). r.status) here ∙ ap (λ (s : Status). idle_status g (woke_status s)) ready) (λ h runs.
          let no : true ≡ false = sym (ap (λ (s : Status). is_running (Some (record x { status = s }))) runs) ∙ still in
          let z : ⊥ = cc in z);
    }

sleeps_there : {S : Type 0} (x : Slot S) (p : Process S) (c : Channel) → x ≡ Some p → p.status ≡ Asleep c → SleepsOn x c
sleeps_there x p c there asleep = subst (λ (y : Slot _). SleepsOn y c) (sym there) asleep

fine_there : {S : Type 0} (x : Slot S) (p : Process S) → x ≡ Some p → Fine x → FinePut p.status p.put
fine_there x p there fine = subst (λ (y : Slot _). Fine y) there fine

module _ {S : Type 0} (call : S → Reply → Call) (next : S → Reply → S) where
  abbrev OneStep : KernelState S → KernelState S → ℕ → Type 0
  OneStep k now p = AlikeAwake k now ⊎ ((after : KernelState S) × (after_turn call next k p ≡ Some after) × AlikeAwake after now)

  module _ (k l : KernelState S) (p : ℕ) (b : IsSettled call k) (d : IsStill l) (a : AlikeAwake k l) (y : Process S) (there : at l.table p ≡ Some y) (ready : is_runnable_status y.status ≡ true) where
    abbrev dl : KernelState S
    dl = counted (given_0 l p)

    now_is : (x : Process S) → x.machine ≡ y.machine → x.reply ≡ y.reply → acted dl p (next x.machine x.reply) (call x.machine x.reply) false ≡ turned call next l p y false
    now_is x machine reply = λ i. acted dl p (next (machine i) (reply i)) (call (machine i) (reply i)) false

    l_names : HasNamesUpTo l.events dl
    l_names = given_names call next l p y false d there ready

    l_runs : is_runnable (at l.table p) ≡ true
    l_runs = ap is_runnable there ∙ ready

    -- Runnable in both
    taken : (x : Process S) → at k.table p ≡ Some x → x.status ≡ Runnable → x.machine ≡ y.machine → x.reply ≡ y.reply → OneStep k (turned call next l p y false) p
    taken x here runs machine reply =
        let still = b.still in
        let x_ready : is_runnable_status x.status ≡ true = ap is_runnable_status runs in
        let dk : KernelState S = counted (given_0 k p) in
        let before : AlikeAwake dk dl =
        record {
          first = a.first;
          second = a.second;
          first_one_to_one = a.first_one_to_one;
          second_one_to_one = a.second_one_to_one;
          same = given_awake a.first k p (ap is_runnable here ∙ x_ready) ∙ a.same ∙ sym (given_awake a.second l p l_runs);
        } in
        let both = calls_awake dk dl k.events l.events p (next x.machine x.reply) (call x.machine x.reply) (given_names call next k p x false still here x_ready) l_names (omega arith) (omega arith) before in
        inr (turned call next k p x false, turn_is call next k p x still here x_ready, subst (λ (m : KernelState S). AlikeAwake (turned call next k p x false) m) (now_is x machine reply) both)

    -- asleep in k: the turn comes to nothing
    left_out : (x : Process S) (c : Channel) → at k.table p ≡ Some x → x.status ≡ Asleep c → x.machine ≡ y.machine → x.reply ≡ y.reply → OneStep k (turned call next l p y false) p
    left_out x c here asleep machine reply =
        let still = b.still in
        let e : KernelState S = counted (counted k) in
        let before : AlikeAwake e dl =
        record {
          first = a.first;
          second = a.second;
          first_one_to_one = a.first_one_to_one;
          second_one_to_one = a.second_one_to_one;
          same = a.same ∙ sym (given_awake a.second l p l_runs);
        } in
        let both = calls_awake e dl k.events l.events p (next x.machine x.reply) (call x.machine x.reply) still.names l_names (omega arith) (omega arith) before in
        let nothing : woke (acted e p (next x.machine x.reply) (call x.machine x.reply) false) ≡ woke e =
        idle_call e p x here (next x.machine x.reply) c (call x.machine x.reply) false asleep (fine_there (at k.table p) x here (b.fine p))
        (b.rests.waits p c (sleeps_there (at k.table p) x c here asleep)) (b.asks p x c here asleep) in
        let after : AlikeAwake k (acted dl p (next x.machine x.reply) (call x.machine x.reply) false) =
        record {
          first = both.first;
          second = both.second;
          first_one_to_one = both.first_one_to_one;
          second_one_to_one = both.second_one_to_one;
          same = sym (ap (idle_kernel both.first 0) nothing) ∙ both.same;
        } in
        inl (subst (λ (m : KernelState S). AlikeAwake k m) (now_is x machine reply) after)

    step_by : Elsewhere y (at k.table p) → OneStep k (turned call next l p y false) p
    step_by w = by w.status where
      by : (w.process.status ≡ Runnable) ⊎ ((c : Channel) × (w.process.status ≡ Asleep c)) → OneStep k (turned call next l p y false) p
      by (inl runs) = taken w.process w.there runs w.machine w.reply
      by (inr asleep) = left_out w.process asleep.0 w.there asleep.1 w.machine w.reply

    found : Elsewhere y (at k.table p)
    found =
        elsewhere_by a.first a.second y (at k.table p) (runnable_by y.status ready) (none_runs k.table p b.still.idle) (slots_awake k l a p ∙ ap (λ (x : Slot S). idle_slot a.second (woke_slot x)) there)

  pub one_step : (k l now : KernelState S) (p : ℕ) → IsSettled call k → IsStill l → AlikeAwake k l → after_turn call next l p ≡ Some now → OneStep k now p
  one_step k l now p b d a is =
      let r = ready_slot (at l.table p) (could_turn call next l (record { pid = p; refused = false }) (now, is)) in
      let both : Some (turned call next l p r.process false) ≡ Some now = sym (turn_is call next l p r.process d r.there r.ready) ∙ is in
      let same : turned call next l p r.process false ≡ now = cc in
      subst (λ (m : KernelState S). OneStep k m p) same (step_by k l p b d a r.process r.there r.ready (found k l p b d a r.process r.there r.ready))

  -- ---- chains

  pub awake_on : (k l m : KernelState S) → DoesAwake call next k l → DoesAwake call next l m → DoesAwake call next k m
  awake_on k l m (itself j) more = more
  awake_on k l m (likened i j n b d alike rest) more = likened i j m b d alike (awake_on j n m rest more)

  pub follows_awake : (k l now : KernelState S) (p : ℕ) → DoesAwake call next k l → after_turn call next l p ≡ Some now → ComesTo (after_turn call next) (DoesAwake call next) k now
  follows_awake k l now p (itself j) is = inr (p, now, is, itself now)
  follows_awake k l now p (likened i j n b d alike rest) is = by (follows_awake j n now p rest is) where
    then : (q : ℕ) (mid : KernelState S) → after_turn call next j q ≡ Some mid → DoesAwake call next mid now → OneStep i mid q → ComesTo (after_turn call next) (DoesAwake call next) i now
    then q mid first more (inl same) = inl (likened i mid now b (begun_on call next j mid (q ∷ []) d first) same more)
    then q mid first more (inr s) = inr (q, s.0, s.1, likened s.0 mid now (begun_on call next i s.0 (q ∷ []) b s.1) (begun_on call next j mid (q ∷ []) d first) s.2 more)

    by : ComesTo (after_turn call next) (DoesAwake call next) j now → ComesTo (after_turn call next) (DoesAwake call next) i now
    by (inl more) = inl (likened i j now b d alike more)
    by (inr s) = then s.0 s.1 s.2 s.3 (one_step i j s.1 s.0 (begun_settled call next i b) (begun_still call next j d) alike s.2)

  pub following_awake : IsFollowing (after_turn call next) (DoesAwake call next)
  following_awake = record { itself = itself; on = awake_on; follows = follows_awake }
