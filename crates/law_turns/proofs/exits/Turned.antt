-- A turn of a process that exits and holds no descriptor, and any other process's turn.
use Rattle.std.proofs.Common.{◌≡◌, ◌≢◌, ◌⊎◌, ℕ, zero, suc, ◌+◌, ◌<◌, [], ◌∷◌, Bool, true, false, Option, Some, None, length, inl, inr, refl, sym, ap, subst, ◌∙◌, arith}
use Rattle.std.proofs.Math.ListN.{set}
use Rattle.std.proofs.lemmas.Bool.{and_parts}
use Rattle.std.proofs.lemmas.List.{map-set}
use Rattle.std.specs.Prelude.{map, is_some, if◌then◌else◌}
use Rattle.user_calls.specs.declared.calls.Call.{Call}
use Rattle.user_calls.specs.declared.calls.Call.TheVariants.{Fork, Exec, Exit, Wait, MakePipe, Read, Write, OpenFile, Close, Dup}
use Rattle.user_calls.specs.declared.calls.Reply.{Reply}
use Rattle.user_calls.specs.declared.calls.Reply.TheVariants.{Done}
use Rattle.fd_table.specs.Descriptors.{entry_of}
use Rattle.fd_table.proofs.Lists.{position_found}
use Rattle.proc_table.specs.declared.pid.TheConstants.{PROCS}
use Rattle.proc_table.specs.declared.states.Channel.TheVariants.{Children}
use Rattle.proc_table.specs.declared.states.Status.TheVariants.{Runnable, Running}
use Rattle.proc_table.specs.Slots.{Slot, Table, Process, at, is_free, is_zombie, is_runnable_status, is_child_of, is_zombie_child_of, parent_of}
use Rattle.proc_table.specs.Calls.{dispatched, with_status, woken, wait_by as waited, parent_after, given, buried, exited, zombie_child, some_child, woken_by_exit, freed}
use Rattle.proc_table.proofs.Changes.{written, kept, exit_other}
use Rattle.kernel_model.specs.KernelState.{KernelState}
use Rattle.kernel_model.specs.Replies.{answered, sleeps}
use Rattle.kernel_model.specs.Processes.{wait, wait_by}
use Rattle.kernel_model.specs.Events.{acted, counted}
use Rattle.kernel_model.specs.Idle.{idle_slot, idle_kernel}
use Rattle.kernel_model.specs.Alike.{Alike, IsStill, HasNamesUpTo}
use Rattle.kernel_model.specs.Woke.{woke_slot, woke_table, woke, AlikeAwake}
use Rattle.kernel_model.specs.Begun.{IsBegun}
use Rattle.kernel_model.specs.Turns.{after_turn}
use Rattle.law_turns.proofs.orders.Tables.{exited_table}
use Rattle.law_turns.proofs.orders.Names.{acted_alike}
use Rattle.law_turns.proofs.orders.Follow.{after_turn as turned, given_0, turn_still}
use Rattle.law_turns.proofs.orders.Turning.{relike}
use Rattle.law_turns.proofs.orders.Booted.{alike_itself}
use Rattle.law_turns.proofs.private_turns.Awake.{alike_awake}
use Rattle.law_turns.proofs.private_turns.Begun.{begun_on, begun_still}
use Rattle.law_turns.proofs.private_turns.Staying.{Holds, holds_alive, in_own}
use Rattle.law_turns.proofs.private_turns.Turned.{turn_is, turn_keeps}
use Rattle.law_turns.proofs.private_turns.Woken.{at_woke, exited_told}
use Rattle.law_turns.proofs.entry_numbers.Numberings.{unchanged}
use Rattle.kernel_model.specs.Slots.{SameButSlots}
use Rattle.law_turns.proofs.slot_numbers.Acted.{Mid, but_slots, reaps}
use Rattle.law_turns.proofs.slot_numbers.Calls.{SameEntries, here, answering}
use Rattle.law_turns.proofs.slot_numbers.Same.{moves_itself}
use Rattle.law_turns.proofs.slot_numbers.Turns.{begun_mid}
use Rattle.law_turns.proofs.last_closes.Anyhow.{awake_anyhow}
use Rattle.law_turns.proofs.write_ends.Empty.{slept_woke}
use Rattle.law_turns.specs.Exits.{InEitherOrderAnyhow, IsDoneAnyhow, InEitherOrderReaping}
use Rattle.law_turns.proofs.exits.Buried.{buried_woke, IsBuried, burial, keeps, Both, both_woke, set_buried, change_buried, acted_so}
use Rattle.law_turns.proofs.exits.Waited.{Reaps, Waits, waits}
use Rattle.law_turns.proofs.exits.Exiting.{buries, own}

-- ---- a dispatch

run_slot : {S : Type 0} (x : Slot S) → woke_slot (with_status (Running 0) x) ≡ with_status (Running 0) (woke_slot x)
run_slot None = refl
run_slot (Some y) = refl

pub run_woke : {S : Type 0} (t : Table S) (q : ℕ) → woke_table (dispatched t q 0) ≡ dispatched (woke_table t) q 0
run_woke t q = map-set woke_slot t q (with_status (Running 0) (at t q)) ∙ ap (set (woke_table t) q) (run_slot (at t q) ∙ ap (with_status (Running 0)) (sym (at_woke t q)))

pub given_run : {S : Type 0} (p : ℕ) (x : Slot S) → with_status (Running 0) (given p x) ≡ given p (with_status (Running 0) x)
given_run p None = refl
given_run p (Some y) = refl

-- ---- two kernels that are the same once all are awake

pub same_awake : {S : Type 0} (k l : KernelState S) → idle_kernel (λ n. n) 0 (woke k) ≡ idle_kernel (λ n. n) 0 (woke l) → AlikeAwake k l
same_awake k l is = record { first = λ n. n; second = λ n. n; first_one_to_one = λ a b e. e; second_one_to_one = λ a b e. e; same = is }

-- alike, and then the same once all are awake
pub then_awake : {S : Type 0} (k b l : KernelState S) → Alike k b → woke b ≡ woke l → AlikeAwake k l
then_awake k b l a is =
    let w = alike_awake k b a in
    record { first = w.first; second = w.second; first_one_to_one = w.first_one_to_one; second_one_to_one = w.second_one_to_one; same = w.same ∙ ap (idle_kernel w.second 0) is }

-- ---- who is Runnable stays so over another process's exit

module _ {S : Type 0} where
  awake_by : (b : Bool) (t : Table S) (p : ℕ) (y : Process S) → (let once = woken (Children (parent_of (at t p))) (Some (record y { status = Runnable })) in if b then woken (Children 0) once else once) ≡ Some (record y { status = Runnable })
  awake_by true t p y = refl
  awake_by false t p y = refl

  pub stays_runnable : (t : Table S) (p q : ℕ) (y : Process S) → q ≢ p → at t q ≡ Some y → y.status ≡ Runnable → at (exited t p) q ≡ Some (record y { status = Runnable; parent = parent_after p y.parent })
  stays_runnable t p q y other there ready =
      exit_other t p q other ∙ ap (λ (x : Slot S). woken_by_exit t p (given p x)) (there ∙ (λ i. Some (record y { status = ready i }))) ∙
      awake_by (is_some (zombie_child t p)) t p (record y { parent = parent_after p y.parent })

-- ---- a wait that frees a zombie

module _ {S : Type 0} (q : ℕ) (after_q : S) where
  pub reaped_as : (j : KernelState S) (z : ℕ) → zombie_child j.table q ≡ Some z → wait j q after_q ≡ answered (record j { table = freed j.table (Some z) }) q after_q Done
  reaped_as j z is = ap (λ (o : Option ℕ). wait_by j q after_q (waited o (some_child j.table q))) is ∙ ap (λ (o : Option ℕ). answered (record j { table = freed j.table o }) q after_q Done) is

pub in_table : {S : Type 0} (q : ℕ) (t : Table S) (i : ℕ) → is_zombie_child_of q (at t i) ≡ true → i < length t
in_table q [] i is = absurd (let z : ⊥ = cc in z)
in_table q (x ∷ t) zero is = omega arith
in_table q (x ∷ t) (suc i) is = let less = in_table q t i is in omega (arith, less)

pub waits_or_not : (c : Call) → (c ≡ Wait) ⊎ (c ≢ Wait)
waits_or_not Fork = inr (λ is. let z : ⊥ = cc in z)
waits_or_not (Exec found) = inr (λ is. let z : ⊥ = cc in z)
waits_or_not Exit = inr (λ is. let z : ⊥ = cc in z)
waits_or_not Wait = inl refl
waits_or_not MakePipe = inr (λ is. let z : ⊥ = cc in z)
waits_or_not (Read fd n) = inr (λ is. let z : ⊥ = cc in z)
waits_or_not (Write fd b) = inr (λ is. let z : ⊥ = cc in z)
waits_or_not (OpenFile file mode) = inr (λ is. let z : ⊥ = cc in z)
waits_or_not (Close fd) = inr (λ is. let z : ⊥ = cc in z)
waits_or_not (Dup fd) = inr (λ is. let z : ⊥ = cc in z)

-- ---- both orders

module _ {S : Type 0} (call : S → Reply → Call) (next : S → Reply → S) (p : ℕ) (x : Process S) (exits : call x.machine x.reply ≡ Exit) (child : p ≢ 0) (bare : (fd : ℕ) → entry_of x.fds fd ≡ None)
    (k : KernelState S) (b : IsBegun call next k) (q : ℕ) (y : Process S) (other : q ≢ p) (h : Holds x (at k.table p)) (there : at k.table q ≡ Some y) (ready : y.status ≡ Runnable) where
  abbrev d : KernelState S
  d = counted (given_0 k q)

  abbrev after_q : S
  after_q = next y.machine y.reply

  abbrev c : Call
  c = call y.machine y.reply

  abbrev l : KernelState S
  l = turned call next k q y false

  abbrev a : KernelState S
  a = buries call next p x exits child bare k

  -- q, as it is after p's turn
  abbrev y_a : Process S
  y_a = record y { status = Runnable; parent = parent_after p y.parent }

  abbrev u : Table S
  u = dispatched (exited k.table p) q 0

  -- q dispatched after p's turn
  abbrev da : KernelState S
  da = record d { table = u; events = k.events + 1 + 1 + 1 + 1 }

  abbrev later : KernelState S
  later = acted da q after_q c false

  abbrev both : KernelState S
  both = buries call next p x exits child bare l

  still : IsStill k
  still = begun_still call next k b

  up : is_runnable_status y.status ≡ true
  up = ap is_runnable_status ready

  first : after_turn call next k p ≡ Some a
  first = own call next p x exits child bare k still h

  a_begun : IsBegun call next a
  a_begun = begun_on call next k a (p ∷ []) b first

  a_there : at a.table q ≡ Some y_a
  a_there = stays_runnable k.table p q y other there ready

  second : after_turn call next a q ≡ Some later
  second = turn_is call next a q y_a (begun_still call next a a_begun) a_there refl

  l_still : IsStill l
  l_still = turn_still call next k q y false still there up

  l_holds : Holds x (at l.table p)
  l_holds = turn_keeps call next k p q x y other h

  taken : after_turn call next l p ≡ Some both
  taken = own call next p x exits child bare l l_still l_holds

  d_holds : Holds x (at d.table p)
  d_holds = in_own x p q other k.table _ h

  used : is_free (at d.table p) ≡ false
  used = ap is_free d_holds.there

  alive : is_zombie (at d.table p) ≡ false
  alive = holds_alive x (at d.table p) d_holds

  -- to be dispatched, and another's burial
  start_so : IsBuried p q other d.table u
  start_so =
      run_woke (exited k.table p) q ∙ ap (λ (v : Table S). dispatched v q 0) (buried_woke k.table p) ∙ sym (run_woke (buried k.table p) q) ∙ ap woke_table (change_buried p q other (with_status (Running 0)) (given_run p) k.table)

  abbrev du : KernelState S
  du = record d { table = u }

  names_u : HasNamesUpTo k.events du
  names_u f g one two agree =
      let old : HasNamesUpTo k.events k = still.names in
      let t : Table S = k.table in
      let names : idle_kernel f 0 (record k { table = exited t p }) ≡ idle_kernel g 0 (record k { table = exited t p }) =
      (λ i. record (idle_kernel f 0 k) { table = sym (exited_table f one t p) i }) ∙ ap (λ (j : KernelState S). record j { table = exited j.table p }) (old f g one two agree) ∙ (λ i. record (idle_kernel g 0 k) { table = exited_table g two t p i }) in
      let run : (f : ℕ → ℕ) → map (idle_slot f) (dispatched (exited t p) q 0) ≡ set (map (idle_slot f) (exited t p)) q (Some (record y_a { status = Runnable })) =
      λ f. map-set (idle_slot f) (exited t p) q (with_status (Running 0) (at (exited t p) q)) ∙ ap (λ (z : Slot S). set (map (idle_slot f) (exited t p)) q (idle_slot f (with_status (Running 0) z))) a_there in
      (λ i. record (idle_kernel f 0 k) { table = run f i }) ∙ ap (λ (j : KernelState S). record j { table = set j.table q (Some (record y_a { status = Runnable })) }) names ∙ sym (λ i. record (idle_kernel g 0 k) { table = run g i })

  later_alike : Alike later (acted du q after_q c false)
  later_alike =
      acted_alike da du k.events k.events q after_q c false names_u names_u (omega arith) (omega arith) (relike du da du du (alike_itself du) refl refl)

  both_is : (j : KernelState S) → woke j ≡ woke (burial p q other l) → woke j ≡ woke (record l { table = exited l.table p })
  both_is j is = is ∙ sym (λ i. record (woke l) { table = buried_woke l.table p i })

  in_order : Both p q other l (acted du q after_q c false) → InEitherOrderAnyhow call next a l p q
  in_order s =
      let w = then_awake later (acted du q after_q c false) (record l { table = exited l.table p }) later_alike (both_is (acted du q after_q c false) (both_woke p q other l (acted du q after_q c false) s)) in
      record {
        after = later;
        second = second;
        both = both;
        taken = taken;
        alike = awake_anyhow later both (record { first = w.first; second = w.second; first_one_to_one = w.first_one_to_one; second_one_to_one = w.second_one_to_one; same = w.same });
      }

  -- q only fell asleep
  done : y.put ≡ 0 → l ≡ sleeps d q (Children q) 0 → IsDoneAnyhow call next a l p
  done put slept =
      let same : woke_table l.table ≡ woke_table k.table = ap (λ (j : KernelState S). woke_table j.table) slept ∙ slept_woke k.table q y (Children q) there ready put in
      let tables : woke_table (exited k.table p) ≡ woke_table (exited l.table p) = sym (exited_told k.table p) ∙ ap (λ (t : Table S). exited t p) (sym same) ∙ exited_told l.table p in
      let rest : record l { table = k.table; events = 0 } ≡ record k { events = 0 } = ap (λ (j : KernelState S). record j { table = k.table; events = 0 }) slept in
      record {
        both = both;
        taken = taken;
        alike = awake_anyhow a both (same_awake a both
            (sym (ap (λ (j : KernelState S). idle_kernel (λ n. n) 0 (woke (record j { table = exited k.table p }))) rest) ∙ (λ i. idle_kernel (λ n. n) 0 (record l { table = tables i }))));
      }

  -- a zombie is freed in both orders
  module _ (waits_next : c ≡ Wait) (r : Reaps p q other d.table u) where
    abbrev D : KernelState S
    D = record d { table = freed d.table (Some r.zombie) }

    -- the same one is freed after p's turn
    abbrev between : KernelState S
    between = answered (record da { table = freed u (Some r.zombie) }) q after_q Done

    dead : is_zombie_child_of q (at d.table r.zombie) ≡ true
    dead = (position_found (is_zombie_child_of q) d.table None r.zombie r.before).1

    not_p : r.zombie ≢ p
    not_p same =
        let gone : is_zombie (at d.table r.zombie) ≡ true = (and_parts (is_child_of q (at d.table r.zombie)) (is_zombie (at d.table r.zombie)) dead).1 in
        let no : true ≡ false = sym gone ∙ ap (λ (i : ℕ). is_zombie (at d.table i)) same ∙ alive in
        let z : ⊥ = cc in
        z

    not_q : r.zombie ≢ q
    not_q same =
        let runs : at d.table q ≡ Some (record y { status = Running 0 }) = written (with_status (Running 0)) refl k.table q ∙ ap (with_status (Running 0)) there in
        let gone : is_zombie (at d.table r.zombie) ≡ true = (and_parts (is_child_of q (at d.table r.zombie)) (is_zombie (at d.table r.zombie)) dead).1 in
        let no : true ≡ false = sym gone ∙ ap (λ (i : ℕ). is_zombie (at d.table i)) same ∙ ap is_zombie runs in
        let z : ⊥ = cc in
        z

    freed_so : IsBuried p q other (set d.table r.zombie None) (set u r.zombie None)
    freed_so =
        map-set woke_slot u r.zombie None ∙ ap (λ (t : Table S). set t r.zombie None) start_so ∙ sym (map-set woke_slot (buried d.table p) r.zombie None) ∙ ap woke_table (set_buried p q other r.zombie None None not_p refl d.table)

    l_is : l ≡ answered D q after_q Done
    l_is =
        ap (λ (m : Call). acted d q after_q m false) waits_next ∙ reaped_as q after_q d r.zombie r.before

    between_woke : woke between ≡ woke (record (burial p q other (answered D q after_q Done)) { events = k.events + 1 + 1 + 1 + 1 })
    between_woke =
        let s = answering q q (λ e. e) (SameEntries (IsBuried p q other)) (keeps p q other) after_q D (record D { table = set u r.zombie None }) Done
        (here q q (λ e. e) (SameEntries (IsBuried p q other)) (keeps p q other) D (set u r.zombie None) D.entries (freed_so, refl)) in
        ap (λ (j : KernelState S). record j { events = k.events + 1 + 1 + 1 + 1 }) (both_woke p q other (answered D q after_q Done) (answered (record D { table = set u r.zombie None }) q after_q Done) s)

    mid : Mid u q
    mid = begun_mid call next a q y_a a_begun a_there refl

    within : (i : ℕ) → is_zombie_child_of q (at u i) ≡ true → i < PROCS
    within i is = subst (λ (m : ℕ). i < m) mid.long (in_table q u i is)

    reaping : InEitherOrderReaping call next k a l p q
    reaping =
        let first_dead = position_found (is_zombie_child_of q) u None r.first r.found in
        let slots = reaps unchanged q q after_q da u (moves_itself u q) mid mid.long r.first r.zombie (within r.first first_dead.1) (within r.zombie r.stays) first_dead.1 r.stays in
        let later_is : later ≡ answered (record da { table = freed u (Some r.first) }) q after_q Done = ap (λ (m : Call). acted da q after_q m false) waits_next ∙ reaped_as q after_q da r.first r.found in
        record {
          reaps = record {
            process = y;
            there = there;
            ready = ready;
            calls = waits_next;
            zombie = r.zombie;
            dead = ap (is_zombie_child_of q) (sym (kept k.table q r.zombie (with_status (Running 0) (at k.table q)) not_q)) ∙ dead;
          };
          after = later;
          second = second;
          both = both;
          taken = taken;
          between = between;
          same = subst (λ (j : KernelState S). SameButSlots j between) (sym later_is) (but_slots q q _ _ slots);
          alike = awake_anyhow between both (same_awake between both
              (ap (idle_kernel (λ n. n) 0) between_woke ∙ ap (λ (j : KernelState S). idle_kernel (λ n. n) 0 (woke (burial p q other j))) (sym l_is) ∙ (λ i. idle_kernel (λ n. n) 0 (record l { table = sym (buried_woke l.table p) i }))));
        }

  pub either_by : (c ≡ Wait → y.put ≡ 0) → (q ≡ 0 → (i : ℕ) × (some_child d.table 0 ≡ Some i)) → InEitherOrderAnyhow call next a l p q ⊎ (IsDoneAnyhow call next a l p ⊎ InEitherOrderReaping call next k a l p q)
  either_by put rooted = by (waits_or_not c) where
    waiting : c ≡ Wait → Waits p q other after_q d u start_so alive rooted → InEitherOrderAnyhow call next a l p q ⊎ (IsDoneAnyhow call next a l p ⊎ InEitherOrderReaping call next k a l p q)
    waiting is (inl s) =
        let P : Call → Type 0 = λ m. Both p q other (acted d q after_q m false) (acted du q after_q m false) in
        inl (in_order (subst P (sym is) s))
    waiting is (inr (inl slept)) = inr (inl (done (put is) (ap (λ (m : Call). acted d q after_q m false) is ∙ slept)))
    waiting is (inr (inr r)) = inr (inr (reaping is r))

    by : (c ≡ Wait) ⊎ (c ≢ Wait) → InEitherOrderAnyhow call next a l p q ⊎ (IsDoneAnyhow call next a l p ⊎ InEitherOrderReaping call next k a l p q)
    by (inl is) = waiting is (waits p q other after_q d u start_so alive rooted)
    by (inr ne) = inl (in_order (acted_so p q other after_q d u start_so c ne used))
