-- A turn of a process that exits and can close at once whatever descriptors it holds, and any other process's turn.
use Rattle.std.proofs.Common.{◌≡◌, ◌≢◌, ◌⊎◌, ℕ, ◌+◌, ◌<◌, [], ◌∷◌, true, false, Option, Some, None, inl, inr, refl, sym, ap, subst, ◌∙◌, arith}
use Rattle.std.proofs.Math.ListN.{set}
use Rattle.std.proofs.lemmas.Bool.{and_parts, cases_eq}
use Rattle.std.proofs.lemmas.List.{map-set}
use Rattle.std.specs.Prelude.{map}
use Rattle.user_calls.specs.declared.calls.Call.{Call}
use Rattle.user_calls.specs.declared.calls.Call.TheVariants.{Exit, Wait, Read}
use Rattle.user_calls.specs.declared.calls.Reply.{Reply}
use Rattle.user_calls.specs.declared.calls.Reply.TheVariants.{Done}
use Rattle.fd_table.specs.declared.descriptors.TheConstants.{DESCRIPTORS}
use Rattle.fd_table.specs.Entries.{OpenFile as Opened}
use Rattle.fd_table.specs.Descriptors.{entry_of}
use Rattle.fd_table.proofs.Lists.{position_found}
use Rattle.proc_table.specs.declared.pid.TheConstants.{PROCS}
use Rattle.proc_table.specs.declared.states.Channel.TheVariants.{Children}
use Rattle.proc_table.specs.declared.states.Status.TheVariants.{Runnable, Running}
use Rattle.proc_table.specs.Slots.{Slot, Table, Process, at, is_free, is_zombie, is_runnable_status, is_child_of, is_zombie_child_of}
use Rattle.proc_table.specs.Calls.{dispatched, with_status, parent_after, buried, exited, zombie_child, some_child, freed}
use Rattle.proc_table.proofs.Changes.{written, kept}
use Rattle.kernel_model.specs.KernelState.{KernelState, file_at}
use Rattle.kernel_model.specs.Replies.{answered, sleeps}
use Rattle.kernel_model.specs.Descriptors.{closed_below}
use Rattle.kernel_model.specs.Events.{acted, counted}
use Rattle.law_kernel.proofs.kernel.Children.{none_at}
use Rattle.kernel_model.specs.Idle.{idle_slot, idle_kernel}
use Rattle.kernel_model.specs.Alike.{Alike, IsStill, HasNamesUpTo}
use Rattle.kernel_model.specs.Woke.{woke_slot, woke_table, woke}
use Rattle.kernel_model.specs.Anyhow.{AlikeAnyhow}
use Rattle.kernel_model.specs.Begun.{IsBegun}
use Rattle.kernel_model.specs.Closes.{FindsFree, IsClosedAtOnce}
use Rattle.kernel_model.specs.Turns.{after_turn}
use Rattle.law_turns.proofs.orders.Names.{acted_alike}
use Rattle.law_turns.proofs.orders.Follow.{after_turn as turned, given_0, given_names, turn_still}
use Rattle.law_turns.proofs.orders.Turning.{relike}
use Rattle.law_turns.proofs.orders.Booted.{alike_itself}
use Rattle.law_turns.proofs.private_turns.Begun.{begun_on, begun_still}
use Rattle.law_turns.proofs.private_turns.Staying.{Holds, holds_itself, holds_alive, in_own}
use Rattle.law_turns.proofs.private_turns.Turned.{turn_is, turn_keeps}
use Rattle.law_turns.proofs.entry_numbers.Numberings.{unchanged}
use Rattle.kernel_model.specs.Slots.{SameButSlots}
use Rattle.law_turns.proofs.slot_numbers.Acted.{Mid, but_slots, reaps}
use Rattle.law_turns.proofs.slot_numbers.Calls.{SameEntries, here, answering}
use Rattle.law_turns.proofs.slot_numbers.Same.{moves_itself}
use Rattle.law_turns.proofs.slot_numbers.Turns.{begun_mid}
use Rattle.law_turns.proofs.last_closes.Anyhow.{awake_anyhow}
use Rattle.law_turns.proofs.write_ends.Empty.{slept_woke}
use Rattle.law_turns.proofs.write_ends.Runs.{ends, fresh}
use Rattle.law_turns.specs.Exits.{InEitherOrderAnyhow, IsDoneAnyhow, InEitherOrderReaping}
use Rattle.law_turns.proofs.exits.Buried.{buried_woke, IsBuried, burial, keeps, Both, both_woke, set_buried, change_buried, acted_so}
use Rattle.law_turns.proofs.exits.Waited.{Reaps, Waits, waits}
use Rattle.law_turns.proofs.exits.Turned.{run_woke, given_run, same_awake, then_awake, stays_runnable, reaped_as, in_table, waits_or_not}
use Rattle.law_turns.proofs.exits.Families.{waiters_put_nothing, rooted}
use Rattle.law_turns.proofs.exits.Touched.{touch, touches, turned_touched, alike_touched}
use Rattle.law_turns.proofs.exits.Chains.{alike_on}
use Rattle.law_turns.proofs.exits.Fitting.{still_touched}
use Rattle.law_turns.proofs.exits.Leaving.{buries_in, leaves, own_exit, alike_exit, names_exit, children_below, zombies_below}
use Rattle.law_turns.proofs.exits.Stepping.{Fit}
use Rattle.law_turns.proofs.exits.Descending.{Mark, other_reply, touches_again, touches_itself, below_touched, fit_holds, Reached, reach, fit_start}

-- ---- the count of events isn't compared

on_events : {S : Type 0} (k l : KernelState S) (m n : ℕ) → AlikeAnyhow k l → AlikeAnyhow (record k { events = m }) (record l { events = n })
on_events k l m n a = record { first = a.first; second = a.second; first_one_to_one = a.first_one_to_one; second_one_to_one = a.second_one_to_one; same = a.same }

off_events : {S : Type 0} (k l : KernelState S) (m n : ℕ) → AlikeAnyhow (record k { events = m }) (record l { events = n }) → AlikeAnyhow k l
off_events k l m n a = record { first = a.first; second = a.second; first_one_to_one = a.first_one_to_one; second_one_to_one = a.second_one_to_one; same = a.same }

-- ---- a dispatch

names_given : {S : Type 0} (n q : ℕ) (k : KernelState S) (z : Process S) → at k.table q ≡ Some z → HasNamesUpTo n k → HasNamesUpTo n (record k { table = dispatched k.table q 0 })
names_given {S} n q k z there names f g one two agree =
    let run : (f : ℕ → ℕ) → map (idle_slot f) (dispatched k.table q 0) ≡ set (map (idle_slot f) k.table) q (Some (record z { status = Runnable })) =
    λ f. map-set (idle_slot f) k.table q (with_status (Running 0) (at k.table q)) ∙ ap (λ (v : Slot S). set (map (idle_slot f) k.table) q (idle_slot f (with_status (Running 0) v))) there in
    (λ i. record (idle_kernel f 0 k) { table = run f i }) ∙ ap (λ (j : KernelState S). record j { table = set j.table q (Some (record z { status = Runnable })) }) (names f g one two agree) ∙ sym (λ i. record (idle_kernel g 0 k) { table = run g i })

run_child : {S : Type 0} (r : ℕ) (x : Slot S) → is_child_of r (with_status (Running 0) x) ≡ is_child_of r x
run_child r None = refl
run_child r (Some y) = refl

child_given : {S : Type 0} (r q : ℕ) (t : Table S) (i : ℕ) → is_child_of r (at (dispatched t q 0) i) ≡ is_child_of r (at t i)
child_given r q t i = by (cases_eq i q) where
  by : (i ≡ q) ⊎ (i ≢ q) → is_child_of r (at (dispatched t q 0) i) ≡ is_child_of r (at t i)
  by (inl is) = let P : ℕ → Type 0 = λ j. is_child_of r (at (dispatched t q 0) j) ≡ is_child_of r (at t j) in subst P (sym is) (ap (is_child_of r) (written (with_status (Running 0)) refl t q) ∙ run_child r (at t q))
  by (inr ne) = ap (is_child_of r) (kept t q i (with_status (Running 0) (at t q)) ne)

-- ---- both orders

module _ {S : Type 0} (call : S → Reply → Call) (next : S → Reply → S) (p : ℕ) (x : Process S) (exits : call x.machine x.reply ≡ Exit) (child : p ≢ 0)
    (k : KernelState S) (b : IsBegun call next k) (q : ℕ) (y : Process S) (other : q ≢ p) (own : at k.table p ≡ Some x) (own_ready : x.status ≡ Runnable) (there : at k.table q ≡ Some y) (ready : y.status ≡ Runnable)
    (once : (fd : ℕ) (file : Opened) → file_at k.entries (entry_of x.fds fd) ≡ Some file → IsClosedAtOnce k p file.object) (free : FindsFree k (call y.machine y.reply))
    (puts : (rd n : ℕ) → call y.machine y.reply ≡ Read rd n → y.put ≡ 0) where
  abbrev act : KernelState S → KernelState S
  act j = turned call next j q y false

  abbrev after_q : S
  after_q = next y.machine y.reply

  abbrev c : Call
  c = call y.machine y.reply

  abbrev l : KernelState S
  l = turned call next k q y false

  abbrev last : KernelState S
  last = closed_below l p DESCRIPTORS

  abbrev a : KernelState S
  a = leaves call next p x exits child k

  abbrev both : KernelState S
  both = leaves call next p x exits child l

  abbrev mark : Mark y.reply
  mark = other_reply y.reply

  h : Holds x (at k.table p)
  h = holds_itself x (at k.table p) own own_ready

  at_q : Holds y (at k.table q)
  at_q = holds_itself y (at k.table q) there ready

  still : IsStill k
  still = begun_still call next k b

  up : is_runnable_status y.status ≡ true
  up = ap is_runnable_status ready

  first : after_turn call next k p ≡ Some a
  first = own_exit call next p x exits child k still h

  a_begun : IsBegun call next a
  a_begun = begun_on call next k a (p ∷ []) b first

  a_still : IsStill a
  a_still = begun_still call next a a_begun

  l_holds : Holds x (at l.table p)
  l_holds = turn_keeps call next k p q x y other h

  taken : after_turn call next l p ≡ Some both
  taken = own_exit call next p x exits child l (turn_still call next k q y false still there up) l_holds

  -- ---- p closed its descriptors

  abbrev k0 : KernelState S
  k0 = touches y.machine mark.mark 0 p k

  fit0 : Fit call next p q y other mark.mark k0
  fit0 = fit_start call next p q x y other mark.mark k still (ends call next k b) (fresh call next k b) own at_q once free

  reached : Reached call next p q y other mark puts k0 fit0 DESCRIPTORS
  reached = reach call next p q y other mark puts k0 fit0 DESCRIPTORS

  abbrev mine : KernelState S → KernelState S
  mine j = touches x.machine x.reply x.put p j

  -- with its own machine, reply and count of bytes put again
  abbrev shut : KernelState S
  shut = mine reached.kernel

  mine_below : (j : KernelState S) (n : ℕ) → mine (closed_below j p n) ≡ closed_below (mine j) p n
  mine_below j n = sym (below_touched x.machine x.reply x.put p j n)

  mine_0 : mine k0 ≡ k
  mine_0 = touches_again x.machine y.machine x.reply mark.mark x.put 0 p k ∙ touches_itself x p k h

  shut_same : record shut { events = 0 } ≡ record (closed_below k p DESCRIPTORS) { events = 0 }
  shut_same = ap mine reached.same ∙ ap (λ (j : KernelState S). record j { events = 0 }) (mine_below k0 DESCRIPTORS ∙ ap (λ (j : KernelState S). closed_below j p DESCRIPTORS) mine_0)

  acts_mine : (j : KernelState S) (z : Process S) → Holds z (at j.table p) → mine (act j) ≡ act (mine j)
  acts_mine j z hz = sym (turned_touched x.machine x.reply x.put p call next z j q y other hz)

  last_is : mine (closed_below (act k0) p DESCRIPTORS) ≡ last
  last_is = mine_below (act k0) DESCRIPTORS ∙ ap (λ (j : KernelState S). closed_below j p DESCRIPTORS) (acts_mine k0 fit0.own (fit_holds call next p q y other mark puts k0 fit0) ∙ ap act mine_0)

  joins : AlikeAnyhow (act shut) last ⊎ AlikeAnyhow shut last
  joins = by reached.joins where
    by : AlikeAnyhow (act reached.kernel) (closed_below (act k0) p DESCRIPTORS) ⊎ AlikeAnyhow reached.kernel (closed_below (act k0) p DESCRIPTORS) → AlikeAnyhow (act shut) last ⊎ AlikeAnyhow shut last
    by (inl it) =
        inl (subst (λ (j : KernelState S). AlikeAnyhow j last) (acts_mine reached.kernel reached.fit.own (fit_holds call next p q y other mark puts reached.kernel reached.fit))
        (subst (λ (j : KernelState S). AlikeAnyhow (mine (act reached.kernel)) j) last_is (alike_touched x.machine x.reply x.put p (act reached.kernel) (closed_below (act k0) p DESCRIPTORS) it)))
    by (inr it) = inr (subst (λ (j : KernelState S). AlikeAnyhow shut j) last_is (alike_touched x.machine x.reply x.put p reached.kernel (closed_below (act k0) p DESCRIPTORS) it))

  -- ---- what holds then

  shut_own : Holds (record reached.fit.own { status = Runnable; machine = x.machine; reply = x.reply; put = x.put }) (at shut.table p)
  shut_own =
      holds_itself (record reached.fit.own { status = Runnable; machine = x.machine; reply = x.reply; put = x.put }) (at shut.table p)
      (written (touch x.machine x.reply x.put) refl (reached.kernel).table p ∙ ap (touch x.machine x.reply x.put) reached.fit.there) refl

  shut_q : Holds y (at shut.table q)
  shut_q = in_own y q p (λ is. other (sym is)) (reached.kernel).table (touch x.machine x.reply x.put (at (reached.kernel).table p)) reached.fit.holds

  shut_still : IsStill shut
  shut_still = still_touched x.machine x.reply x.put p reached.kernel reached.fit.own reached.fit.there reached.fit.still

  act_still : IsStill (act shut)
  act_still =
      let d : KernelState S = counted (given_0 shut q) in
      subst IsStill (λ i. acted d q (next (shut_q.machine i) (shut_q.reply i)) (call (shut_q.machine i) (shut_q.reply i)) false) (turn_still call next shut q shut_q.now false shut_still shut_q.there (ap is_runnable_status shut_q.ready))

  abbrev d : KernelState S
  d = counted (given_0 shut q)

  abbrev u : Table S
  u = dispatched (exited shut.table p) q 0

  abbrev du : KernelState S
  du = record d { table = u }

  -- q dispatched after p's turn
  abbrev da : KernelState S
  da = counted (given_0 a q)

  du_same : record du { events = 0 } ≡ record da { events = 0 }
  du_same = ap (λ (j : KernelState S). record (counted (given_0 (buries_in p j) q)) { events = 0 }) shut_same

  abbrev later : KernelState S
  later = act a

  below_q : Holds y (at (closed_below k p DESCRIPTORS).table q)
  below_q = subst (λ (j : KernelState S). Holds y (at j.table q)) shut_same shut_q

  -- q, as it is after p's turn
  abbrev y_a : Process S
  y_a = record below_q.now { status = Runnable; parent = parent_after p (below_q.now).parent }

  a_there : at a.table q ≡ Some y_a
  a_there = stays_runnable (closed_below k p DESCRIPTORS).table p q below_q.now other below_q.there below_q.ready

  second : after_turn call next a q ≡ Some later
  second = turn_is call next a q y_a a_still a_there refl ∙ ap Some (λ i. acted da q (next (below_q.machine i) (below_q.reply i)) (call (below_q.machine i) (below_q.reply i)) false)

  shut_there : at (exited shut.table p) q ≡ Some (record shut_q.now { status = Runnable; parent = parent_after p (shut_q.now).parent })
  shut_there = stays_runnable shut.table p q shut_q.now other shut_q.there shut_q.ready

  names_du : HasNamesUpTo shut.events du
  names_du f g one two agree = names_given shut.events q (buries_in p shut) (record shut_q.now { status = Runnable; parent = parent_after p (shut_q.now).parent }) shut_there (names_exit p shut.events shut shut_still.names) f g one two agree

  names_da : HasNamesUpTo a.events da
  names_da f g one two agree = given_names call next a q y_a false a_still a_there refl f g one two agree

  later_alike : Alike later (acted du q after_q c false)
  later_alike =
      acted_alike da du a.events shut.events q after_q c false names_da names_du (omega arith) (omega arith) (relike du da du du (alike_itself du) (ap (idle_kernel (alike_itself du).first 0) (sym du_same)) refl)

  start_so : IsBuried p q other d.table u
  start_so =
      run_woke (exited shut.table p) q ∙ ap (λ (v : Table S). dispatched v q 0) (buried_woke shut.table p) ∙ sym (run_woke (buried shut.table p) q) ∙ ap woke_table (change_buried p q other (with_status (Running 0)) (given_run p) shut.table)

  both_is : (j : KernelState S) → woke j ≡ woke (burial p q other (act shut)) → woke j ≡ woke (buries_in p (act shut))
  both_is j is = is ∙ sym (λ i. record (woke (act shut)) { table = buried_woke (act shut).table p i })

  d_own : Holds (record reached.fit.own { status = Runnable; machine = x.machine; reply = x.reply; put = x.put }) (at d.table p)
  d_own = in_own (record reached.fit.own { status = Runnable; machine = x.machine; reply = x.reply; put = x.put }) p q other shut.table _ shut_own

  used : is_free (at d.table p) ≡ false
  used = ap is_free d_own.there

  alive : is_zombie (at d.table p) ≡ false
  alive = holds_alive (record reached.fit.own { status = Runnable; machine = x.machine; reply = x.reply; put = x.put }) (at d.table p) d_own

  -- ---- the three ways

  -- q's turn isn't needed
  done : AlikeAnyhow shut last → IsDoneAnyhow call next a l p
  done it =
      let buried_both : AlikeAnyhow (buries_in p shut) (buries_in p last) = alike_exit p shut last it in
      record {
        both = both;
        taken = taken;
        alike =
            on_events (buries_in p (closed_below k p DESCRIPTORS)) (buries_in p last) (k.events + 1 + 1) (l.events + 1 + 1)
            (off_events (buries_in p (closed_below k p DESCRIPTORS)) (buries_in p last) 0 0
            (subst (λ (j : KernelState S). AlikeAnyhow j (record (buries_in p last) { events = 0 })) (ap (buries_in p) shut_same) (on_events (buries_in p shut) (buries_in p last) 0 0 buried_both)));
      }

  -- what comes of q's turn and a burial is what comes of both turns
  then_both : (j : KernelState S) → AlikeAnyhow j (buries_in p (act shut)) → AlikeAnyhow (act shut) last → AlikeAnyhow j both
  then_both j one it =
      let all : AlikeAnyhow j (buries_in p last) = alike_on j (buries_in p (act shut)) (buries_in p last) (act shut).events (names_exit p (act shut).events (act shut) act_still.names) one (alike_exit p (act shut) last it) in
      on_events j (buries_in p last) j.events (l.events + 1 + 1) all

  in_order : AlikeAnyhow (act shut) last → Both p q other (act shut) (acted du q after_q c false) → InEitherOrderAnyhow call next a l p q
  in_order it s =
      record {
        after = later;
        second = second;
        both = both;
        taken = taken;
        alike =
            then_both later (awake_anyhow later (buries_in p (act shut)) (then_awake later (acted du q after_q c false) (buries_in p (act shut)) later_alike (both_is (acted du q after_q c false) (both_woke p q other (act shut) (acted du q after_q c false) s)))) it;
      }

  -- q only fell asleep
  slept : AlikeAnyhow (act shut) last → y.put ≡ 0 → act shut ≡ sleeps d q (Children q) 0 → IsDoneAnyhow call next a l p
  slept it put is =
      let awake : idle_kernel (λ n. n) 0 (woke (act shut)) ≡ idle_kernel (λ n. n) 0 (woke shut) =
      ap (λ (j : KernelState S). idle_kernel (λ n. n) 0 (woke j)) is ∙ (λ i. idle_kernel (λ n. n) 0 (record shut { table = slept_woke shut.table q shut_q.now (Children q) shut_q.there shut_q.ready (shut_q.put ∙ put) i })) in
      done (alike_on shut (act shut) last (act shut).events act_still.names (awake_anyhow shut (act shut) (same_awake shut (act shut) (sym awake))) it)

  -- a zombie is freed in both orders
  module _ (it : AlikeAnyhow (act shut) last) (waits_next : c ≡ Wait) (r : Reaps p q other d.table u) where
    abbrev D : KernelState S
    D = record d { table = freed d.table (Some r.zombie) }

    -- the same one is freed after p's turn
    abbrev between : KernelState S
    between = answered (record da { table = freed da.table (Some r.zombie) }) q after_q Done

    dead : is_zombie_child_of q (at d.table r.zombie) ≡ true
    dead = (position_found (is_zombie_child_of q) d.table None r.zombie r.before).1

    gone : is_zombie (at d.table r.zombie) ≡ true
    gone = (and_parts (is_child_of q (at d.table r.zombie)) (is_zombie (at d.table r.zombie)) dead).1

    not_p : r.zombie ≢ p
    not_p same = let no : true ≡ false = sym gone ∙ ap (λ (i : ℕ). is_zombie (at d.table i)) same ∙ alive in let z : ⊥ = cc in z

    not_q : r.zombie ≢ q
    not_q same =
        let runs : at d.table q ≡ Some (record shut_q.now { status = Running 0 }) = written (with_status (Running 0)) refl shut.table q ∙ ap (with_status (Running 0)) shut_q.there in
        let no : true ≡ false = sym gone ∙ ap (λ (i : ℕ). is_zombie (at d.table i)) same ∙ ap is_zombie runs in
        let z : ⊥ = cc in
        z

    freed_so : IsBuried p q other (set d.table r.zombie None) (set u r.zombie None)
    freed_so =
        map-set woke_slot u r.zombie None ∙ ap (λ (t : Table S). set t r.zombie None) start_so ∙ sym (map-set woke_slot (buried d.table p) r.zombie None) ∙ ap woke_table (set_buried p q other r.zombie None None not_p refl d.table)

    act_is : act shut ≡ answered D q after_q Done
    act_is = ap (λ (m : Call). acted d q after_q m false) waits_next ∙ reaped_as q after_q d r.zombie r.before

    abbrev freed_u : KernelState S
    freed_u = answered (record D { table = set u r.zombie None }) q after_q Done

    freed_woke : woke freed_u ≡ woke (buries_in p (act shut))
    freed_woke =
        let s = answering q q (λ e. e) (SameEntries (IsBuried p q other)) (keeps p q other) after_q D (record D { table = set u r.zombie None }) Done
        (here q q (λ e. e) (SameEntries (IsBuried p q other)) (keeps p q other) D (set u r.zombie None) D.entries (freed_so, refl)) in
        both_is freed_u (both_woke p q other (answered D q after_q Done) freed_u s ∙ ap (λ (j : KernelState S). woke (burial p q other j)) (sym act_is))

    between_awake : AlikeAnyhow between (buries_in p (act shut))
    between_awake =
        awake_anyhow between (buries_in p (act shut)) (same_awake between (buries_in p (act shut))
        (ap (λ (j : KernelState S). idle_kernel (λ n. n) 0 (woke (answered (record j { table = freed j.table (Some r.zombie) }) q after_q Done))) (sym du_same) ∙ ap (idle_kernel (λ n. n) 0) freed_woke))

    tables : u ≡ da.table
    tables = ap (λ (j : KernelState S). j.table) du_same

    mid : Mid da.table q
    mid = begun_mid call next a q y_a a_begun a_there refl

    first_dead : is_zombie_child_of q (at da.table r.first) ≡ true
    first_dead = subst (λ (t : Table S). is_zombie_child_of q (at t r.first) ≡ true) tables (position_found (is_zombie_child_of q) u None r.first r.found).1

    zombie_dead : is_zombie_child_of q (at da.table r.zombie) ≡ true
    zombie_dead = subst (λ (t : Table S). is_zombie_child_of q (at t r.zombie) ≡ true) tables r.stays

    within : (i : ℕ) → is_zombie_child_of q (at da.table i) ≡ true → i < PROCS
    within i is = subst (λ (m : ℕ). i < m) mid.long (in_table q da.table i is)

    -- a zombie of k
    dead_before : is_zombie_child_of q (at k.table r.zombie) ≡ true
    dead_before =
        sym (zombies_below k p DESCRIPTORS q r.zombie) ∙ ap (λ (j : KernelState S). is_zombie_child_of q (at j.table r.zombie)) (sym shut_same) ∙
        ap (is_zombie_child_of q) (sym (kept shut.table q r.zombie (with_status (Running 0) (at shut.table q)) not_q)) ∙ dead

    reaping : InEitherOrderReaping call next k a l p q
    reaping =
        let slots = reaps unchanged q q after_q da da.table (moves_itself da.table q) mid mid.long r.first r.zombie (within r.first first_dead) (within r.zombie zombie_dead) first_dead zombie_dead in
        let found : zombie_child da.table q ≡ Some r.first = ap (λ (t : Table S). zombie_child t q) (sym tables) ∙ r.found in
        let later_is : later ≡ answered (record da { table = freed da.table (Some r.first) }) q after_q Done = ap (λ (m : Call). acted da q after_q m false) waits_next ∙ reaped_as q after_q da r.first found in
        record {
          reaps = record { process = y; there = there; ready = ready; calls = waits_next; zombie = r.zombie; dead = dead_before };
          after = later;
          second = second;
          both = both;
          taken = taken;
          between = between;
          same = subst (λ (j : KernelState S). SameButSlots j between) (sym later_is) (but_slots q q _ _ slots);
          alike = then_both between between_awake it;
        }

  -- ---- init has a child

  has_child : q ≡ 0 → (i : ℕ) × (some_child d.table 0 ≡ Some i)
  has_child init = by (some_child d.table 0) refl where
    given_own : Holds x (at (counted (given_0 k q)).table p)
    given_own = in_own x p q other k.table _ h

    before : (i : ℕ) × (some_child (dispatched k.table q 0) 0 ≡ Some i)
    before = rooted call next k b q p y given_own.now there ready given_own.there child

    now : is_child_of 0 (at d.table before.0) ≡ true
    now =
        child_given 0 q shut.table before.0 ∙ ap (λ (j : KernelState S). is_child_of 0 (at j.table before.0)) shut_same ∙ children_below k p DESCRIPTORS 0 before.0 ∙ sym (child_given 0 q k.table before.0) ∙
        (position_found (is_child_of 0) (dispatched k.table q 0) None before.0 before.1).1

    by : (o : Option ℕ) → some_child d.table 0 ≡ o → (i : ℕ) × (some_child d.table 0 ≡ Some i)
    by (Some i) is = (i, is)
    by None none = let no : true ≡ false = sym now ∙ none_at (is_child_of 0) refl d.table none before.0 in absurd (let z : ⊥ = cc in z)

  abbrev Ways : Type 0
  Ways = InEitherOrderAnyhow call next a l p q ⊎ (IsDoneAnyhow call next a l p ⊎ InEitherOrderReaping call next k a l p q)

  pub exit_either : Ways
  exit_either = by joins where
    waiting : AlikeAnyhow (act shut) last → c ≡ Wait → Waits p q other after_q d u start_so alive has_child → Ways
    waiting it is (inl s) =
        let P : Call → Type 0 = λ m. Both p q other (acted d q after_q m false) (acted du q after_q m false) in
        inl (in_order it (subst P (sym is) s))
    waiting it is (inr (inl sleeps_now)) = inr (inl (slept it (waiters_put_nothing call next k b q y there is) (ap (λ (m : Call). acted d q after_q m false) is ∙ sleeps_now)))
    waiting it is (inr (inr r)) = inr (inr (reaping it is r))

    called : AlikeAnyhow (act shut) last → (c ≡ Wait) ⊎ (c ≢ Wait) → Ways
    called it (inl is) = waiting it is (waits p q other after_q d u start_so alive has_child)
    called it (inr ne) = inl (in_order it (acted_so p q other after_q d u start_so c ne used))

    by : AlikeAnyhow (act shut) last ⊎ AlikeAnyhow shut last → Ways
    by (inl it) = called it (waits_or_not c)
    by (inr it) = inr (inl (done it))
