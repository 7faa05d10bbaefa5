-- Where whoever lives has to sleep, it is so in what can do the same, and no turn there changes slots but for who sleeps.
use Rattle.std.proofs.Common.{◌≡◌, ℕ, [], true, false, Option, Some, None, refl, sym, ap, subst, ◌∙◌}
use Rattle.std.proofs.Math.Seq.{map-set_same}
use Rattle.std.specs.Prelude.{map, ◌&&◌}
use Rattle.user_calls.specs.declared.calls.Call.{Call}
use Rattle.user_calls.specs.declared.calls.Reply.{Reply}
use Rattle.byte_pipe.specs.PipeState.{PipeState}
use Rattle.fd_table.specs.declared.names.Object.{Object}
use Rattle.fd_table.specs.declared.names.Object.TheVariants.{Input, Out, Diag, File, PipeRead, PipeWrite}
use Rattle.fd_table.specs.Entries.{OpenFile, entry_at}
use Rattle.fd_table.specs.Descriptors.{Descriptors, entry_of}
use Rattle.proc_table.specs.declared.states.Channel.{Channel}
use Rattle.proc_table.specs.declared.states.Channel.TheVariants.{PipeBytes, PipeRoom, Children}
use Rattle.proc_table.specs.declared.states.Status.{Status}
use Rattle.proc_table.specs.declared.states.Status.TheVariants.{Runnable, Running, Asleep, Zombie}
use Rattle.proc_table.specs.Slots.{Slot, Table, Process, at, is_child_of, is_runnable, is_zombie, is_zombie_status, is_zombie_child_of}
use Rattle.proc_table.specs.Calls.{put_to_sleep, with_status}
use Rattle.proc_table.proofs.Changes.{written, mapped}
use Rattle.kernel_model.specs.KernelState.{KernelState, fds_at, file_at}
use Rattle.kernel_model.specs.Pipes.{pipe_of}
use Rattle.kernel_model.specs.Replies.{sleeps}
use Rattle.kernel_model.specs.Events.{acted, counted}
use Rattle.law_kernel.specs.Outcome.{object_of, object_at}
use Rattle.law_kernel.specs.Sleeping.{Waits, IsThere, SleepsOn}
use Rattle.law_kernel.specs.Asking.{MaySleep}
use Rattle.kernel_model.specs.Alike.{IsStill}
use Rattle.kernel_model.specs.Anyhow.{AlikeAnyhow, bare_status, bare_slot, bare_table}
use Rattle.kernel_model.specs.Idle.{idle_slot, idle_kernel, renamed_entry, renamed_object}
use Rattle.kernel_model.specs.Linked.{AlikeButSlots, then_slots, slots_then, CanDo, itself, likened}
use Rattle.kernel_model.specs.Numbers.{Numbering, renumbered_place, renumbered_fds}
use Rattle.kernel_model.specs.Slots.{moved_channel, moved_process, SameButSlots}
use Rattle.kernel_model.specs.Turns.{after_turn}
use Rattle.kernel_model.specs.Woke.{woke, woke_table}
use Rattle.law_turns.proofs.entry_numbers.Tables.{held_place, table_fds}
use Rattle.law_turns.proofs.orders.Back.{could_turn}
use Rattle.law_turns.proofs.orders.Entries.{pipe_renamed}
use Rattle.law_turns.proofs.orders.Follow.{after_turn as turned, given_0}
use Rattle.law_turns.proofs.orders.Tables.{idle_fds}
use Rattle.law_turns.proofs.private_turns.Awake.{given_awake}
use Rattle.law_turns.proofs.private_turns.Begun.{IsSettled}
use Rattle.law_turns.proofs.private_turns.Fine.{FinePut, Fine}
use Rattle.law_turns.proofs.private_turns.Idling.{sleeps_call}
use Rattle.law_turns.proofs.private_turns.Turned.{Ready, turn_is, ready_slot}
use Rattle.law_turns.proofs.private_turns.Woken.{twice_table, fds_told}
use Rattle.law_turns.proofs.last_closes.Anyhow.{named_so, awake_anyhow, bare_anyhow}
use Rattle.law_turns.proofs.slot_numbers.Same.{same_back, back_channel}
use Rattle.law_turns.proofs.slot_numbers.Sleepers.{fine_status, waits_so, asks_so, alive_so, there_so}

-- a call of q, of which so many bytes were put, has to sleep on some channel: nothing of what it waits for has come
pub record MustSleep {S : Type 0} (k : KernelState S) (q : ℕ) (c : Call) (put : ℕ) : Type 0 where
  pub channel : Channel
  pub asks : MaySleep k q c put channel
  pub waits : Waits k.table k.pipes q channel
  pub fine : FinePut (Asleep channel) put

-- whoever lives has to sleep on what it calls next
abbrev pub IsStalled : {S : Type 0} → (S → Reply → Call) → KernelState S → Type 0
IsStalled call k = (q : ℕ) (x : Process _) → at k.table q ≡ Some x → is_zombie (at k.table q) ≡ false → MustSleep k q (call x.machine x.reply) x.put

-- ---- slots, whoever sleeps and whatever descriptors hold

bare_child : {S : Type 0} (r : ℕ) (x : Slot S) → is_child_of r (bare_slot x) ≡ is_child_of r x
bare_child r None = refl
bare_child r (Some p) = refl

bare_dead : (s : Status) → is_zombie_status (bare_status s) ≡ is_zombie_status s
bare_dead Runnable = refl
bare_dead (Running h) = refl
bare_dead (Asleep c) = refl
bare_dead Zombie = refl

bare_zombie : {S : Type 0} (x : Slot S) → is_zombie (bare_slot x) ≡ is_zombie x
bare_zombie None = refl
bare_zombie (Some p) = bare_dead p.status

bare_zombie_child : {S : Type 0} (r : ℕ) (x : Slot S) → is_zombie_child_of r (bare_slot x) ≡ is_zombie_child_of r x
bare_zombie_child r None = refl
bare_zombie_child r (Some p) = λ i. is_child_of r (Some p) && bare_dead p.status i

-- the process is there with the same machine and reply, and as much put
record Likewise {S : Type 0} (x : Process S) (y : Slot S) : Type 0 where
  process : Process S
  there : y ≡ Some process
  machine : process.machine ≡ x.machine
  reply : process.reply ≡ x.reply
  put : process.put ≡ x.put

likewise : {S : Type 0} (x : Process S) (y : Slot S) → bare_slot (Some x) ≡ bare_slot y → Likewise x y
likewise x None is = absurd (let z : ⊥ = cc in z)
likewise x (Some y) is =
    let same : record x { status = bare_status x.status; fds = [] } ≡ record y { status = bare_status y.status; fds = [] } = cc in
    record {
      process = y;
      there = refl;
      machine = ap (λ (r : Process _). r.machine) (sym same);
      reply = ap (λ (r : Process _). r.reply) (sym same);
      put = ap (λ (r : Process _). r.put) (sym same);
    }

-- ---- what is open under other names

named : (ℕ → ℕ) → Option Object → Option Object
named name None = None
named name (Some o) = Some (renamed_object name o)

module _ where
  object_named : (name : ℕ → ℕ) (x : Option OpenFile) → object_of (renamed_entry name x) ≡ named name (object_of x)
  unfolding named
  object_named name None = refl
  object_named name (Some f) = refl

  none_named : (f g : ℕ → ℕ) → named f None ≡ named g None
  unfolding named
  none_named f g = refl

  read_end : (f g : ℕ → ℕ) (j : ℕ) (x : Option Object) → named g (Some (PipeRead j)) ≡ named f x → (i : ℕ) × (x ≡ Some (PipeRead i)) × (f i ≡ g j)
  unfolding named
  read_end f g j None is = absurd (let z : ⊥ = cc in z)
  read_end f g j (Some Input) is = absurd (let z : ⊥ = cc in z)
  read_end f g j (Some Out) is = absurd (let z : ⊥ = cc in z)
  read_end f g j (Some Diag) is = absurd (let z : ⊥ = cc in z)
  read_end f g j (Some (File name mode)) is = absurd (let z : ⊥ = cc in z)
  read_end f g j (Some (PipeRead i)) is = let same : g j ≡ f i = cc in (i, refl, sym same)
  read_end f g j (Some (PipeWrite i)) is = absurd (let z : ⊥ = cc in z)

  write_end : (f g : ℕ → ℕ) (j : ℕ) (x : Option Object) → named g (Some (PipeWrite j)) ≡ named f x → (i : ℕ) × (x ≡ Some (PipeWrite i)) × (f i ≡ g j)
  unfolding named
  write_end f g j None is = absurd (let z : ⊥ = cc in z)
  write_end f g j (Some Input) is = absurd (let z : ⊥ = cc in z)
  write_end f g j (Some Out) is = absurd (let z : ⊥ = cc in z)
  write_end f g j (Some Diag) is = absurd (let z : ⊥ = cc in z)
  write_end f g j (Some (File name mode)) is = absurd (let z : ⊥ = cc in z)
  write_end f g j (Some (PipeRead i)) is = absurd (let z : ⊥ = cc in z)
  write_end f g j (Some (PipeWrite i)) is = let same : g j ≡ f i = cc in (i, refl, sym same)

-- ---- kernels that are alike but for who sleeps and for numbers of entries

module _ {S : Type 0} (k l : KernelState S) (a : AlikeAnyhow k l) where
  abbrev n : Numbering
  n = a.same.numbering

  bare_at : (q : ℕ) → bare_slot (at k.table q) ≡ bare_slot (at l.table q)
  bare_at q = sym (mapped bare_slot refl k.table q) ∙ ap (λ (t : Table S). at t q) (bare_anyhow k l a) ∙ mapped bare_slot refl l.table q

  fds_so : (q : ℕ) → fds_at l q ≡ renumbered_fds n.to (fds_at k q)
  fds_so q =
      sym (idle_fds a.second (woke_table l.table) q ∙ fds_told l.table q) ∙ ap (λ (j : KernelState S). fds_at j q) (sym a.same.is.rest) ∙ table_fds n.to (map (idle_slot a.first) (woke_table k.table)) q ∙
      ap (renumbered_fds n.to) (idle_fds a.first (woke_table k.table) q ∙ fds_told k.table q)

  place_so : (o : Option ℕ) → named a.second (object_of (file_at l.entries (renumbered_place n.to o))) ≡ named a.first (object_of (file_at k.entries o))
  place_so None = none_named a.second a.first
  place_so (Some e) = sym (object_named a.second (entry_at l.entries (n.to e))) ∙ ap object_of (named_so k l a e) ∙ object_named a.first (entry_at k.entries e)

  object_so : (q fd : ℕ) → named a.second (object_at l q fd) ≡ named a.first (object_at k q fd)
  object_so q fd =
      ap (λ (o : Option ℕ). named a.second (object_of (file_at l.entries o))) (ap (λ (d : Descriptors). entry_of d fd) (fds_so q) ∙ held_place n.to (fds_at k q) fd) ∙ place_so (entry_of (fds_at k q) fd)

  pipe_so : (i j : ℕ) → a.first i ≡ a.second j → pipe_of k.pipes i ≡ pipe_of l.pipes j
  pipe_so i j same =
      sym (pipe_renamed a.first a.first_one_to_one k.pipes i) ∙ (λ t. pipe_of (ap (λ (m : KernelState S). m.pipes) a.same.is.rest t) (same t)) ∙ pipe_renamed a.second a.second_one_to_one l.pipes j

  there_too : (P : PipeState → Type 0) (i j : ℕ) → a.first i ≡ a.second j → IsThere P l.pipes j → IsThere P k.pipes i
  there_too P i j same w = record { pipe = w.pipe; found = pipe_so i j same ∙ w.found; holds = w.holds }

  child_so : (r i : ℕ) → is_child_of r (at k.table i) ≡ is_child_of r (at l.table i)
  child_so r i = sym (bare_child r (at k.table i)) ∙ ap (is_child_of r) (bare_at i) ∙ bare_child r (at l.table i)

  zombie_child_so : (r i : ℕ) → is_zombie_child_of r (at k.table i) ≡ is_zombie_child_of r (at l.table i)
  zombie_child_so r i = sym (bare_zombie_child r (at k.table i)) ∙ ap (is_zombie_child_of r) (bare_at i) ∙ bare_zombie_child r (at l.table i)

  must_by : (q : ℕ) (c : Call) (put : ℕ) (ch : Channel) → MaySleep l q c put ch → Waits l.table l.pipes q ch → FinePut (Asleep ch) put → MustSleep k q c put
  must_by q c put (PipeBytes id) m w fine =
      let o = read_end a.first a.second id (object_at k q m.0) (ap (named a.second) (sym m.3) ∙ object_so q m.0) in
      record { channel = PipeBytes o.0; asks = (m.0, m.1, m.2, o.1); waits = there_too _ o.0 id o.2 w; fine = fine }
  must_by q c put (PipeRoom id) m w fine =
      let o = write_end a.first a.second id (object_at k q m.1.0) (ap (named a.second) (sym m.1.2) ∙ object_so q m.1.0) in
      record { channel = PipeRoom o.0; asks = (m.0, (m.1.0, m.1.1, o.1), m.2); waits = there_too _ o.0 id o.2 w; fine = tt }
  must_by q c put (Children pid) m w fine =
      record {
        channel = Children pid;
        asks = m;
        waits = (w.0, record { child = (w.1.child.0, child_so q w.1.child.0 ∙ w.1.child.1); living = λ i. zombie_child_so q i ∙ w.1.living i });
        fine = fine;
      }

  stalled_anyhow : (call : S → Reply → Call) → IsStalled call l → IsStalled call k
  stalled_anyhow call stalled q x there alive =
      let y = likewise x (at l.table q) (ap bare_slot (sym there) ∙ bare_at q) in
      let dead : is_zombie (at l.table q) ≡ false = sym (bare_zombie (at l.table q)) ∙ ap is_zombie (sym (bare_at q)) ∙ bare_zombie (at k.table q) ∙ alive in
      let m = stalled q y.process y.there dead in
      let here = must_by q (call y.process.machine y.process.reply) y.process.put m.channel m.asks m.waits m.fine in
      subst (λ (put : ℕ). MustSleep k q (call x.machine x.reply) put) y.put (subst (λ (c : Call). MustSleep k q c y.process.put) (λ i. call (y.machine i) (y.reply i)) here)

-- ---- kernels that differ only in the numbers of slots

stalled_slots : {S : Type 0} (call : S → Reply → Call) (k l : KernelState S) → SameButSlots k l → IsStalled call k → IsStalled call l
stalled_slots call k l a stalled q x there alive =
    let n = a.numbering in
    let m = stalled (n.back q) (moved_process n.back x) (there_so k l a q x there alive) (alive_so k l a q alive) in
    let same = sym (back_channel n m.channel) in
    record {
      channel = moved_channel n.to m.channel;
      asks = asks_so k l a q (call x.machine x.reply) x.put (moved_channel n.to m.channel) alive (subst (MaySleep k (n.back q) (call x.machine x.reply) x.put) same m.asks);
      waits = waits_so k l a q (moved_channel n.to m.channel) (subst (Waits k.table k.pipes (n.back q)) same m.waits);
      fine = fine_status n.to (Asleep m.channel) x.put m.fine;
    }

module _ {S : Type 0} (call : S → Reply → Call) (next : S → Reply → S) where
  stalled_link : (k l : KernelState S) → AlikeButSlots k l → IsStalled call l → IsStalled call k
  stalled_link k l (then_slots j still a s) stalled = stalled_anyhow k j a call (stalled_slots call l j (same_back j l s) stalled)
  stalled_link k l (slots_then j still s a) stalled = stalled_slots call j k (same_back k j s) (stalled_anyhow j l a call stalled)

  pub stalled_on : (k m : KernelState S) → CanDo call next k m → IsStalled call m → IsStalled call k
  stalled_on k m (itself j) stalled = stalled
  stalled_on k m (likened i j n b d alike rest) stalled = stalled_link i j alike (stalled_on j m rest stalled)

  -- where whoever lives sleeps
  pub all_asleep : (k : KernelState S) → IsSettled call k → ((q : ℕ) (x : Process S) → at k.table q ≡ Some x → is_zombie (at k.table q) ≡ false → (c : Channel) × (x.status ≡ Asleep c)) → IsStalled call k
  all_asleep k settled asleep q x there alive =
      let s = asleep q x there alive in
      record {
        channel = s.0;
        asks = settled.asks q x s.0 there s.1;
        waits = settled.rests.waits q s.0 (subst (λ (y : Slot S). SleepsOn y s.0) (sym there) s.1);
        fine = subst (λ (t : Status). FinePut t x.put) s.1 (subst (λ (y : Slot S). Fine y) there (settled.fine q));
      }

  -- ---- a turn

  -- nobody knows who is awake, nor that p was dispatched
  as_if_awake : (k : KernelState S) → AlikeAnyhow (woke k) k
  as_if_awake k =
      awake_anyhow (woke k) k (record {
        first = λ i. i;
        second = λ i. i;
        first_one_to_one = λ i j is. is;
        second_one_to_one = λ i j is. is;
        same = λ i. idle_kernel (λ j. j) 0 (record k { table = twice_table k.table i });
      })

  dispatched_alike : (k : KernelState S) (p : ℕ) → is_runnable (at k.table p) ≡ true → AlikeAnyhow (counted (given_0 k p)) k
  dispatched_alike k p ready =
      awake_anyhow (counted (given_0 k p)) k (record {
        first = λ i. i;
        second = λ i. i;
        first_one_to_one = λ i j is. is;
        second_one_to_one = λ i j is. is;
        same = given_awake (λ i. i) k p ready;
      })

  sleeps_bare : (c : Channel) (x : Slot S) (y : Process S) → x ≡ Some y → bare_status y.status ≡ Runnable → bare_slot (put_to_sleep c y.put x) ≡ bare_slot x
  sleeps_bare c x y there ready = ap (λ (z : Slot S). bare_slot (put_to_sleep c y.put z)) there ∙ (λ i. Some (record y { status = sym ready i; fds = [] })) ∙ sym (ap bare_slot there)

  -- the turn of a process that has to sleep
  sleeping_turn : (d : KernelState S) (p : ℕ) (x : Process S) (after : S) (c : Call) → at d.table p ≡ Some x → bare_status x.status ≡ Runnable → MustSleep d p c x.put → bare_table (acted d p after c false).table ≡ bare_table d.table
  sleeping_turn d p x after c there ready m =
      sym (bare_anyhow (woke (acted d p after c false)) (acted d p after c false) (as_if_awake (acted d p after c false))) ∙
      ap (λ (j : KernelState S). bare_table j.table) (sleeps_call d p x there after m.channel c false m.fine m.waits m.asks) ∙
      bare_anyhow (woke (sleeps d p m.channel x.put)) (sleeps d p m.channel x.put) (as_if_awake (sleeps d p m.channel x.put)) ∙
      map-set_same bare_slot d.table p (put_to_sleep m.channel x.put (at d.table p)) None (sleeps_bare m.channel (at d.table p) x there ready)

  pub stalled_turn : (k now : KernelState S) (p : ℕ) → IsStill k → IsStalled call k → after_turn call next k p ≡ Some now → bare_table now.table ≡ bare_table k.table
  stalled_turn k now p still stalled is = by (ready_slot (at k.table p) (could_turn call next k (record { pid = p; refused = false }) (now, is))) where
    by : Ready (at k.table p) → bare_table now.table ≡ bare_table k.table
    by r =
        let x : Process S = r.process in
        let d : KernelState S = counted (given_0 k p) in
        let both : Some (turned call next k p x false) ≡ Some now = sym (turn_is call next k p x still r.there r.ready) ∙ is in
        let same : turned call next k p x false ≡ now = cc in
        let alike : AlikeAnyhow d k = dispatched_alike k p (ap is_runnable r.there ∙ r.ready) in
        let there : at d.table p ≡ Some (record x { status = Running 0 }) = written (with_status (Running 0)) refl k.table p ∙ ap (with_status (Running 0)) r.there in
        let m = stalled_anyhow d k alike call stalled p (record x { status = Running 0 }) there (ap is_zombie there) in
        ap (λ (j : KernelState S). bare_table j.table) (sym same) ∙ sleeping_turn d p (record x { status = Running 0 }) (next x.machine x.reply) (call x.machine x.reply) there refl m ∙ bare_anyhow d k alike
