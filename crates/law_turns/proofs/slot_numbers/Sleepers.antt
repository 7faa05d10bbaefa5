-- Whoever sleeps has to in a kernel that differs only in the numbers of slots too, and its families are the same.
use Rattle.std.proofs.Common.{◌≡◌, ℕ, false, Some, None, refl, sym, ap, subst, ◌∙◌}
use Rattle.user_calls.specs.declared.calls.Call.{Call}
use Rattle.user_calls.specs.declared.calls.Reply.{Reply}
use Rattle.fd_table.specs.Descriptors.{entry_of}
use Rattle.proc_table.specs.declared.states.Channel.{Channel}
use Rattle.proc_table.specs.declared.states.Channel.TheVariants.{PipeBytes, PipeRoom, Children}
use Rattle.proc_table.specs.declared.states.Status.{Status}
use Rattle.proc_table.specs.declared.states.Status.TheVariants.{Runnable, Running, Asleep, Zombie}
use Rattle.proc_table.specs.Slots.{Slot, Process, at, is_free, is_child_of, is_zombie, is_zombie_status, is_zombie_child_of}
use Rattle.kernel_model.specs.KernelState.{KernelState, fds_of, fds_at, file_at}
use Rattle.kernel_model.specs.Pipes.{Pipes}
use Rattle.law_kernel.specs.Outcome.{object_of, object_at}
use Rattle.law_kernel.specs.Sleeping.{Waits, WaitsForBytes, WaitsForRoom, IsThere, SleepsOn, AllWait, Lives, IsFamily, AreSmall}
use Rattle.law_kernel.specs.Asking.{MaySleep}
use Rattle.kernel_model.specs.Alike.{IsStill}
use Rattle.kernel_model.specs.Numbers.{Numbering}
use Rattle.kernel_model.specs.Slots.{moved_channel, moved_status, moved_process, moved_slot, IsMoved, same, zombies, SameButSlots}
use Rattle.law_turns.proofs.private_turns.Fine.{FinePut, Fine}
use Rattle.law_turns.proofs.private_turns.Begun.{IsSettled}
use Rattle.law_turns.proofs.slot_numbers.Slots.{exactly, same_child, same_zombie, same_zombie_child, fds_so}
use Rattle.law_turns.proofs.slot_numbers.Same.{back_slot}

-- ---- one slot

free_moved : {S : Type 0} (to : ℕ → ℕ) (x : Slot S) → is_free (moved_slot to x) ≡ is_free x
free_moved to None = refl
free_moved to (Some p) = refl

same_free : {S : Type 0} (n : Numbering) (x y : Slot S) → IsMoved n.to x y → is_free y ≡ is_free x
same_free n x y (same is) = ap is_free is ∙ free_moved n.to x
same_free n x y (zombies parent z w) = ap is_free w.there ∙ sym (ap is_free z.there)

lives_moved : {S : Type 0} (n : Numbering) (x y : Slot S) → IsMoved n.to x y → Lives x → Lives y
lives_moved n x y m l = record { used = same_free n x y m ∙ l.used; alive = same_zombie n x y m ∙ l.alive }

pub fine_status : (to : ℕ → ℕ) (s : Status) (put : ℕ) → FinePut s put → FinePut (moved_status to s) put
fine_status to Runnable put f = tt
fine_status to (Running h) put f = tt
fine_status to (Asleep (PipeBytes id)) put f = f
fine_status to (Asleep (PipeRoom id)) put f = tt
fine_status to (Asleep (Children pid)) put f = f
fine_status to Zombie put f = tt

fine_slot : {S : Type 0} (to : ℕ → ℕ) (x : Slot S) → Fine x → Fine (moved_slot to x)
fine_slot to None f = tt
fine_slot to (Some p) f = fine_status to p.status p.put f

fine_moved : {S : Type 0} (n : Numbering) (x y : Slot S) → IsMoved n.to x y → Fine x → Fine y
fine_moved n x y (same is) f = subst (λ (z : Slot _). Fine z) (sym is) (fine_slot n.to x f)
fine_moved n x y (zombies parent z w) f = subst (λ (s : Slot _). Fine s) (sym w.there) (subst (λ (s : Status). FinePut s w.process.put) (sym w.dead) tt)

-- who sleeps is no zombie
sleeper_alive : {S : Type 0} (p : Process S) (c : Channel) (x : Slot S) → x ≡ Some p → p.status ≡ Asleep c → is_zombie x ≡ false
sleeper_alive p c x there asleep = ap is_zombie there ∙ ap is_zombie_status asleep

sleeps_is : {S : Type 0} (x : Slot S) (c : Channel) → SleepsOn x c → (p : Process S) × (x ≡ Some p) × (p.status ≡ Asleep c)
sleeps_is None c s = absurd s
sleeps_is (Some p) c s = (p, refl, s)

sleeps_there : {S : Type 0} (x : Slot S) (p : Process S) (c : Channel) → x ≡ Some p → p.status ≡ Asleep c → SleepsOn x c
sleeps_there x p c there asleep = subst (λ (y : Slot _). SleepsOn y c) (sym there) asleep

-- ---- two kernels

module _ {S : Type 0} (k l : KernelState S) (a : SameButSlots k l) where
  abbrev n : Numbering
  n = a.numbering

  -- a slot of l, and what it is of k
  from : (q : ℕ) → IsMoved a.numbering.to (at k.table (a.numbering.back q)) (at l.table q)
  from q = subst (λ (i : ℕ). IsMoved a.numbering.to (at k.table (a.numbering.back q)) (at l.table i)) (a.numbering.here q) (a.moved.slots (a.numbering.back q))

  same_pipes : k.pipes ≡ l.pipes
  same_pipes = ap (λ (j : KernelState S). j.pipes) a.rest

  child_from : (r i : ℕ) → is_child_of r (at l.table i) ≡ is_child_of (a.numbering.back r) (at k.table (a.numbering.back i))
  child_from r i = subst (λ (s : ℕ). is_child_of s (at l.table i) ≡ is_child_of (a.numbering.back r) (at k.table (a.numbering.back i))) (a.numbering.here r) (same_child a.numbering (a.numbering.back r) _ _ (from i))

  zombie_child_from : (r i : ℕ) → is_zombie_child_of r (at l.table i) ≡ is_zombie_child_of (a.numbering.back r) (at k.table (a.numbering.back i))
  zombie_child_from r i = subst (λ (s : ℕ). is_zombie_child_of s (at l.table i) ≡ is_zombie_child_of (a.numbering.back r) (at k.table (a.numbering.back i))) (a.numbering.here r) (same_zombie_child a.numbering (a.numbering.back r) _ _ (from i))

  -- ---- what it waits for

  pub waits_so : (q : ℕ) (c : Channel) → Waits k.table k.pipes (a.numbering.back q) (moved_channel a.numbering.back c) → Waits l.table l.pipes q c
  waits_so q (PipeBytes id) w = subst (λ (pipes : Pipes). IsThere WaitsForBytes pipes id) same_pipes w
  waits_so q (PipeRoom id) w = subst (λ (pipes : Pipes). IsThere WaitsForRoom pipes id) same_pipes w
  waits_so q (Children pid) w =
      let child = w.1.child in (
        sym (a.numbering.here pid) ∙ ap a.numbering.to w.0 ∙ a.numbering.here q,
        record {
          child = (a.numbering.to child.0, child_from q (a.numbering.to child.0) ∙ ap (λ (i : ℕ). is_child_of (a.numbering.back q) (at k.table i)) (a.numbering.there child.0) ∙ child.1);
          living = λ i. zombie_child_from q i ∙ w.1.living (a.numbering.back i);
        },
      )

  -- ---- what it asks for

  pub alive_so : (q : ℕ) → is_zombie (at l.table q) ≡ false → is_zombie (at k.table (a.numbering.back q)) ≡ false
  alive_so q alive = sym (same_zombie a.numbering _ _ (from q)) ∙ alive

  exact : (q : ℕ) → is_zombie (at l.table q) ≡ false → at l.table q ≡ moved_slot a.numbering.to (at k.table (a.numbering.back q))
  exact q alive = exactly a.numbering (at k.table (a.numbering.back q)) (at l.table q) (from q) (alive_so q alive)

  same_fds : (q : ℕ) → is_zombie (at l.table q) ≡ false → fds_at k (a.numbering.back q) ≡ fds_at l q
  same_fds q alive = sym (fds_so a.numbering.to (at k.table (a.numbering.back q))) ∙ ap fds_of (sym (exact q alive))

  same_object : (q : ℕ) → is_zombie (at l.table q) ≡ false → (fd : ℕ) → object_at l q fd ≡ object_at k (a.numbering.back q) fd
  same_object q alive fd = λ i. object_of (file_at (ap (λ (j : KernelState S). j.entries) (sym a.rest) i) (entry_of (sym (same_fds q alive) i) fd))

  pub asks_so : (q : ℕ) (c : Call) (put : ℕ) (ch : Channel) → is_zombie (at l.table q) ≡ false → MaySleep k (a.numbering.back q) c put (moved_channel a.numbering.back ch) → MaySleep l q c put ch
  asks_so q c put (PipeBytes id) alive m = (m.0, m.1, m.2, same_object q alive m.0 ∙ m.3)
  asks_so q c put (PipeRoom id) alive m = (m.0, (m.1.0, m.1.1, same_object q alive m.1.0 ∙ m.1.2), m.2)
  asks_so q c put (Children pid) alive m = (sym (a.numbering.here pid) ∙ ap a.numbering.to m.0 ∙ a.numbering.here q, m.1)

  -- ---- who lives in l lives in k

  pub there_so : (q : ℕ) (p : Process S) → at l.table q ≡ Some p → is_zombie (at l.table q) ≡ false → at k.table (a.numbering.back q) ≡ Some (moved_process a.numbering.back p)
  there_so q p there alive = sym (back_slot a.numbering (at k.table (a.numbering.back q))) ∙ ap (moved_slot a.numbering.back) (sym (exact q alive) ∙ there)

  waits_too : AllWait k.table k.pipes → AllWait l.table l.pipes
  waits_too all q c s =
      let p = sleeps_is (at l.table q) c s in
      waits_so q c (all (a.numbering.back q) (moved_channel a.numbering.back c) (sleeps_there _ _ _ (there_so q p.0 p.1 (sleeper_alive p.0 c (at l.table q) p.1 p.2)) (ap (moved_status a.numbering.back) p.2)))

  family_too : IsFamily k.table → IsFamily l.table
  family_too f =
      record {
        init = subst (λ (i : ℕ). Lives (at l.table i)) a.moved.init (lives_moved a.numbering (at k.table 0) (at l.table (a.numbering.to 0)) (a.moved.slots 0) f.init);
        eldest = λ r. child_from r 0 ∙ ap (λ (i : ℕ). is_child_of (a.numbering.back r) (at k.table i)) (ap a.numbering.back (sym a.moved.init) ∙ a.numbering.there 0) ∙ f.eldest (a.numbering.back r);
        own = λ i. child_from i i ∙ f.own (a.numbering.back i);
        parents = λ i q is. lives_moved a.numbering (at k.table (a.numbering.back q)) (at l.table q) (from q) (f.parents (a.numbering.back i) (a.numbering.back q) (sym (child_from q i) ∙ is));
      }

  pub settled_too : (call : S → Reply → Call) → IsSettled call k → IsStill l → IsSettled call l
  settled_too call s still =
      record {
        still = still;
        fine = λ q. fine_moved a.numbering (at k.table (a.numbering.back q)) (at l.table q) (from q) (s.fine (a.numbering.back q));
        rests = record { waits = waits_too s.rests.waits; small = subst AreSmall same_pipes s.rests.small; family = family_too s.rests.family };
        asks = λ q p c there asleep.
            asks_so q (call p.machine p.reply) p.put c (sleeper_alive p c (at l.table q) there asleep)
            (s.asks (a.numbering.back q) (moved_process a.numbering.back p) (moved_channel a.numbering.back c) (there_so q p there (sleeper_alive p c (at l.table q) there asleep)) (ap (moved_status a.numbering.back) asleep));
      }
