-- To differ only in the numbers of slots holds of each kernel with itself, holds both ways, is passed on, and isn't seen in the outcome.
use Rattle.std.proofs.Common.{◌≡◌, ◌≢◌, ℕ, Option, Some, None, refl, sym, ap, subst, ◌∙◌}
use Rattle.proc_table.specs.declared.states.Channel.{Channel}
use Rattle.proc_table.specs.declared.states.Channel.TheVariants.{PipeBytes, PipeRoom, Children}
use Rattle.proc_table.specs.declared.states.Status.{Status}
use Rattle.proc_table.specs.declared.states.Status.TheVariants.{Runnable, Running, Asleep, Zombie}
use Rattle.proc_table.specs.Slots.{Slot, Table, Process, at}
use Rattle.kernel_model.specs.KernelState.{KernelState}
use Rattle.kernel_model.specs.Events.{IsFinished}
use Rattle.kernel_model.specs.Numbers.{Numbering, renumbered_place}
use Rattle.kernel_model.specs.Outcome.{SameOutcome, outcome_of}
use Rattle.law_turns.proofs.entry_numbers.Numberings.{unchanged, opposite, followed_by}
use Rattle.kernel_model.specs.Slots.{moved_channel, moved_status, moved_process, moved_slot, IsZombieOf, IsMoved, same, zombies, AreMoved, SameButSlots}
use Rattle.law_turns.proofs.slot_numbers.Slots.{stays_free}
use Rattle.law_turns.proofs.slot_numbers.Tables.{Moves}

-- ---- one number after the other

module _ (f g h : ℕ → ℕ) (each : (i : ℕ) → g (f i) ≡ h i) where
  channel_twice : (c : Channel) → moved_channel g (moved_channel f c) ≡ moved_channel h c
  channel_twice (PipeBytes p) = refl
  channel_twice (PipeRoom p) = refl
  channel_twice (Children q) = λ i. Children (each q i)

  status_twice : (s : Status) → moved_status g (moved_status f s) ≡ moved_status h s
  status_twice Runnable = refl
  status_twice (Running hart) = refl
  status_twice (Asleep c) = ap Asleep (channel_twice c)
  status_twice Zombie = refl

  place_twice : (o : Option ℕ) → renumbered_place g (renumbered_place f o) ≡ renumbered_place h o
  place_twice None = refl
  place_twice (Some q) = λ i. Some (each q i)

  slot_twice : {S : Type 0} (x : Slot S) → moved_slot g (moved_slot f x) ≡ moved_slot h x
  slot_twice None = refl
  slot_twice (Some p) = λ i. Some (record p { status = status_twice p.status i; parent = place_twice p.parent i })

channel_none : (c : Channel) → moved_channel (λ i. i) c ≡ c
channel_none (PipeBytes p) = refl
channel_none (PipeRoom p) = refl
channel_none (Children q) = refl

status_none : (s : Status) → moved_status (λ i. i) s ≡ s
status_none Runnable = refl
status_none (Running hart) = refl
status_none (Asleep c) = ap Asleep (channel_none c)
status_none Zombie = refl

place_none : (o : Option ℕ) → renumbered_place (λ i. i) o ≡ o
place_none None = refl
place_none (Some q) = refl

slot_none : {S : Type 0} (x : Slot S) → moved_slot (λ i. i) x ≡ x
slot_none None = refl
slot_none (Some p) = λ i. Some (record p { status = status_none p.status i; parent = place_none p.parent i })

pub back_slot : {S : Type 0} (n : Numbering) (x : Slot S) → moved_slot n.back (moved_slot n.to x) ≡ x
back_slot n x = slot_twice n.to n.back (λ i. i) n.there x ∙ slot_none x

pub back_channel : (n : Numbering) (c : Channel) → moved_channel n.back (moved_channel n.to c) ≡ c
back_channel n c = channel_twice n.to n.back (λ i. i) n.there c ∙ channel_none c

back_place : (n : Numbering) (o : Option ℕ) → renumbered_place n.back (renumbered_place n.to o) ≡ o
back_place n o = place_twice n.to n.back (λ i. i) n.there o ∙ place_none o

-- ---- zombies

zombie_moved : {S : Type 0} (to : ℕ → ℕ) (parent : Option ℕ) (x : Slot S) → IsZombieOf parent x → IsZombieOf (renumbered_place to parent) (moved_slot to x)
zombie_moved to parent x z = record { process = moved_process to z.process; there = ap (moved_slot to) z.there; dead = ap (moved_status to) z.dead; child = ap (renumbered_place to) z.child }

one_parent : {S : Type 0} (a b : Option ℕ) (x : Slot S) → IsZombieOf a x → IsZombieOf b x → a ≡ b
one_parent a b x z w =
    let both : Some z.process ≡ Some w.process = sym z.there ∙ w.there in
    let one : z.process ≡ w.process = cc in
    sym z.child ∙ ap (λ (p : Process _). p.parent) one ∙ w.child

-- ---- slots

moved_back : {S : Type 0} (n : Numbering) (x y : Slot S) → IsMoved n.to x y → IsMoved n.back y x
moved_back n x y (same is) = same (sym (back_slot n x) ∙ ap (moved_slot n.back) (sym is))
moved_back n x y (zombies parent z w) = zombies (renumbered_place n.to parent) w (subst (λ (o : Option ℕ). IsZombieOf o x) (sym (back_place n parent)) z)

moved_on : {S : Type 0} (n m : Numbering) (x y z : Slot S) → IsMoved n.to x y → IsMoved m.to y z → IsMoved (followed_by n m).to x z
moved_on n m x y z (same a) (same b) = same (b ∙ ap (moved_slot m.to) a ∙ slot_twice n.to m.to (followed_by n m).to (λ i. refl) x)
moved_on n m x y z (same a) (zombies parent v w) =
    let was : IsZombieOf (renumbered_place n.back parent) x = subst (λ (s : Slot _). IsZombieOf (renumbered_place n.back parent) s) (ap (moved_slot n.back) a ∙ back_slot n x) (zombie_moved n.back parent y v) in
    let to : renumbered_place (followed_by n m).to (renumbered_place n.back parent) ≡ renumbered_place m.to parent = place_twice n.back (followed_by n m).to m.to (λ i. ap m.to (n.here i)) parent in
    zombies (renumbered_place n.back parent) was (subst (λ (o : Option ℕ). IsZombieOf o z) (sym to) w)
moved_on n m x y z (zombies parent v w) (same b) =
    let now : IsZombieOf (renumbered_place m.to (renumbered_place n.to parent)) z = subst (λ (s : Slot _). IsZombieOf (renumbered_place m.to (renumbered_place n.to parent)) s) (sym b) (zombie_moved m.to (renumbered_place n.to parent) y w) in
    zombies parent v (subst (λ (o : Option ℕ). IsZombieOf o z) (place_twice n.to m.to (followed_by n m).to (λ i. refl) parent) now)
moved_on n m x y z (zombies parent v w) (zombies other s t) =
    let one : other ≡ renumbered_place n.to parent = one_parent other (renumbered_place n.to parent) y s w in
    zombies parent v (subst (λ (o : Option ℕ). IsZombieOf o z) (ap (renumbered_place m.to) one ∙ place_twice n.to m.to (followed_by n m).to (λ i. refl) parent) t)

-- ---- kernels

module _ {S : Type 0} where
  moved_itself : (t : Table S) → AreMoved unchanged t t
  moved_itself t = record { init = refl; there = λ i lt. lt; here = λ i lt. lt; slots = λ i. same (sym (slot_none (at t i))) }

  pub moves_itself : (t : Table S) (pid : ℕ) → Moves unchanged pid pid t t
  moves_itself t pid = record { moved = moved_itself t; number = refl; mine = sym (slot_none (at t pid)) }

  pub same_itself : (k : KernelState S) → SameButSlots k k
  same_itself k = record { numbering = unchanged; moved = moved_itself k.table; rest = refl }

  pub same_back : (k l : KernelState S) → SameButSlots k l → SameButSlots l k
  same_back k l a =
      let n = a.numbering in
      record {
        numbering = opposite n;
        moved = record {
          init = ap n.back (sym a.moved.init) ∙ n.there 0;
          there = a.moved.here;
          here = a.moved.there;
          slots =
              λ j. subst (λ (y : Slot S). IsMoved n.back y (at k.table (n.back j))) (ap (at l.table) (n.here j))
              (moved_back n (at k.table (n.back j)) (at l.table (n.to (n.back j))) (a.moved.slots (n.back j)));
        };
        rest = sym (ap (λ (j : KernelState S). record j { table = k.table }) a.rest);
      }

  pub same_on : (k l m : KernelState S) → SameButSlots k l → SameButSlots l m → SameButSlots k m
  same_on k l m a b =
      let n = a.numbering in
      let r = b.numbering in
      record {
        numbering = followed_by n r;
        moved = record {
          init = ap r.to a.moved.init ∙ b.moved.init;
          there = λ i lt. b.moved.there (n.to i) (a.moved.there i lt);
          here = λ j lt. a.moved.here (r.back j) (b.moved.here j lt);
          slots = λ i. moved_on n r (at k.table i) (at l.table (n.to i)) (at m.table (r.to (n.to i))) (a.moved.slots i) (b.moved.slots (n.to i));
        };
        rest = ap (λ (j : KernelState S). record j { table = m.table }) a.rest ∙ b.rest;
      }

  finished_so : (k l : KernelState S) → SameButSlots k l → IsFinished k → IsFinished l
  finished_so k l a alone j ne =
      let n = a.numbering in
      let other : n.back j ≢ 0 = λ is. ne (sym (n.here j) ∙ ap n.to is ∙ a.moved.init) in
      ap (at l.table) (sym (n.here j)) ∙ stays_free n (at k.table (n.back j)) (at l.table (n.to (n.back j))) (a.moved.slots (n.back j)) (alone (n.back j) other)

  pub outcome_so : (k l : KernelState S) → SameButSlots k l → SameOutcome k l
  outcome_so k l a =
      record {
        outcome = ap outcome_of a.rest;
        input = ap (λ (j : KernelState S). j.input) a.rest;
        finished = (finished_so k l a, finished_so l k (same_back k l a));
      }
