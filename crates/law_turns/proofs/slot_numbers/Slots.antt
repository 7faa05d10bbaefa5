-- One slot after slots got other numbers: each change of a slot commutes with that, and no test of a slot sees it.
use Rattle.std.proofs.Common.{◌≡◌, ◌≢◌, ℕ, Bool, true, false, Option, Some, None, refl, sym, ap, subst, ◌∙◌}
use Rattle.std.proofs.lemmas.Bool.{and_parts, eqb-true}
use Rattle.std.specs.Prelude.{◌&&◌, if◌then◌else◌}
use Rattle.user_calls.specs.declared.calls.Reply.{Reply}
use Rattle.fd_table.specs.Descriptors.{Descriptors}
use Rattle.proc_table.specs.declared.states.Channel.{Channel}
use Rattle.proc_table.specs.declared.states.Channel.TheVariants.{PipeBytes, PipeRoom, Children}
use Rattle.proc_table.specs.declared.states.Status.{Status}
use Rattle.proc_table.specs.declared.states.Status.TheVariants.{Runnable, Running, Asleep, Zombie}
use Rattle.proc_table.specs.Slots.{Slot, same_channel, is_number, is_child_of, is_zombie, is_zombie_status, is_zombie_child_of, parent_of, parent_or_init, put_of}
use Rattle.proc_table.specs.Calls.{with_status, made_ready, put_to_sleep, with_fds, woken_status, woken, parent_after, given}
use Rattle.kernel_model.specs.KernelState.{fds_of}
use Rattle.kernel_model.specs.Alike.{IsOneToOne}
use Rattle.kernel_model.specs.Numbers.{Numbering, renumbered_place}
use Rattle.law_turns.proofs.orders.Tables.{same_eq}
use Rattle.kernel_model.specs.Slots.{moved_channel, moved_status, moved_process, moved_slot, IsZombieOf, IsMoved, same, zombies}

-- ---- what changes a slot

pub fds_so : {S : Type 0} (to : ℕ → ℕ) (x : Slot S) → fds_of (moved_slot to x) ≡ fds_of x
fds_so to None = refl
fds_so to (Some p) = refl

pub put_so : {S : Type 0} (to : ℕ → ℕ) (x : Slot S) → put_of (moved_slot to x) ≡ put_of x
put_so to None = refl
put_so to (Some p) = refl

pub ready_so : {S : Type 0} (to : ℕ → ℕ) (m : S) (reply : Reply) (x : Slot S) → made_ready m reply (moved_slot to x) ≡ moved_slot to (made_ready m reply x)
ready_so to m reply None = refl
ready_so to m reply (Some p) = refl

pub sleep_so : {S : Type 0} (to : ℕ → ℕ) (c : Channel) (put : ℕ) (x : Slot S) → put_to_sleep (moved_channel to c) put (moved_slot to x) ≡ moved_slot to (put_to_sleep c put x)
sleep_so to c put None = refl
sleep_so to c put (Some p) = refl

pub with_fds_so : {S : Type 0} (to : ℕ → ℕ) (fds : Descriptors) (x : Slot S) → with_fds fds (moved_slot to x) ≡ moved_slot to (with_fds fds x)
with_fds_so to fds None = refl
with_fds_so to fds (Some p) = refl

pub status_so : {S : Type 0} (to : ℕ → ℕ) (s : Status) (x : Slot S) → with_status (moved_status to s) (moved_slot to x) ≡ moved_slot to (with_status s x)
status_so to s None = refl
status_so to s (Some p) = refl

-- ---- zombies

pub zombie_given : {S : Type 0} (pid : ℕ) (parent : Option ℕ) (x : Slot S) → IsZombieOf parent x → IsZombieOf (parent_after pid parent) (given pid x)
zombie_given pid parent x z =
    record { process = record z.process { parent = parent_after pid z.process.parent }; there = ap (given pid) z.there; dead = z.dead; child = ap (parent_after pid) z.child }

pub zombie_woken : {S : Type 0} (c : Channel) (parent : Option ℕ) (x : Slot S) → IsZombieOf parent x → IsZombieOf parent (woken c x)
zombie_woken c parent x z =
    record { process = record z.process { status = woken_status c z.process.status }; there = ap (woken c) z.there; dead = ap (woken_status c) z.dead; child = z.child }

pub child_of : {S : Type 0} (pid : ℕ) (parent : Option ℕ) (x : Slot S) → IsZombieOf parent x → is_child_of pid x ≡ is_number pid parent
child_of pid parent x z = ap (is_child_of pid) z.there ∙ ap (is_number pid) z.child

pub dead : {S : Type 0} (parent : Option ℕ) (x : Slot S) → IsZombieOf parent x → is_zombie x ≡ true
dead parent x z = ap is_zombie z.there ∙ ap is_zombie_status z.dead

parent_is : (pid : ℕ) (o : Option ℕ) → is_number pid o ≡ true → o ≡ Some pid
parent_is pid None is = absurd (let z : ⊥ = cc in z)
parent_is pid (Some parent) is = ap Some (sym (eqb-true pid parent is))

status_is : (s : Status) → is_zombie_status s ≡ true → s ≡ Zombie
status_is Runnable is = absurd (let z : ⊥ = cc in z)
status_is (Running h) is = absurd (let z : ⊥ = cc in z)
status_is (Asleep c) is = absurd (let z : ⊥ = cc in z)
status_is Zombie is = refl

pub zombie_is : {S : Type 0} (pid : ℕ) (x : Slot S) → is_zombie_child_of pid x ≡ true → IsZombieOf (Some pid) x
zombie_is pid None is = absurd (let z : ⊥ = cc in z)
zombie_is pid (Some p) is =
    let parts = and_parts (is_number pid p.parent) (is_zombie_status p.status) is in
    record { process = p; there = refl; dead = status_is p.status parts.1; child = parent_is pid p.parent parts.0 }

-- ---- other numbers

module _ (n : Numbering) where
  pub one_to_one : IsOneToOne n.to
  one_to_one a b is = sym (n.there a) ∙ ap n.back is ∙ n.there b

  pub apart : (a b : ℕ) → a ≢ b → n.to a ≢ n.to b
  apart a b ne is = ne (one_to_one a b is)

  -- ---- parents and channels

  pub number_so : (a : ℕ) (o : Option ℕ) → is_number (n.to a) (renumbered_place n.to o) ≡ is_number a o
  number_so a None = refl
  number_so a (Some b) = same_eq n.to one_to_one a b

  channels_so : (c d : Channel) → same_channel (moved_channel n.to c) (moved_channel n.to d) ≡ same_channel c d
  channels_so (PipeBytes p) (PipeBytes q) = refl
  channels_so (PipeBytes p) (PipeRoom q) = refl
  channels_so (PipeBytes p) (Children q) = refl
  channels_so (PipeRoom p) (PipeBytes q) = refl
  channels_so (PipeRoom p) (PipeRoom q) = refl
  channels_so (PipeRoom p) (Children q) = refl
  channels_so (Children p) (PipeBytes q) = refl
  channels_so (Children p) (PipeRoom q) = refl
  channels_so (Children p) (Children q) = same_eq n.to one_to_one p q

  woken_if : (b : Bool) (d : Channel) → (if b then Runnable else Asleep (moved_channel n.to d)) ≡ moved_status n.to (if b then Runnable else Asleep d)
  woken_if true d = refl
  woken_if false d = refl

  woken_status_so : (c : Channel) (s : Status) → woken_status (moved_channel n.to c) (moved_status n.to s) ≡ moved_status n.to (woken_status c s)
  woken_status_so c Runnable = refl
  woken_status_so c (Running h) = refl
  woken_status_so c (Asleep d) = ap (λ (b : Bool). if b then Runnable else Asleep (moved_channel n.to d)) (channels_so c d) ∙ woken_if (same_channel c d) d
  woken_status_so c Zombie = refl

  pub woken_so : {S : Type 0} (c : Channel) (x : Slot S) → woken (moved_channel n.to c) (moved_slot n.to x) ≡ moved_slot n.to (woken c x)
  woken_so c None = refl
  woken_so c (Some p) = λ i. Some (record (moved_process n.to p) { status = woken_status_so c p.status i })

  -- ---- an exit

  module _ (init : n.to 0 ≡ 0) where
    after_if : (b : Bool) (o : Option ℕ) → (if b then Some 0 else renumbered_place n.to o) ≡ renumbered_place n.to (if b then Some 0 else o)
    after_if true o = λ i. Some (sym init i)
    after_if false o = refl

    after_so : (pid : ℕ) (o : Option ℕ) → parent_after (n.to pid) (renumbered_place n.to o) ≡ renumbered_place n.to (parent_after pid o)
    after_so pid o = ap (λ (b : Bool). if b then Some 0 else renumbered_place n.to o) (number_so pid o) ∙ after_if (is_number pid o) o

    pub given_so : {S : Type 0} (pid : ℕ) (x : Slot S) → given (n.to pid) (moved_slot n.to x) ≡ moved_slot n.to (given pid x)
    given_so pid None = refl
    given_so pid (Some p) = λ i. Some (record (moved_process n.to p) { parent = after_so pid p.parent i })

    init_so : (o : Option ℕ) → parent_or_init (renumbered_place n.to o) ≡ n.to (parent_or_init o)
    init_so None = sym init
    init_so (Some parent) = refl

    pub parent_so : {S : Type 0} (x : Slot S) → parent_of (moved_slot n.to x) ≡ n.to (parent_of x)
    parent_so None = sym init
    parent_so (Some p) = init_so p.parent

    pub is_given : {S : Type 0} (pid : ℕ) (x y : Slot S) → IsMoved n.to x y → IsMoved n.to (given pid x) (given (n.to pid) y)
    is_given pid x y (same is) = same (ap (given (n.to pid)) is ∙ given_so pid x)
    is_given pid x y (zombies parent z w) =
        zombies (parent_after pid parent) (zombie_given pid parent x z)
        (subst (λ (o : Option ℕ). IsZombieOf o (given (n.to pid) y)) (after_so pid parent) (zombie_given (n.to pid) (renumbered_place n.to parent) y w))

  -- ---- a wake-up

  pub is_woken : {S : Type 0} (c : Channel) (x y : Slot S) → IsMoved n.to x y → IsMoved n.to (woken c x) (woken (moved_channel n.to c) y)
  is_woken c x y (same is) = same (ap (woken (moved_channel n.to c)) is ∙ woken_so c x)
  is_woken c x y (zombies parent z w) = zombies parent (zombie_woken c parent x z) (zombie_woken (moved_channel n.to c) (renumbered_place n.to parent) y w)

  -- ---- tests

  zombie_status_so : (s : Status) → is_zombie_status (moved_status n.to s) ≡ is_zombie_status s
  zombie_status_so Runnable = refl
  zombie_status_so (Running h) = refl
  zombie_status_so (Asleep c) = refl
  zombie_status_so Zombie = refl

  child_so : {S : Type 0} (pid : ℕ) (x : Slot S) → is_child_of (n.to pid) (moved_slot n.to x) ≡ is_child_of pid x
  child_so pid None = refl
  child_so pid (Some p) = number_so pid p.parent

  zombie_so : {S : Type 0} (x : Slot S) → is_zombie (moved_slot n.to x) ≡ is_zombie x
  zombie_so None = refl
  zombie_so (Some p) = zombie_status_so p.status

  pub same_child : {S : Type 0} (pid : ℕ) (x y : Slot S) → IsMoved n.to x y → is_child_of (n.to pid) y ≡ is_child_of pid x
  same_child pid x y (same is) = ap (is_child_of (n.to pid)) is ∙ child_so pid x
  same_child pid x y (zombies parent z w) = child_of (n.to pid) (renumbered_place n.to parent) y w ∙ number_so pid parent ∙ sym (child_of pid parent x z)

  pub same_zombie : {S : Type 0} (x y : Slot S) → IsMoved n.to x y → is_zombie y ≡ is_zombie x
  same_zombie x y (same is) = ap is_zombie is ∙ zombie_so x
  same_zombie x y (zombies parent z w) = dead (renumbered_place n.to parent) y w ∙ sym (dead parent x z)

  pub same_zombie_child : {S : Type 0} (pid : ℕ) (x y : Slot S) → IsMoved n.to x y → is_zombie_child_of (n.to pid) y ≡ is_zombie_child_of pid x
  same_zombie_child pid x y m = λ i. same_child pid x y m i && same_zombie x y m i

  -- a free slot stays free
  no_zombie : {S : Type 0} (parent : Option ℕ) (x : Slot S) → IsZombieOf parent x → x ≡ None → ⊥
  no_zombie parent x z none = let no : None ≡ Some z.process = sym none ∙ z.there in let w : ⊥ = cc in w

  pub stays_free : {S : Type 0} (x y : Slot S) → IsMoved n.to x y → x ≡ None → y ≡ None
  stays_free x y (same is) none = is ∙ ap (moved_slot n.to) none
  stays_free x y (zombies parent z w) none = absurd (no_zombie parent x z none)

  unmoved : {S : Type 0} (x : Slot S) → moved_slot n.to x ≡ None → x ≡ None
  unmoved None is = refl
  unmoved (Some p) is = absurd (let z : ⊥ = cc in z)

  pub was_free : {S : Type 0} (x y : Slot S) → IsMoved n.to x y → y ≡ None → x ≡ None
  was_free x y (same is) none = unmoved x (sym is ∙ none)
  was_free x y (zombies parent z w) none = absurd (no_zombie (renumbered_place n.to parent) y w none)

  -- a slot whose process is no zombie is moved as it is
  pub exactly : {S : Type 0} (x y : Slot S) → IsMoved n.to x y → is_zombie x ≡ false → y ≡ moved_slot n.to x
  exactly x y (same is) alive = is
  exactly x y (zombies parent z w) alive = absurd (let no : true ≡ false = sym (dead parent x z) ∙ alive in let v : ⊥ = cc in v)
