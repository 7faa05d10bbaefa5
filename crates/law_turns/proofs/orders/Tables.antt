-- The calls of a table of processes commute with its being idle and with new names of pipes.
use Rattle.std.proofs.Common.{◌≡◌, ℕ, ◌+◌, List, [], ◌∷◌, Bool, true, false, Option, Some, None, refl, sym, ap, ◌∙◌}
use Rattle.std.proofs.Math.ListN.{set}
use Rattle.std.proofs.lemmas.Bool.{eq-eqb, ne_eqb, eqb-true}
use Rattle.std.proofs.lemmas.List.{length-map, map-set}
use Rattle.std.proofs.lemmas.List.Sums.{sum_by-cons}
use Rattle.std.specs.Prelude.{map, cond, nat_lt, ◌==◌, ◌&&◌, not, position, count_by, is_some, if◌then◌else◌}
use Rattle.std.specs.List.{prefix_len}
use Rattle.user_calls.specs.declared.calls.Reply.{Reply}
use Rattle.fd_table.specs.Descriptors.{Descriptors}
use Rattle.proc_table.specs.declared.states.Channel.{Channel}
use Rattle.proc_table.specs.declared.states.Channel.TheVariants.{PipeBytes, PipeRoom, Children}
use Rattle.proc_table.specs.declared.states.Status.{Status}
use Rattle.proc_table.specs.declared.states.Status.TheVariants.{Runnable, Running, Asleep, Zombie}
use Rattle.proc_table.specs.Slots.{Slot, Table, at, same_channel, is_free, is_child_of, is_zombie, is_zombie_status, is_zombie_child_of, parent_of, put_of}
use Rattle.proc_table.specs.Calls.{with_status, status_set, made_ready, readied, put_to_sleep, slept, with_fds, fds_set, woken_status, woken, all_woken, given, zombie_child, some_child, buried, exited, wait_answer, wait_by, freed, reaped, lowest_free, forked, newborn}
use Rattle.proc_table.proofs.Changes.{mapped}
use Rattle.kernel_model.specs.KernelState.{fds_of}
use Rattle.kernel_model.specs.Idle.{renamed_channel, idle_status, idle_slot}
use Rattle.kernel_model.specs.Alike.{IsOneToOne}

-- ---- what lists have in common whose elements look the same

pub map_swap : {X Y U V : Type 0} (f : Y → V) (g : X → Y) (h : X → U) (r : U → V) → ((x : X) → f (g x) ≡ r (h x)) → (xs : List X) → map f (map g xs) ≡ map r (map h xs)
map_swap f g h r each [] = refl
map_swap f g h r each (x ∷ xs) = λ i. each x i ∷ map_swap f g h r each xs i

prefix_map : {X Y : Type 0} (p : Y → Bool) (q : X → Bool) (g : X → Y) → ((x : X) → p (g x) ≡ q x) → (xs : List X) → prefix_len p (map g xs) ≡ prefix_len q xs
prefix_map p q g each [] = refl
prefix_map p q g each (x ∷ xs) = λ i. cond {A = ℕ} (each x i) (1 + prefix_map p q g each xs i) 0

pub position_map : {X Y : Type 0} (p : Y → Bool) (q : X → Bool) (g : X → Y) → ((x : X) → p (g x) ≡ q x) → (xs : List X) → position p (map g xs) ≡ position q xs
position_map p q g each xs =
    let first = prefix_map (λ y. not (p y)) (λ x. not (q x)) g (λ x. ap not (each x)) xs in
    λ i. cond {A = Option ℕ} (nat_lt (first i) (length-map xs g i)) (Some (first i)) None

pub count_map : {X Y : Type 0} (p : Y → Bool) (q : X → Bool) (g : X → Y) → ((x : X) → p (g x) ≡ q x) → (xs : List X) → count_by p (map g xs) ≡ count_by q xs
count_map p q g each [] = refl
count_map p q g each (x ∷ xs) =
    sum_by-cons (λ y. cond {A = ℕ} (p y) 1 0) (g x) (map g xs) ∙ (λ i. cond {A = ℕ} (each x i) 1 0 + count_map p q g each xs i) ∙ sym (sum_by-cons (λ y. cond {A = ℕ} (q y) 1 0) x xs)

-- ---- one slot

pub slot_fds : {S : Type 0} (name : ℕ → ℕ) (x : Slot S) → fds_of (idle_slot name x) ≡ fds_of x
slot_fds name None = refl
slot_fds name (Some p) = refl

pub slot_put : {S : Type 0} (name : ℕ → ℕ) (x : Slot S) → put_of (idle_slot name x) ≡ put_of x
slot_put name None = refl
slot_put name (Some p) = refl

slot_parent : {S : Type 0} (name : ℕ → ℕ) (x : Slot S) → parent_of (idle_slot name x) ≡ parent_of x
slot_parent name None = refl
slot_parent name (Some p) = refl

slot_free : {S : Type 0} (name : ℕ → ℕ) (x : Slot S) → is_free (idle_slot name x) ≡ is_free x
slot_free name None = refl
slot_free name (Some p) = refl

slot_child : {S : Type 0} (name : ℕ → ℕ) (pid : ℕ) (x : Slot S) → is_child_of pid (idle_slot name x) ≡ is_child_of pid x
slot_child name pid None = refl
slot_child name pid (Some p) = refl

zombie_status : (name : ℕ → ℕ) (s : Status) → is_zombie_status (idle_status name s) ≡ is_zombie_status s
zombie_status name Runnable = refl
zombie_status name (Running h) = refl
zombie_status name (Asleep c) = refl
zombie_status name Zombie = refl

slot_zombie : {S : Type 0} (name : ℕ → ℕ) (x : Slot S) → is_zombie (idle_slot name x) ≡ is_zombie x
slot_zombie name None = refl
slot_zombie name (Some p) = zombie_status name p.status

slot_zombie_child : {S : Type 0} (name : ℕ → ℕ) (pid : ℕ) (x : Slot S) → is_zombie_child_of pid (idle_slot name x) ≡ is_zombie_child_of pid x
slot_zombie_child name pid x = λ i. slot_child name pid x i && slot_zombie name x i

ready_idle : {S : Type 0} (name : ℕ → ℕ) (m : S) (reply : Reply) (x : Slot S) → made_ready m reply (idle_slot name x) ≡ idle_slot name (made_ready m reply x)
ready_idle name m reply None = refl
ready_idle name m reply (Some p) = refl

sleep_idle : {S : Type 0} (name : ℕ → ℕ) (c : Channel) (put : ℕ) (x : Slot S) → put_to_sleep (renamed_channel name c) put (idle_slot name x) ≡ idle_slot name (put_to_sleep c put x)
sleep_idle name c put None = refl
sleep_idle name c put (Some p) = refl

fds_idle : {S : Type 0} (name : ℕ → ℕ) (fds : Descriptors) (x : Slot S) → with_fds fds (idle_slot name x) ≡ idle_slot name (with_fds fds x)
fds_idle name fds None = refl
fds_idle name fds (Some p) = refl

given_idle : {S : Type 0} (name : ℕ → ℕ) (pid : ℕ) (x : Slot S) → given pid (idle_slot name x) ≡ idle_slot name (given pid x)
given_idle name pid None = refl
given_idle name pid (Some p) = refl

zombie_idle : {S : Type 0} (name : ℕ → ℕ) (x : Slot S) → with_status Zombie (idle_slot name x) ≡ idle_slot name (with_status Zombie x)
zombie_idle name None = refl
zombie_idle name (Some p) = refl

-- ---- channels

module _ (name : ℕ → ℕ) (one : IsOneToOne name) where
  pub same_eq : (a b : ℕ) → (name a == name b) ≡ (a == b)
  same_eq a b = by (a == b) refl where
    by : (r : Bool) → (a == b) ≡ r → (name a == name b) ≡ r
    by true is = eq-eqb (name a) (name b) (ap name (eqb-true a b is))
    by false is = ne_eqb (name a) (name b) (λ e. absurd (let no : true ≡ false = sym (eq-eqb a b (one a b e)) ∙ is in let z : ⊥ = cc in z))

  same_channels : (c d : Channel) → same_channel (renamed_channel name c) (renamed_channel name d) ≡ same_channel c d
  same_channels (PipeBytes p) (PipeBytes q) = same_eq p q
  same_channels (PipeBytes p) (PipeRoom q) = refl
  same_channels (PipeBytes p) (Children q) = refl
  same_channels (PipeRoom p) (PipeBytes q) = refl
  same_channels (PipeRoom p) (PipeRoom q) = same_eq p q
  same_channels (PipeRoom p) (Children q) = refl
  same_channels (Children p) (PipeBytes q) = refl
  same_channels (Children p) (PipeRoom q) = refl
  same_channels (Children p) (Children q) = refl

  woken_if : (b : Bool) (d : Channel) → (if b then Runnable else Asleep (renamed_channel name d)) ≡ idle_status name (if b then Runnable else Asleep d)
  woken_if true d = refl
  woken_if false d = refl

  woken_idle_status : (c : Channel) (s : Status) → woken_status (renamed_channel name c) (idle_status name s) ≡ idle_status name (woken_status c s)
  woken_idle_status c Runnable = refl
  woken_idle_status c (Running h) = refl
  woken_idle_status c (Asleep d) = ap (λ (b : Bool). if b then Runnable else Asleep (renamed_channel name d)) (same_channels c d) ∙ woken_if (same_channel c d) d
  woken_idle_status c Zombie = refl

-- ---- the table

module _ {S : Type 0} (name : ℕ → ℕ) where
  abbrev pub idle_table : Table S → Table S
  idle_table t = map (idle_slot name) t

  pub at_idle : (t : Table S) (pid : ℕ) → at (idle_table t) pid ≡ idle_slot name (at t pid)
  at_idle t pid = mapped (idle_slot name) refl t pid

  pub idle_fds : (t : Table S) (pid : ℕ) → fds_of (at (idle_table t) pid) ≡ fds_of (at t pid)
  idle_fds t pid = ap fds_of (at_idle t pid) ∙ slot_fds name (at t pid)

  pub idle_put : (t : Table S) (pid : ℕ) → put_of (at (idle_table t) pid) ≡ put_of (at t pid)
  idle_put t pid = ap put_of (at_idle t pid) ∙ slot_put name (at t pid)

  -- a slot gets what a function makes of it
  set_idle : (f g : Slot S → Slot S) → ((x : Slot S) → f (idle_slot name x) ≡ idle_slot name (g x)) → (t : Table S) (pid : ℕ) → set (idle_table t) pid (f (at (idle_table t) pid)) ≡ idle_table (set t pid (g (at t pid)))
  set_idle f g each t pid =
      ap (λ (x : Slot S). set (idle_table t) pid x) (ap f (at_idle t pid) ∙ each (at t pid)) ∙ sym (map-set (idle_slot name) t pid (g (at t pid)))

  pub ready_table : (t : Table S) (pid : ℕ) (m : S) (reply : Reply) → readied (idle_table t) pid m reply ≡ idle_table (readied t pid m reply)
  ready_table t pid m reply = set_idle (made_ready m reply) (made_ready m reply) (ready_idle name m reply) t pid

  pub sleep_table : (t : Table S) (pid : ℕ) (c : Channel) (put : ℕ) → slept (idle_table t) pid (renamed_channel name c) put ≡ idle_table (slept t pid c put)
  sleep_table t pid c put = set_idle (put_to_sleep (renamed_channel name c) put) (put_to_sleep c put) (sleep_idle name c put) t pid

  pub fds_table : (t : Table S) (pid : ℕ) (fds : Descriptors) → fds_set (idle_table t) pid fds ≡ idle_table (fds_set t pid fds)
  fds_table t pid fds = set_idle (with_fds fds) (with_fds fds) (fds_idle name fds) t pid

  pub idle_lowest : (t : Table S) → lowest_free (idle_table t) ≡ lowest_free t
  idle_lowest t = position_map is_free is_free (idle_slot name) (slot_free name) t

  pub idle_zombie : (t : Table S) (pid : ℕ) → zombie_child (idle_table t) pid ≡ zombie_child t pid
  idle_zombie t pid = position_map (is_zombie_child_of pid) (is_zombie_child_of pid) (idle_slot name) (slot_zombie_child name pid) t

  idle_child : (t : Table S) (pid : ℕ) → some_child (idle_table t) pid ≡ some_child t pid
  idle_child t pid = position_map (is_child_of pid) (is_child_of pid) (idle_slot name) (slot_child name pid) t

  pub idle_wait : (t : Table S) (pid : ℕ) → wait_answer (idle_table t) pid ≡ wait_answer t pid
  idle_wait t pid = λ i. wait_by (idle_zombie t pid i) (idle_child t pid i)

  freed_table : (t : Table S) (o : Option ℕ) → freed (idle_table t) o ≡ idle_table (freed t o)
  freed_table t None = refl
  freed_table t (Some child) = sym (map-set (idle_slot name) t child None)

  pub reaped_table : (t : Table S) (pid : ℕ) → reaped (idle_table t) pid ≡ idle_table (reaped t pid)
  reaped_table t pid = ap (freed (idle_table t)) (idle_zombie t pid) ∙ freed_table t (zombie_child t pid)

  pub forked_table : (t : Table S) (child parent : ℕ) (m : S) (fds : Descriptors) → forked (idle_table t) child parent m fds ≡ idle_table (forked t child parent m fds)
  forked_table t child parent m fds = sym (map-set (idle_slot name) t child (Some (newborn parent m fds)))

  buried_table : (t : Table S) (pid : ℕ) → buried (idle_table t) pid ≡ idle_table (buried t pid)
  buried_table t pid =
      ap (λ (u : Table S). status_set u pid Zombie) (map_swap (given pid) (idle_slot name) (given pid) (idle_slot name) (given_idle name pid) t) ∙ set_idle (with_status Zombie) (with_status Zombie) (zombie_idle name) (map (given pid) t) pid

  module _ (one : IsOneToOne name) where
    woken_idle : (c : Channel) (x : Slot S) → woken (renamed_channel name c) (idle_slot name x) ≡ idle_slot name (woken c x)
    woken_idle c None = refl
    woken_idle c (Some p) = λ i. Some (record p { status = woken_idle_status name one c p.status i })

    pub woken_table : (c : Channel) (t : Table S) → all_woken (renamed_channel name c) (idle_table t) ≡ idle_table (all_woken c t)
    woken_table c t = map_swap (woken (renamed_channel name c)) (idle_slot name) (woken c) (idle_slot name) (woken_idle c) t

    exited_by : (b : Bool) (gone rest : Table S) → rest ≡ idle_table gone → (if b then all_woken (Children 0) rest else rest) ≡ idle_table (if b then all_woken (Children 0) gone else gone)
    exited_by true gone rest is = ap (all_woken (Children 0)) is ∙ woken_table (Children 0) gone
    exited_by false gone rest is = is

    pub exited_table : (t : Table S) (pid : ℕ) → exited (idle_table t) pid ≡ idle_table (exited t pid)
    exited_table t pid =
        let parent : parent_of (at (idle_table t) pid) ≡ parent_of (at t pid) = ap parent_of (at_idle t pid) ∙ slot_parent name (at t pid) in
        let gone : Table S = all_woken (Children (parent_of (at t pid))) (buried t pid) in
        let rest : Table S = all_woken (Children (parent_of (at (idle_table t) pid))) (buried (idle_table t) pid) in
        let same : rest ≡ idle_table gone = (λ i. all_woken (Children (parent i)) (buried_table t pid i)) ∙ woken_table (Children (parent_of (at t pid))) (buried t pid) in
        ap (λ (o : Option ℕ). if is_some o then all_woken (Children 0) rest else rest) (idle_zombie t pid) ∙ exited_by (is_some (zombie_child t pid)) gone rest same
