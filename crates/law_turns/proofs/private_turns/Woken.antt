-- The calls of a table of processes commute with waking all who sleep.
use Rattle.std.proofs.Common.{◌≡◌, ℕ, [], ◌∷◌, Bool, true, false, Option, Some, None, refl, sym, ap, ◌∙◌}
use Rattle.std.proofs.Math.ListN.{set}
use Rattle.std.proofs.lemmas.List.{map-set}
use Rattle.std.specs.Prelude.{map, is_some, ◌&&◌, if◌then◌else◌}
use Rattle.user_calls.specs.declared.calls.Reply.{Reply}
use Rattle.fd_table.specs.Descriptors.{Descriptors}
use Rattle.proc_table.specs.declared.states.Channel.{Channel}
use Rattle.proc_table.specs.declared.states.Channel.TheVariants.{Children}
use Rattle.proc_table.specs.declared.states.Status.{Status}
use Rattle.proc_table.specs.declared.states.Status.TheVariants.{Runnable, Running, Asleep, Zombie}
use Rattle.proc_table.specs.Slots.{Slot, Table, at, same_channel, is_free, is_child_of, is_zombie_status, is_zombie_child_of, parent_of, put_of}
use Rattle.proc_table.specs.Calls.{with_status, status_set, made_ready, readied, put_to_sleep, slept, with_fds, fds_set, woken_status, woken, all_woken, given, zombie_child, some_child, buried, exited, wait_answer, wait_by, freed, reaped, lowest_free, forked, newborn}
use Rattle.proc_table.proofs.Changes.{mapped}
use Rattle.kernel_model.specs.KernelState.{fds_of}
use Rattle.law_turns.proofs.orders.Tables.{map_swap, position_map}
use Rattle.kernel_model.specs.Woke.{woke_status, woke_slot, woke_table}

-- ---- one slot

woke_fds : {S : Type 0} (x : Slot S) → fds_of (woke_slot x) ≡ fds_of x
woke_fds None = refl
woke_fds (Some p) = refl

woke_put : {S : Type 0} (x : Slot S) → put_of (woke_slot x) ≡ put_of x
woke_put None = refl
woke_put (Some p) = refl

woke_parent : {S : Type 0} (x : Slot S) → parent_of (woke_slot x) ≡ parent_of x
woke_parent None = refl
woke_parent (Some p) = refl

woke_free : {S : Type 0} (x : Slot S) → is_free (woke_slot x) ≡ is_free x
woke_free None = refl
woke_free (Some p) = refl

woke_child : {S : Type 0} (pid : ℕ) (x : Slot S) → is_child_of pid (woke_slot x) ≡ is_child_of pid x
woke_child pid None = refl
woke_child pid (Some p) = refl

zombie_status : (s : Status) → is_zombie_status (woke_status s) ≡ is_zombie_status s
zombie_status Runnable = refl
zombie_status (Running h) = refl
zombie_status (Asleep c) = refl
zombie_status Zombie = refl

woke_zombie_child : {S : Type 0} (pid : ℕ) (x : Slot S) → is_zombie_child_of pid (woke_slot x) ≡ is_zombie_child_of pid x
woke_zombie_child pid None = refl
woke_zombie_child pid (Some p) = ap (λ (b : Bool). is_child_of pid (Some p) && b) (zombie_status p.status)

ready_woke : {S : Type 0} (m : S) (reply : Reply) (x : Slot S) → made_ready m reply (woke_slot x) ≡ woke_slot (made_ready m reply x)
ready_woke m reply None = refl
ready_woke m reply (Some p) = refl

sleep_woke : {S : Type 0} (c : Channel) (put : ℕ) (x : Slot S) → woke_slot (put_to_sleep c put (woke_slot x)) ≡ woke_slot (put_to_sleep c put x)
sleep_woke c put None = refl
sleep_woke c put (Some p) = refl

fds_woke : {S : Type 0} (fds : Descriptors) (x : Slot S) → with_fds fds (woke_slot x) ≡ woke_slot (with_fds fds x)
fds_woke fds None = refl
fds_woke fds (Some p) = refl

given_woke : {S : Type 0} (pid : ℕ) (x : Slot S) → given pid (woke_slot x) ≡ woke_slot (given pid x)
given_woke pid None = refl
given_woke pid (Some p) = refl

zombie_woke : {S : Type 0} (x : Slot S) → with_status Zombie (woke_slot x) ≡ woke_slot (with_status Zombie x)
zombie_woke None = refl
zombie_woke (Some p) = refl

woken_if : (b : Bool) (d : Channel) → Runnable ≡ woke_status (if b then Runnable else Asleep d)
woken_if true d = refl
woken_if false d = refl

woken_woke_status : (c : Channel) (s : Status) → woken_status c (woke_status s) ≡ woke_status (woken_status c s)
woken_woke_status c Runnable = refl
woken_woke_status c (Running h) = refl
woken_woke_status c (Asleep d) = woken_if (same_channel c d) d
woken_woke_status c Zombie = refl

woken_woke : {S : Type 0} (c : Channel) (x : Slot S) → woken c (woke_slot x) ≡ woke_slot (woken c x)
woken_woke c None = refl
woken_woke c (Some p) = λ i. Some (record p { status = woken_woke_status c p.status i })

twice_status : (s : Status) → woke_status (woke_status s) ≡ woke_status s
twice_status Runnable = refl
twice_status (Running h) = refl
twice_status (Asleep c) = refl
twice_status Zombie = refl

twice_slot : {S : Type 0} (x : Slot S) → woke_slot (woke_slot x) ≡ woke_slot x
twice_slot None = refl
twice_slot (Some p) = λ i. Some (record p { status = twice_status p.status i })

woke_woken_status : (c : Channel) (s : Status) → woke_status (woken_status c s) ≡ woke_status s
woke_woken_status c Runnable = refl
woke_woken_status c (Running h) = refl
woke_woken_status c (Asleep d) = sym (woken_if (same_channel c d) d)
woke_woken_status c Zombie = refl

woke_woken : {S : Type 0} (c : Channel) (x : Slot S) → woke_slot (woken c x) ≡ woke_slot x
woke_woken c None = refl
woke_woken c (Some p) = λ i. Some (record p { status = woke_woken_status c p.status i })

-- ---- the table

module _ {S : Type 0} where
  pub twice_table : (t : Table S) → woke_table (woke_table t) ≡ woke_table t
  twice_table [] = refl
  twice_table (x ∷ t) = λ i. twice_slot x i ∷ twice_table t i

  -- whoever is woken was awake
  pub all_woken_woke : (c : Channel) (t : Table S) → woke_table (all_woken c t) ≡ woke_table t
  all_woken_woke c [] = refl
  all_woken_woke c (x ∷ t) = λ i. woke_woken c x i ∷ all_woken_woke c t i

  pub at_woke : (t : Table S) (pid : ℕ) → at (woke_table t) pid ≡ woke_slot (at t pid)
  at_woke t pid = mapped woke_slot refl t pid

  pub fds_told : (t : Table S) (pid : ℕ) → fds_of (at (woke_table t) pid) ≡ fds_of (at t pid)
  fds_told t pid = ap fds_of (at_woke t pid) ∙ woke_fds (at t pid)

  pub put_told : (t : Table S) (pid : ℕ) → put_of (at (woke_table t) pid) ≡ put_of (at t pid)
  put_told t pid = ap put_of (at_woke t pid) ∙ woke_put (at t pid)

  set_woke : (f g : Slot S → Slot S) → ((x : Slot S) → f (woke_slot x) ≡ woke_slot (g x)) → (t : Table S) (pid : ℕ) → set (woke_table t) pid (f (at (woke_table t) pid)) ≡ woke_table (set t pid (g (at t pid)))
  set_woke f g each t pid =
      ap (λ (x : Slot S). set (woke_table t) pid x) (ap f (at_woke t pid) ∙ each (at t pid)) ∙ sym (map-set woke_slot t pid (g (at t pid)))

  pub ready_told : (t : Table S) (pid : ℕ) (m : S) (reply : Reply) → readied (woke_table t) pid m reply ≡ woke_table (readied t pid m reply)
  ready_told t pid m reply = set_woke (made_ready m reply) (made_ready m reply) (ready_woke m reply) t pid

  -- who falls asleep is as if awake
  pub sleep_told : (t : Table S) (pid : ℕ) (c : Channel) (put : ℕ) → woke_table (slept (woke_table t) pid c put) ≡ woke_table (slept t pid c put)
  sleep_told t pid c put =
      map-set woke_slot (woke_table t) pid (put_to_sleep c put (at (woke_table t) pid)) ∙
      (λ i. set (twice_table t i) pid (woke_slot (put_to_sleep c put (at_woke t pid i)))) ∙
      ap (λ (x : Slot S). set (woke_table t) pid x) (sleep_woke c put (at t pid)) ∙ sym (map-set woke_slot t pid (put_to_sleep c put (at t pid)))

  pub set_fds_told : (t : Table S) (pid : ℕ) (fds : Descriptors) → fds_set (woke_table t) pid fds ≡ woke_table (fds_set t pid fds)
  set_fds_told t pid fds = set_woke (with_fds fds) (with_fds fds) (fds_woke fds) t pid

  pub lowest_told : (t : Table S) → lowest_free (woke_table t) ≡ lowest_free t
  lowest_told t = position_map is_free is_free woke_slot woke_free t

  zombie_told : (t : Table S) (pid : ℕ) → zombie_child (woke_table t) pid ≡ zombie_child t pid
  zombie_told t pid = position_map (is_zombie_child_of pid) (is_zombie_child_of pid) woke_slot (woke_zombie_child pid) t

  child_told : (t : Table S) (pid : ℕ) → some_child (woke_table t) pid ≡ some_child t pid
  child_told t pid = position_map (is_child_of pid) (is_child_of pid) woke_slot (woke_child pid) t

  pub wait_told : (t : Table S) (pid : ℕ) → wait_answer (woke_table t) pid ≡ wait_answer t pid
  wait_told t pid = λ i. wait_by (zombie_told t pid i) (child_told t pid i)

  freed_told : (t : Table S) (o : Option ℕ) → freed (woke_table t) o ≡ woke_table (freed t o)
  freed_told t None = refl
  freed_told t (Some child) = sym (map-set woke_slot t child None)

  pub reaped_told : (t : Table S) (pid : ℕ) → reaped (woke_table t) pid ≡ woke_table (reaped t pid)
  reaped_told t pid = ap (freed (woke_table t)) (zombie_told t pid) ∙ freed_told t (zombie_child t pid)

  pub forked_told : (t : Table S) (child parent : ℕ) (m : S) (fds : Descriptors) → forked (woke_table t) child parent m fds ≡ woke_table (forked t child parent m fds)
  forked_told t child parent m fds = sym (map-set woke_slot t child (Some (newborn parent m fds)))

  buried_told : (t : Table S) (pid : ℕ) → buried (woke_table t) pid ≡ woke_table (buried t pid)
  buried_told t pid =
      ap (λ (u : Table S). status_set u pid Zombie) (map_swap (given pid) woke_slot (given pid) woke_slot (given_woke pid) t) ∙ set_woke (with_status Zombie) (with_status Zombie) zombie_woke (map (given pid) t) pid

  pub woken_told : (c : Channel) (t : Table S) → all_woken c (woke_table t) ≡ woke_table (all_woken c t)
  woken_told c t = map_swap (woken c) woke_slot (woken c) woke_slot (woken_woke c) t

  exited_by : (b : Bool) (gone rest : Table S) → rest ≡ woke_table gone → (if b then all_woken (Children 0) rest else rest) ≡ woke_table (if b then all_woken (Children 0) gone else gone)
  exited_by true gone rest is = ap (all_woken (Children 0)) is ∙ woken_told (Children 0) gone
  exited_by false gone rest is = is

  pub exited_told : (t : Table S) (pid : ℕ) → exited (woke_table t) pid ≡ woke_table (exited t pid)
  exited_told t pid =
      let parent : parent_of (at (woke_table t) pid) ≡ parent_of (at t pid) = ap parent_of (at_woke t pid) ∙ woke_parent (at t pid) in
      let gone : Table S = all_woken (Children (parent_of (at t pid))) (buried t pid) in
      let rest : Table S = all_woken (Children (parent_of (at (woke_table t) pid))) (buried (woke_table t) pid) in
      let same : rest ≡ woke_table gone = (λ i. all_woken (Children (parent i)) (buried_told t pid i)) ∙ woken_told (Children (parent_of (at t pid))) (buried t pid) in
      ap (λ (o : Option ℕ). if is_some o then all_woken (Children 0) rest else rest) (zombie_told t pid) ∙ exited_by (is_some (zombie_child t pid)) gone rest same
