-- What each call on the table of processes does to one slot and to the others.
use Rattle.std.proofs.Common.{◌≡◌, ◌≢◌, ◌⊎◌, ℕ, zero, suc, ◌<◌, [], ◌∷◌, Bool, true, false, Option, Some, None, length, refl, sym, ap, ◌∙◌, get_or-set_other, get_or-set_same, inl, inr}
use Rattle.std.proofs.Math.ListN.{set}
use Rattle.std.proofs.lemmas.Bool.{and_parts, both_ways, cases_eq, eqb-true, ne_eqb}
use Rattle.std.specs.Prelude.{◌==◌, ◌||◌, map, is_some, if◌then◌else◌}
use Rattle.fd_table.specs.Descriptors.{Descriptors}
use Rattle.proc_table.specs.declared.states.Channel.{Channel}
use Rattle.proc_table.specs.declared.states.Channel.TheVariants.{Children}
use Rattle.proc_table.specs.declared.states.Status.{Status}
use Rattle.proc_table.specs.declared.states.Status.TheVariants.{Zombie}
use Rattle.proc_table.specs.Slots.{Slot, Table, at, is_free, is_number, is_child_of, is_zombie, is_running, is_zombie_child_of, parent_of}
use Rattle.proc_table.specs.Calls.{with_status, woken, all_woken, given, parent_after, buried, exited, zombie_child, woken_by_exit, lowest_free, forked, newborn, freed, reaped}
use Rattle.fd_table.proofs.Lists.{position_found}

-- a slot that was written from what it held; where there is none it stays free
pub written : {S : Type 0} (f : Slot S → Slot S) (free : f None ≡ None) (t : Table S) (pid : ℕ) → at (set t pid (f (at t pid))) pid ≡ f (at t pid)
written f free [] pid = sym free
written f free (x ∷ t) zero = refl
written f free (x ∷ t) (suc pid) = written f free t pid

-- the other slots
pub kept : {S : Type 0} (t : Table S) (pid other : ℕ) (x : Slot S) → other ≢ pid → at (set t pid x) other ≡ at t other
kept t pid other x ne = get_or-set_other t pid other x None ne

-- every slot was written from what it held
pub mapped : {S : Type 0} (f : Slot S → Slot S) (free : f None ≡ None) (t : Table S) (pid : ℕ) → at (map f t) pid ≡ f (at t pid)
mapped f free [] pid = sym free
mapped f free (x ∷ t) zero = refl
mapped f free (x ∷ t) (suc pid) = mapped f free t pid

-- ---- fork

free_by : {S : Type 0} (x : Slot S) → is_free x ≡ true → x ≡ None
free_by None is = refl
free_by (Some p) is = cc

pub was_free : {S : Type 0} (t : Table S) (child : ℕ) → lowest_free t ≡ Some child → at t child ≡ None
was_free t child found = free_by (at t child) (position_found is_free t None child found).1

-- where a process runs there is one
running_there : {S : Type 0} (x : Slot S) → is_running x ≡ true → x ≢ None
running_there None runs is = let z : ⊥ = cc in z
running_there (Some p) runs is = let z : ⊥ = cc in z

pub child_within : {S : Type 0} (t : Table S) (child : ℕ) → lowest_free t ≡ Some child → child < length t
child_within t child found = (position_found is_free t None child found).0

pub child_is : {S : Type 0} (t : Table S) (child parent : ℕ) (m : S) (fds : Descriptors) → lowest_free t ≡ Some child → at (forked t child parent m fds) child ≡ Some (newborn parent m fds)
child_is t child parent m fds found = get_or-set_same t child (Some (newborn parent m fds)) None (child_within t child found)

-- the parent, which runs, is another slot, and stays as it is
pub parent_stays : {S : Type 0} (t : Table S) (parent child : ℕ) (machine : S) (fds : Descriptors) → is_running (at t parent) ≡ true → lowest_free t ≡ Some child → at (forked t child parent machine fds) parent ≡ at t parent
parent_stays t parent child machine fds runs free =
    kept t child parent (Some (newborn parent machine fds)) (λ same. running_there (at t parent) runs (ap (at t) same ∙ was_free t child free))

-- ---- exit

chosen : {S : Type 0} (b : Bool) (g h : Table S) (x y : Slot S) (k : ℕ) → at g k ≡ x → at h k ≡ y → at (if b then g else h) k ≡ (if b then x else y)
chosen true g h x y k gx hy = gx
chosen false g h x y k gx hy = hy

-- a slot after the exit by the same slot after the burial
after_burial : {S : Type 0} (t : Table S) (pid k : ℕ) (x : Slot S) → at (buried t pid) k ≡ x → at (exited t pid) k ≡ woken_by_exit t pid x
after_burial t pid k x is =
    let parent = parent_of (at t pid) in
    let gone = all_woken (Children parent) (buried t pid) in
    let first : at gone k ≡ woken (Children parent) x = mapped (woken (Children parent)) refl (buried t pid) k ∙ ap (woken (Children parent)) is in
    chosen (is_some (zombie_child t pid)) (all_woken (Children 0) gone) gone (woken (Children 0) (woken (Children parent) x)) (woken (Children parent) x) k
    (mapped (woken (Children 0)) refl gone k ∙ ap (woken (Children 0)) first)
    first

buried_other : {S : Type 0} (t : Table S) (pid other : ℕ) → other ≢ pid → at (buried t pid) other ≡ given pid (at t other)
buried_other t pid other ne = kept (map (given pid) t) pid other (with_status Zombie (at (map (given pid) t) pid)) ne ∙ mapped (given pid) refl t other

buried_self : {S : Type 0} (t : Table S) (pid : ℕ) → at (buried t pid) pid ≡ with_status Zombie (given pid (at t pid))
buried_self t pid = written (with_status Zombie) refl (map (given pid) t) pid ∙ ap (with_status Zombie) (mapped (given pid) refl t pid)

pub exit_other : {S : Type 0} (t : Table S) (pid other : ℕ) → other ≢ pid → at (exited t pid) other ≡ woken_by_exit t pid (given pid (at t other))
exit_other t pid other ne = after_burial t pid other (given pid (at t other)) (buried_other t pid other ne)

zombie_stays : {S : Type 0} (channel : Channel) (x : Slot S) → woken channel (with_status Zombie x) ≡ with_status Zombie x
zombie_stays channel None = refl
zombie_stays channel (Some p) = refl

pub if_same : {X : Type 0} (b : Bool) (x y z : X) → x ≡ z → y ≡ z → (if b then x else y) ≡ z
if_same true x y z xz yz = xz
if_same false x y z xz yz = yz

zombie_stays_by_exit : {S : Type 0} (t : Table S) (pid : ℕ) (x : Slot S) → woken_by_exit t pid (with_status Zombie x) ≡ with_status Zombie x
zombie_stays_by_exit t pid x =
    let parent = parent_of (at t pid) in
    let once : woken (Children parent) (with_status Zombie x) ≡ with_status Zombie x = zombie_stays (Children parent) x in
    if_same (is_some (zombie_child t pid)) (woken (Children 0) (woken (Children parent) (with_status Zombie x))) (woken (Children parent) (with_status Zombie x)) (with_status Zombie x)
    (ap (woken (Children 0)) once ∙ zombie_stays (Children 0) x)
    once

pub exit_self : {S : Type 0} (t : Table S) (pid : ℕ) → at (exited t pid) pid ≡ with_status Zombie (given pid (at t pid))
exit_self t pid = after_burial t pid pid (with_status Zombie (given pid (at t pid))) (buried_self t pid) ∙ zombie_stays_by_exit t pid (given pid (at t pid))

-- ---- children

woken_child : {S : Type 0} (channel : Channel) (p : ℕ) (x : Slot S) → is_child_of p (woken channel x) ≡ is_child_of p x
woken_child channel p None = refl
woken_child channel p (Some q) = refl

status_child : {S : Type 0} (s : Status) (p : ℕ) (x : Slot S) → is_child_of p (with_status s x) ≡ is_child_of p x
status_child s p None = refl
status_child s p (Some q) = refl

pub child_if : {S : Type 0} (p : ℕ) (b : Bool) (x y z : Slot S) → is_child_of p x ≡ is_child_of p z → is_child_of p y ≡ is_child_of p z → is_child_of p (if b then x else y) ≡ is_child_of p z
child_if p true x y z xz yz = xz
child_if p false x y z xz yz = yz

woken_by_exit_child : {S : Type 0} (t : Table S) (pid p : ℕ) (x : Slot S) → is_child_of p (woken_by_exit t pid x) ≡ is_child_of p x
woken_by_exit_child t pid p x =
    let parent = parent_of (at t pid) in
    let once : is_child_of p (woken (Children parent) x) ≡ is_child_of p x = woken_child (Children parent) p x in
    child_if p (is_some (zombie_child t pid)) (woken (Children 0) (woken (Children parent) x)) (woken (Children parent) x) x
    (woken_child (Children 0) p (woken (Children parent) x) ∙ once)
    once

-- the children of p after an exit are its children after the exiting process's children were given to init
pub exit_child : {S : Type 0} (t : Table S) (pid p k : ℕ) → is_child_of p (at (exited t pid) k) ≡ is_child_of p (given pid (at t k))
exit_child t pid p k = go (cases_eq k pid) where
  go : (k ≡ pid) ⊎ (k ≡ pid → ⊥) → is_child_of p (at (exited t pid) k) ≡ is_child_of p (given pid (at t k))
  go (inl same) = ap (λ (j : ℕ). is_child_of p (at (exited t pid) j)) same ∙ ap (is_child_of p) (exit_self t pid) ∙ status_child Zombie p (given pid (at t pid)) ∙ ap (λ (j : ℕ). is_child_of p (given pid (at t j))) (sym same)
  go (inr ne) = ap (is_child_of p) (exit_other t pid k ne) ∙ woken_by_exit_child t pid p (given pid (at t k))

-- whose child a slot's process is, where it was a child of pid or not
given_gone : (pid parent : ℕ) (b : Bool) → (pid == parent) ≡ b → pid ≢ 0 → is_number pid (if b then Some 0 else Some parent) ≡ false
given_gone pid parent true is ne = ne_eqb pid 0 ne
given_gone pid parent false is ne = is

pub gone_after : {S : Type 0} (pid : ℕ) (x : Slot S) → pid ≢ 0 → is_child_of pid (given pid x) ≡ false
gone_after pid None ne = refl
gone_after pid (Some q) ne = by_parent q.parent where
  by_parent : (parent : Option ℕ) → is_number pid (parent_after pid parent) ≡ false
  by_parent None = refl
  by_parent (Some parent) = given_gone pid parent (pid == parent) refl ne

given_init : (pid parent : ℕ) (b : Bool) → (pid == parent) ≡ b → is_number 0 (if b then Some 0 else Some parent) ≡ (b || (0 == parent))
given_init pid parent true is = refl
given_init pid parent false is = refl

pub init_after : {S : Type 0} (pid : ℕ) (x : Slot S) → is_child_of 0 (given pid x) ≡ (is_child_of pid x || is_child_of 0 x)
init_after pid None = refl
init_after pid (Some q) = by_parent q.parent where
  by_parent : (parent : Option ℕ) → is_number 0 (parent_after pid parent) ≡ (is_number pid parent || is_number 0 parent)
  by_parent None = refl
  by_parent (Some parent) = given_init pid parent (pid == parent) refl

given_others : (pid parent p : ℕ) (b : Bool) → (pid == parent) ≡ b → p ≢ pid → p ≢ 0 → is_number p (if b then Some 0 else Some parent) ≡ (p == parent)
given_others pid parent p true is ne some = ne_eqb p 0 some ∙ sym (ne_eqb p parent (λ same. ne (same ∙ sym (eqb-true pid parent is))))
given_others pid parent p false is ne some = refl

pub others_after : {S : Type 0} (pid p : ℕ) (x : Slot S) → p ≢ pid → p ≢ 0 → is_child_of p (given pid x) ≡ is_child_of p x
others_after pid p None ne some = refl
others_after pid p (Some q) ne some = by_parent q.parent where
  by_parent : (parent : Option ℕ) → is_number p (parent_after pid parent) ≡ is_number p parent
  by_parent None = refl
  by_parent (Some parent) = given_others pid parent p (pid == parent) refl ne some

-- ---- wait

pub was_zombie_child : {S : Type 0} (t : Table S) (pid child : ℕ) → zombie_child t pid ≡ Some child → (child < length t) × (is_zombie_child_of pid (at t child) ≡ true)
was_zombie_child t pid child found = position_found (is_zombie_child_of pid) t None child found

pub reaped_is_free : {S : Type 0} (t : Table S) (pid child : ℕ) → zombie_child t pid ≡ Some child → at (reaped t pid) child ≡ None
reaped_is_free t pid child found = ap (λ (o : Option ℕ). at (freed t o) child) found ∙ get_or-set_same t child None None (was_zombie_child t pid child found).0

pub reaped_others : {S : Type 0} (t : Table S) (pid child other : ℕ) → zombie_child t pid ≡ Some child → other ≢ child → at (reaped t pid) other ≡ at t other
reaped_others t pid child other found ne = ap (λ (o : Option ℕ). at (freed t o) other) found ∙ kept t child other None ne

pub reaped_nothing : {S : Type 0} (t : Table S) (pid : ℕ) → zombie_child t pid ≡ None → reaped t pid ≡ t
reaped_nothing t pid none = ap (λ (o : Option ℕ). freed t o) none

pub caller_stays : {S : Type 0} (t : Table S) (pid : ℕ) → is_zombie (at t pid) ≡ false → at (reaped t pid) pid ≡ at t pid
caller_stays t pid live = by (zombie_child t pid) refl where
  by : (o : Option ℕ) → zombie_child t pid ≡ o → at (reaped t pid) pid ≡ at t pid
  by None is = ap (λ (s : Table _). at s pid) (reaped_nothing t pid is)
  by (Some child) is =
      let zombie : is_zombie (at t child) ≡ true = (and_parts (is_child_of pid (at t child)) (is_zombie (at t child)) (was_zombie_child t pid child is).1).1 in
      reaped_others t pid child pid is (λ same. both_ways (is_zombie (at t pid)) live (ap (λ (k : ℕ). is_zombie (at t k)) same ∙ zombie))
