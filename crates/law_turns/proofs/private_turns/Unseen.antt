-- What a process's machine, reply and descriptors are, no change of another slot sees.
use Rattle.std.proofs.Common.{◌≡◌, ◌≢◌, ℕ, List, Bool, true, false, Option, Some, None, get_or, refl, sym, ap, ◌∙◌}
use Rattle.std.proofs.Math.ListN.{set}
use Rattle.std.proofs.Math.Seq.{map-set_same}
use Rattle.std.proofs.lemmas.List.{map-set, set_comm}
use Rattle.std.proofs.lemmas.Bool.{and_parts}
use Rattle.std.specs.Prelude.{map, position, is_some, if◌then◌else◌}
use Rattle.user_calls.specs.declared.calls.Reply.{Reply}
use Rattle.fd_table.specs.Descriptors.{Descriptors}
use Rattle.proc_table.specs.declared.states.Channel.{Channel}
use Rattle.proc_table.specs.declared.states.Channel.TheVariants.{Children}
use Rattle.proc_table.specs.declared.states.Status.{Status}
use Rattle.proc_table.specs.declared.states.Status.TheVariants.{Zombie}
use Rattle.proc_table.specs.Slots.{Slot, Table, at, is_free, is_child_of, is_zombie, is_zombie_child_of, parent_of, put_of}
use Rattle.proc_table.specs.Calls.{with_status, status_set, made_ready, readied, put_to_sleep, slept, with_fds, fds_set, woken, all_woken, given, zombie_child, buried, exited, wait_answer, wait_by, freed, reaped, lowest_free, forked, newborn}
use Rattle.proc_table.proofs.Changes.{kept, mapped, was_free}
use Rattle.fd_table.proofs.Lists.{position_found}
use Rattle.kernel_model.specs.KernelState.{fds_of}
use Rattle.law_turns.proofs.orders.Tables.{position_map}
use Rattle.law_turns.specs.Retold.{Left, retold_slot, retold_table}

-- ---- one slot

module _ {S : Type 0} (l : Left S) where
  told_free : (x : Slot S) → is_free (retold_slot l x) ≡ is_free x
  told_free None = refl
  told_free (Some p) = refl

  told_child : (pid : ℕ) (x : Slot S) → is_child_of pid (retold_slot l x) ≡ is_child_of pid x
  told_child pid None = refl
  told_child pid (Some p) = refl

  told_zombie_child : (pid : ℕ) (x : Slot S) → is_zombie_child_of pid (retold_slot l x) ≡ is_zombie_child_of pid x
  told_zombie_child pid None = refl
  told_zombie_child pid (Some p) = refl

  told_woken : (c : Channel) (x : Slot S) → woken c (retold_slot l x) ≡ retold_slot l (woken c x)
  told_woken c None = refl
  told_woken c (Some p) = refl

  told_given : (pid : ℕ) (x : Slot S) → given pid (retold_slot l x) ≡ retold_slot l (given pid x)
  told_given pid None = refl
  told_given pid (Some p) = refl

-- ---- the table

-- a test that doesn't see the change of one element finds the same first place
pub position_same : {X : Type 0} (test : X → Bool) (xs : List X) (i : ℕ) (y d : X) → test y ≡ test (get_or xs i d) → position test (set xs i y) ≡ position test xs
position_same test xs i y d same =
    sym (position_map (λ (b : Bool). b) test test (λ x. refl) (set xs i y)) ∙ ap (position (λ (b : Bool). b)) (map-set_same test xs i y d same) ∙ position_map (λ (b : Bool). b) test test (λ x. refl) xs

module _ {S : Type 0} (p : ℕ) (l : Left S) (q : ℕ) (other : q ≢ p) where
  abbrev T : Table S → Table S
  T t = retold_table p l t

  pub at_told : (t : Table S) → at (T t) q ≡ at t q
  at_told t = kept t p q (retold_slot l (at t p)) other

  -- any other slot is written
  pub set_told : (t : Table S) (i : ℕ) (x : Slot S) → i ≢ p → set (T t) i x ≡ T (set t i x)
  set_told t i x ne =
      set_comm t p i (retold_slot l (at t p)) x (λ e. ne (sym e)) ∙ ap (λ (y : Slot S). set (set t i x) p (retold_slot l y)) (sym (kept t i p x (λ e. ne (sym e))))

  change_told : (h : Slot S → Slot S) (t : Table S) → set (T t) q (h (at (T t) q)) ≡ T (set t q (h (at t q)))
  change_told h t = ap (λ (x : Slot S). set (T t) q (h x)) (at_told t) ∙ set_told t q (h (at t q)) other

  map_told : (g : Slot S → Slot S) → g None ≡ None → ((x : Slot S) → g (retold_slot l x) ≡ retold_slot l (g x)) → (t : Table S) → map g (T t) ≡ T (map g t)
  map_told g free each t =
      map-set g t p (retold_slot l (at t p)) ∙ ap (λ (y : Slot S). set (map g t) p y) (each (at t p) ∙ ap (retold_slot l) (sym (mapped g free t p)))

  position_told : (test : Slot S → Bool) → ((x : Slot S) → test (retold_slot l x) ≡ test x) → (t : Table S) → position test (T t) ≡ position test t
  position_told test each t = position_same test t p (retold_slot l (at t p)) None (each (at t p))

  pub fds_told : (t : Table S) → fds_of (at (T t) q) ≡ fds_of (at t q)
  fds_told t = ap fds_of (at_told t)

  pub put_told : (t : Table S) → put_of (at (T t) q) ≡ put_of (at t q)
  put_told t = ap put_of (at_told t)

  pub ready_told : (t : Table S) (m : S) (reply : Reply) → readied (T t) q m reply ≡ T (readied t q m reply)
  ready_told t m reply = change_told (made_ready m reply) t

  pub sleep_told : (t : Table S) (c : Channel) (put : ℕ) → slept (T t) q c put ≡ T (slept t q c put)
  sleep_told t c put = change_told (put_to_sleep c put) t

  pub set_fds_told : (t : Table S) (fds : Descriptors) → fds_set (T t) q fds ≡ T (fds_set t q fds)
  set_fds_told t fds = change_told (with_fds fds) t

  pub status_told : (t : Table S) (s : Status) → status_set (T t) q s ≡ T (status_set t q s)
  status_told t s = change_told (with_status s) t

  pub woken_told : (c : Channel) (t : Table S) → all_woken c (T t) ≡ T (all_woken c t)
  woken_told c t = map_told (woken c) refl (told_woken l c) t

  pub lowest_told : (t : Table S) → lowest_free (T t) ≡ lowest_free t
  lowest_told t = position_told is_free (told_free l) t

  zombie_told : (t : Table S) → zombie_child (T t) q ≡ zombie_child t q
  zombie_told t = position_told (is_zombie_child_of q) (told_zombie_child l q) t

  pub wait_told : (t : Table S) → wait_answer (T t) q ≡ wait_answer t q
  wait_told t = λ i. wait_by (zombie_told t i) (position_told (is_child_of q) (told_child l q) t i)

  -- p's slot, which holds a process, isn't where a child is made
  pub forked_told : (t : Table S) (child : ℕ) (m : S) (fds : Descriptors) → is_free (at t p) ≡ false → lowest_free t ≡ Some child → forked (T t) child q m fds ≡ T (forked t child q m fds)
  forked_told t child m fds used found = set_told t child (Some (newborn q m fds)) (λ same. absurd (by same)) where
    by : child ≡ p → ⊥
    by same = let no : true ≡ false = sym (ap is_free (sym (ap (at t) same) ∙ was_free t child found)) ∙ used in let z : ⊥ = cc in z

  -- p, which is no zombie, isn't reaped
  pub reaped_told : (t : Table S) → is_zombie (at t p) ≡ false → reaped (T t) q ≡ T (reaped t q)
  reaped_told t alive = ap (freed (T t)) (zombie_told t) ∙ by (zombie_child t q) refl where
    dead : (child : ℕ) → zombie_child t q ≡ Some child → child ≡ p → ⊥
    dead child found same =
        let gone : is_zombie (at t child) ≡ true = (and_parts (is_child_of q (at t child)) (is_zombie (at t child)) (position_found (is_zombie_child_of q) t None child found).1).1 in
        let no : true ≡ false = sym gone ∙ ap (λ (i : ℕ). is_zombie (at t i)) same ∙ alive in
        let z : ⊥ = cc in z

    by : (o : Option ℕ) → zombie_child t q ≡ o → freed (T t) o ≡ T (freed t o)
    by None found = refl
    by (Some child) found = set_told t child None (dead child found)

  buried_told : (t : Table S) → buried (T t) q ≡ T (buried t q)
  buried_told t = ap (λ (u : Table S). status_set u q Zombie) (map_told (given q) refl (told_given l q) t) ∙ status_told (map (given q) t) Zombie

  exited_by : (b : Bool) (gone rest : Table S) → rest ≡ T gone → (if b then all_woken (Children 0) rest else rest) ≡ T (if b then all_woken (Children 0) gone else gone)
  exited_by true gone rest is = ap (all_woken (Children 0)) is ∙ woken_told (Children 0) gone
  exited_by false gone rest is = is

  pub exited_told : (t : Table S) → exited (T t) q ≡ T (exited t q)
  exited_told t =
      let parent : parent_of (at (T t) q) ≡ parent_of (at t q) = ap parent_of (at_told t) in
      let gone : Table S = all_woken (Children (parent_of (at t q))) (buried t q) in
      let rest : Table S = all_woken (Children (parent_of (at (T t) q))) (buried (T t) q) in
      let same : rest ≡ T gone = (λ i. all_woken (Children (parent i)) (buried_told t i)) ∙ woken_told (Children (parent_of (at t q))) (buried t q) in
      ap (λ (o : Option ℕ). if is_some o then all_woken (Children 0) rest else rest) (zombie_told t) ∙ exited_by (is_some (zombie_child t q)) gone rest same
