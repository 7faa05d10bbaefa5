-- The calls of a table of processes don't look at the numbers of entries.
use Rattle.std.proofs.Common.{◌≡◌, ℕ, ◌<◌, [], ◌∷◌, Bool, true, false, Option, Some, None, refl, sym, ap, ◌∙◌, arith}
use Rattle.std.proofs.Math.ListN.{set, get_or-map}
use Rattle.std.proofs.lemmas.Bool.{eq-eqb, ne_eqb, eqb-true}
use Rattle.std.proofs.lemmas.List.{map-set}
use Rattle.std.proofs.lemmas.List.Sums.{sum_by-cons}
use Rattle.std.specs.Prelude.{map, ◌==◌, ◌&&◌, is_some, cond, if◌then◌else◌}
use Rattle.user_calls.specs.declared.calls.Reply.{Reply}
use Rattle.fd_table.specs.Entries.{is_free as is_free_place, free_count}
use Rattle.fd_table.specs.Descriptors.{Descriptors, entry_of, is_entry, holders_in, installed, installed_at, after_close, after_dup, lowest_free as lowest_free_place}
use Rattle.fd_table.specs.Holders.{holders}
use Rattle.proc_table.specs.declared.states.Channel.{Channel}
use Rattle.proc_table.specs.declared.states.Channel.TheVariants.{Children}
use Rattle.proc_table.specs.declared.states.Status.{Status}
use Rattle.proc_table.specs.declared.states.Status.TheVariants.{Zombie}
use Rattle.proc_table.specs.Slots.{Slot, Table, at, is_free, is_child_of, is_zombie, is_zombie_child_of, is_running, is_runnable, parent_of, put_of}
use Rattle.proc_table.specs.Calls.{with_status, status_set, made_ready, readied, put_to_sleep, slept, with_fds, fds_set, woken, all_woken, given, zombie_child, some_child, buried, exited, wait_answer, wait_by, freed, reaped, lowest_free, forked, newborn, dispatched}
use Rattle.proc_table.proofs.Changes.{mapped}
use Rattle.kernel_model.specs.KernelState.{fds_of}
use Rattle.kernel_model.specs.Sound.{tables}
use Rattle.law_turns.proofs.orders.Tables.{map_swap, position_map, count_map}
use Rattle.kernel_model.specs.Numbers.{Numbering, renumbered_place, renumbered_fds, renumbered_slot, renumbered_table}

-- ---- descriptors

module _ (to : ℕ → ℕ) where
  place_free : (x : Option ℕ) → is_free_place (renumbered_place to x) ≡ is_free_place x
  place_free None = refl
  place_free (Some e) = refl

  pub lowest_place : (fds : Descriptors) → lowest_free_place (renumbered_fds to fds) ≡ lowest_free_place fds
  lowest_place fds = position_map is_free_place is_free_place (renumbered_place to) place_free fds

  pub free_places : (fds : Descriptors) → free_count (renumbered_fds to fds) ≡ free_count fds
  free_places fds = count_map is_free_place is_free_place (renumbered_place to) place_free fds

  pub held_place : (fds : Descriptors) (fd : ℕ) → entry_of (renumbered_fds to fds) fd ≡ renumbered_place to (entry_of fds fd)
  held_place fds fd = get_or-map (renumbered_place to) fds fd None

  pub fds_close : (fds : Descriptors) (fd : ℕ) (o : Option ℕ) → after_close (renumbered_fds to fds) fd (renumbered_place to o) ≡ renumbered_fds to (after_close fds fd o)
  fds_close fds fd None = refl
  fds_close fds fd (Some e) = sym (map-set (renumbered_place to) fds fd None)

  pub fds_installed_at : (fds : Descriptors) (place : Option ℕ) (e : ℕ) → installed_at (renumbered_fds to fds) place (to e) ≡ renumbered_fds to (installed_at fds place e)
  fds_installed_at fds None e = refl
  fds_installed_at fds (Some place) e = sym (map-set (renumbered_place to) fds place (Some e))

  pub fds_installed : (fds : Descriptors) (e : ℕ) → installed (renumbered_fds to fds) (to e) ≡ renumbered_fds to (installed fds e)
  fds_installed fds e = ap (λ (place : Option ℕ). installed_at (renumbered_fds to fds) place (to e)) (lowest_place fds) ∙ fds_installed_at fds (lowest_free_place fds) e

  pub fds_dup : (fds : Descriptors) (o place : Option ℕ) → after_dup (renumbered_fds to fds) (renumbered_place to o) place ≡ renumbered_fds to (after_dup fds o place)
  fds_dup fds None place = refl
  fds_dup fds (Some e) place = fds_installed_at fds place e

module _ (n : Numbering) where
  same_number : (a b : ℕ) → (n.to a == n.to b) ≡ (a == b)
  same_number a b = by (a == b) refl where
    by : (r : Bool) → (a == b) ≡ r → (n.to a == n.to b) ≡ r
    by true is = eq-eqb (n.to a) (n.to b) (ap n.to (eqb-true a b is))
    by false is = ne_eqb (n.to a) (n.to b) (λ e. absurd (let no : true ≡ false = sym (eq-eqb a b (sym (n.there a) ∙ ap n.back e ∙ n.there b)) ∙ is in let z : ⊥ = cc in z))

  same_entry : (e : ℕ) (x : Option ℕ) → is_entry (n.to e) (renumbered_place n.to x) ≡ is_entry e x
  same_entry e None = refl
  same_entry e (Some other) = same_number e other

  -- as many descriptors hold the entry
  pub same_holders : (fds : Descriptors) (e : ℕ) → holders_in (renumbered_fds n.to fds) (n.to e) ≡ holders_in fds e
  same_holders fds e = count_map (is_entry (n.to e)) (is_entry e) (renumbered_place n.to) (same_entry e) fds

-- ---- one slot

module _ {S : Type 0} (to : ℕ → ℕ) where
  abbrev R : Slot S → Slot S
  R x = renumbered_slot to x

  pub slot_fds : (x : Slot S) → fds_of (R x) ≡ renumbered_fds to (fds_of x)
  slot_fds None = refl
  slot_fds (Some p) = refl

  slot_put : (x : Slot S) → put_of (R x) ≡ put_of x
  slot_put None = refl
  slot_put (Some p) = refl

  slot_parent : (x : Slot S) → parent_of (R x) ≡ parent_of x
  slot_parent None = refl
  slot_parent (Some p) = refl

  slot_free : (x : Slot S) → is_free (R x) ≡ is_free x
  slot_free None = refl
  slot_free (Some p) = refl

  pub slot_running : (x : Slot S) → is_running (R x) ≡ is_running x
  slot_running None = refl
  slot_running (Some p) = refl

  pub slot_runnable : (x : Slot S) → is_runnable (R x) ≡ is_runnable x
  slot_runnable None = refl
  slot_runnable (Some p) = refl

  slot_child : (pid : ℕ) (x : Slot S) → is_child_of pid (R x) ≡ is_child_of pid x
  slot_child pid None = refl
  slot_child pid (Some p) = refl

  pub slot_zombie : (x : Slot S) → is_zombie (R x) ≡ is_zombie x
  slot_zombie None = refl
  slot_zombie (Some p) = refl

  slot_zombie_child : (pid : ℕ) (x : Slot S) → is_zombie_child_of pid (R x) ≡ is_zombie_child_of pid x
  slot_zombie_child pid x = λ i. slot_child pid x i && slot_zombie x i

  slot_ready : (m : S) (reply : Reply) (x : Slot S) → made_ready m reply (R x) ≡ R (made_ready m reply x)
  slot_ready m reply None = refl
  slot_ready m reply (Some p) = refl

  slot_sleep : (c : Channel) (put : ℕ) (x : Slot S) → put_to_sleep c put (R x) ≡ R (put_to_sleep c put x)
  slot_sleep c put None = refl
  slot_sleep c put (Some p) = refl

  slot_status : (s : Status) (x : Slot S) → with_status s (R x) ≡ R (with_status s x)
  slot_status s None = refl
  slot_status s (Some p) = refl

  slot_with_fds : (fds : Descriptors) (x : Slot S) → with_fds (renumbered_fds to fds) (R x) ≡ R (with_fds fds x)
  slot_with_fds fds None = refl
  slot_with_fds fds (Some p) = refl

  slot_given : (pid : ℕ) (x : Slot S) → given pid (R x) ≡ R (given pid x)
  slot_given pid None = refl
  slot_given pid (Some p) = refl

  slot_woken : (c : Channel) (x : Slot S) → woken c (R x) ≡ R (woken c x)
  slot_woken c None = refl
  slot_woken c (Some p) = refl

  -- ---- the table

  abbrev T : Table S → Table S
  T t = renumbered_table to t

  pub at_slot : (t : Table S) (pid : ℕ) → at (T t) pid ≡ R (at t pid)
  at_slot t pid = mapped (renumbered_slot to) refl t pid

  pub table_fds : (t : Table S) (pid : ℕ) → fds_of (at (T t) pid) ≡ renumbered_fds to (fds_of (at t pid))
  table_fds t pid = ap fds_of (at_slot t pid) ∙ slot_fds (at t pid)

  pub table_put : (t : Table S) (pid : ℕ) → put_of (at (T t) pid) ≡ put_of (at t pid)
  table_put t pid = ap put_of (at_slot t pid) ∙ slot_put (at t pid)

  -- a slot gets what a function makes of it
  set_table : (f g : Slot S → Slot S) → ((x : Slot S) → f (R x) ≡ R (g x)) → (t : Table S) (pid : ℕ) → set (T t) pid (f (at (T t) pid)) ≡ T (set t pid (g (at t pid)))
  set_table f g each t pid = ap (λ (x : Slot S). set (T t) pid x) (ap f (at_slot t pid) ∙ each (at t pid)) ∙ sym (map-set (renumbered_slot to) t pid (g (at t pid)))

  pub ready_table : (t : Table S) (pid : ℕ) (m : S) (reply : Reply) → readied (T t) pid m reply ≡ T (readied t pid m reply)
  ready_table t pid m reply = set_table (made_ready m reply) (made_ready m reply) (slot_ready m reply) t pid

  pub sleep_table : (t : Table S) (pid : ℕ) (c : Channel) (put : ℕ) → slept (T t) pid c put ≡ T (slept t pid c put)
  sleep_table t pid c put = set_table (put_to_sleep c put) (put_to_sleep c put) (slot_sleep c put) t pid

  pub dispatch_table : (t : Table S) (pid h : ℕ) → dispatched (T t) pid h ≡ T (dispatched t pid h)
  dispatch_table t pid h = set_table (with_status _) (with_status _) (slot_status _) t pid

  pub fds_table : (t : Table S) (pid : ℕ) (fds : Descriptors) → fds_set (T t) pid (renumbered_fds to fds) ≡ T (fds_set t pid fds)
  fds_table t pid fds = set_table (with_fds (renumbered_fds to fds)) (with_fds fds) (slot_with_fds fds) t pid

  pub woken_table : (c : Channel) (t : Table S) → all_woken c (T t) ≡ T (all_woken c t)
  woken_table c t = map_swap (woken c) (renumbered_slot to) (woken c) (renumbered_slot to) (slot_woken c) t

  pub lowest_slot : (t : Table S) → lowest_free (T t) ≡ lowest_free t
  lowest_slot t = position_map is_free is_free (renumbered_slot to) slot_free t

  zombie_table : (t : Table S) (pid : ℕ) → zombie_child (T t) pid ≡ zombie_child t pid
  zombie_table t pid = position_map (is_zombie_child_of pid) (is_zombie_child_of pid) (renumbered_slot to) (slot_zombie_child pid) t

  child_table : (t : Table S) (pid : ℕ) → some_child (T t) pid ≡ some_child t pid
  child_table t pid = position_map (is_child_of pid) (is_child_of pid) (renumbered_slot to) (slot_child pid) t

  pub wait_table : (t : Table S) (pid : ℕ) → wait_answer (T t) pid ≡ wait_answer t pid
  wait_table t pid = λ i. wait_by (zombie_table t pid i) (child_table t pid i)

  freed_table : (t : Table S) (o : Option ℕ) → freed (T t) o ≡ T (freed t o)
  freed_table t None = refl
  freed_table t (Some child) = sym (map-set (renumbered_slot to) t child None)

  pub reaped_table : (t : Table S) (pid : ℕ) → reaped (T t) pid ≡ T (reaped t pid)
  reaped_table t pid = ap (freed (T t)) (zombie_table t pid) ∙ freed_table t (zombie_child t pid)

  pub forked_table : (t : Table S) (child parent : ℕ) (m : S) (fds : Descriptors) → forked (T t) child parent m (renumbered_fds to fds) ≡ T (forked t child parent m fds)
  forked_table t child parent m fds = sym (map-set (renumbered_slot to) t child (Some (newborn parent m fds)))

  buried_table : (t : Table S) (pid : ℕ) → buried (T t) pid ≡ T (buried t pid)
  buried_table t pid =
      ap (λ (u : Table S). status_set u pid Zombie) (map_swap (given pid) (renumbered_slot to) (given pid) (renumbered_slot to) (slot_given pid) t) ∙ set_table (with_status Zombie) (with_status Zombie) (slot_status Zombie) (map (given pid) t) pid

  exited_by : (b : Bool) (t u : Table S) → u ≡ T t → (if b then all_woken (Children 0) u else u) ≡ T (if b then all_woken (Children 0) t else t)
  exited_by true t u is = ap (all_woken (Children 0)) is ∙ woken_table (Children 0) t
  exited_by false t u is = is

  pub exited_table : (t : Table S) (pid : ℕ) → exited (T t) pid ≡ T (exited t pid)
  exited_table t pid =
      let parent : parent_of (at (T t) pid) ≡ parent_of (at t pid) = ap parent_of (at_slot t pid) ∙ slot_parent (at t pid) in
      let gone : Table S = all_woken (Children (parent_of (at t pid))) (buried t pid) in
      let rest : Table S = all_woken (Children (parent_of (at (T t) pid))) (buried (T t) pid) in
      let same : rest ≡ T gone = (λ i. all_woken (Children (parent i)) (buried_table t pid i)) ∙ woken_table (Children (parent_of (at t pid))) (buried t pid) in
      ap (λ (o : Option ℕ). if is_some o then all_woken (Children 0) rest else rest) (zombie_table t pid) ∙ exited_by (is_some (zombie_child t pid)) gone rest same

-- ---- only the numbers that are held count

module _ (f g : ℕ → ℕ) where
  fds_agree : (fds : Descriptors) → ((e : ℕ) → 0 < holders_in fds e → f e ≡ g e) → renumbered_fds f fds ≡ renumbered_fds g fds
  fds_agree [] agree = refl
  fds_agree (None ∷ fds) agree = ap (λ (l : Descriptors). None ∷ l) (fds_agree fds (λ e some. agree e (omega (arith, some, sum_by-cons (λ (x : Option ℕ). cond {A = ℕ} (is_entry e x) 1 0) None fds))))
  fds_agree (Some d ∷ fds) agree =
      let first : f d ≡ g d = agree d (omega (arith, sum_by-cons (λ (x : Option ℕ). cond {A = ℕ} (is_entry d x) 1 0) (Some d) fds, ap (λ (b : Bool). cond {A = ℕ} b 1 0) (eq-eqb d d refl))) in
      λ i. Some (first i) ∷ fds_agree fds (λ e some. agree e (omega (arith, some, sum_by-cons (λ (x : Option ℕ). cond {A = ℕ} (is_entry e x) 1 0) (Some d) fds))) i

  slot_agree : {S : Type 0} (x : Slot S) → ((e : ℕ) → 0 < holders_in (fds_of x) e → f e ≡ g e) → renumbered_slot f x ≡ renumbered_slot g x
  slot_agree None agree = refl
  slot_agree (Some p) agree = λ i. Some (record p { fds = fds_agree p.fds agree i })

  pub table_agree : {S : Type 0} (t : Table S) → ((e : ℕ) → 0 < holders (tables t) e → f e ≡ g e) → renumbered_table f t ≡ renumbered_table g t
  table_agree [] agree = refl
  table_agree (x ∷ t) agree =
      let all = λ (e : ℕ). sum_by-cons (λ (fds : Descriptors). holders_in fds e) (fds_of x) (tables t) in
      λ i. slot_agree x (λ e some. agree e (omega (arith, some, all e))) i ∷ table_agree t (λ e some. agree e (omega (arith, some, all e))) i
