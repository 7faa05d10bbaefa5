-- The calls of a table of processes, made in two tables of which one has the slots of the other under other numbers.
use Rattle.std.proofs.Common.{◌≡◌, ◌≢◌, ◌⊎◌, ℕ, Bool, true, false, Option, Some, None, inl, inr, refl, sym, ap, subst, ◌∙◌}
use Rattle.std.proofs.Math.ListN.{set}
use Rattle.std.proofs.lemmas.Bool.{cases_eq}
use Rattle.std.specs.Prelude.{map, is_some, position, if◌then◌else◌}
use Rattle.user_calls.specs.declared.calls.Reply.{Reply}
use Rattle.fd_table.specs.Descriptors.{Descriptors}
use Rattle.proc_table.specs.declared.states.Channel.{Channel}
use Rattle.proc_table.specs.declared.states.Channel.TheVariants.{Children}
use Rattle.proc_table.specs.declared.states.Status.TheVariants.{Running, Zombie}
use Rattle.proc_table.specs.Slots.{Slot, Table, at, is_child_of, is_zombie_child_of, parent_of, put_of}
use Rattle.proc_table.specs.Calls.{with_status, dispatched, made_ready, readied, put_to_sleep, slept, with_fds, fds_set, woken, all_woken, given, buried, exited, zombie_child, some_child}
use Rattle.proc_table.proofs.Changes.{written, kept, mapped}
use Rattle.fd_table.proofs.Lists.{position_found}
use Rattle.kernel_model.specs.KernelState.{fds_of}
use Rattle.law_kernel.proofs.kernel.Children.{none_at}
use Rattle.kernel_model.specs.Numbers.{Numbering}
use Rattle.kernel_model.specs.Slots.{moved_channel, moved_slot, IsMoved, same, AreMoved}
use Rattle.law_turns.proofs.slot_numbers.Slots.{fds_so, put_so, ready_so, sleep_so, with_fds_so, status_so, apart, woken_so, given_so, parent_so, is_given, is_woken, same_child, same_zombie_child}

-- u has t's slots so, and the slot of pid exactly so, under the number me
pub record Moves {S : Type 0} (n : Numbering) (pid me : ℕ) (t u : Table S) : Type 0 where
  pub moved : AreMoved n t u
  pub number : n.to pid ≡ me
  pub mine : at u me ≡ moved_slot n.to (at t pid)

module _ {S : Type 0} (n : Numbering) (pid me : ℕ) where
  abbrev Both : Table S → Table S → Type 0
  Both t u = Moves n pid me t u

  pub fds_moved : (t u : Table S) → Both t u → fds_of (at u me) ≡ fds_of (at t pid)
  fds_moved t u b = ap fds_of b.mine ∙ fds_so n.to (at t pid)

  pub put_moved : (t u : Table S) → Both t u → put_of (at u me) ≡ put_of (at t pid)
  put_moved t u b = ap put_of b.mine ∙ put_so n.to (at t pid)

  -- the process's own slot becomes what these functions make of it
  set_moved : (f g : Slot S → Slot S) → f None ≡ None → g None ≡ None → ((x : Slot S) → g (moved_slot n.to x) ≡ moved_slot n.to (f x)) → (t u : Table S) → Both t u → Both (set t pid (f (at t pid))) (set u me (g (at u me)))
  set_moved f g f_none g_none each t u b =
      record {
        moved = record { init = b.moved.init; there = b.moved.there; here = b.moved.here; slots = λ i. by i (cases_eq i pid) };
        number = b.number;
        mine = own;
      }
    where
      own : at (set u me (g (at u me))) me ≡ moved_slot n.to (at (set t pid (f (at t pid))) pid)
      own = written g g_none u me ∙ ap g b.mine ∙ each (at t pid) ∙ ap (moved_slot n.to) (sym (written f f_none t pid))

      by : (i : ℕ) → (i ≡ pid) ⊎ (i ≢ pid) → IsMoved n.to (at (set t pid (f (at t pid))) i) (at (set u me (g (at u me))) (n.to i))
      by i (inl is) = same (ap (at (set u me (g (at u me)))) (ap n.to is ∙ b.number) ∙ own ∙ ap (λ (j : ℕ). moved_slot n.to (at (set t pid (f (at t pid))) j)) (sym is))
      by i (inr ne) =
          let elsewhere : n.to i ≢ me = λ is. apart n i pid ne (is ∙ sym b.number) in
          subst (λ (y : Slot S). IsMoved n.to (at (set t pid (f (at t pid))) i) y) (sym (kept u me (n.to i) (g (at u me)) elsewhere))
          (subst (λ (x : Slot S). IsMoved n.to x (at u (n.to i))) (sym (kept t pid i (f (at t pid)) ne)) (b.moved.slots i))

  pub ready_moved : (t u : Table S) (m : S) (reply : Reply) → Both t u → Both (readied t pid m reply) (readied u me m reply)
  ready_moved t u m reply b = set_moved (made_ready m reply) (made_ready m reply) refl refl (ready_so n.to m reply) t u b

  pub sleep_moved : (t u : Table S) (c : Channel) (put : ℕ) → Both t u → Both (slept t pid c put) (slept u me (moved_channel n.to c) put)
  sleep_moved t u c put b = set_moved (put_to_sleep c put) (put_to_sleep (moved_channel n.to c) put) refl refl (sleep_so n.to c put) t u b

  pub dispatched_moved : (t u : Table S) → Both t u → Both (dispatched t pid 0) (dispatched u me 0)
  dispatched_moved t u b = set_moved (with_status (Running 0)) (with_status (Running 0)) refl refl (status_so n.to (Running 0)) t u b

  pub set_fds_moved : (t u : Table S) (fds : Descriptors) → Both t u → Both (fds_set t pid fds) (fds_set u me fds)
  set_fds_moved t u fds b = set_moved (with_fds fds) (with_fds fds) refl refl (with_fds_so n.to fds) t u b

  -- every slot becomes what these functions make of it
  map_moved : (f g : Slot S → Slot S) → f None ≡ None → g None ≡ None → ((x : Slot S) → g (moved_slot n.to x) ≡ moved_slot n.to (f x)) → ((x y : Slot S) → IsMoved n.to x y → IsMoved n.to (f x) (g y)) → (t u : Table S) → Both t u → Both (map f t) (map g u)
  map_moved f g f_none g_none each moves t u b =
      record {
        moved = record {
          init = b.moved.init;
          there = b.moved.there;
          here = b.moved.here;
          slots =
              λ i. subst (λ (y : Slot S). IsMoved n.to (at (map f t) i) y) (sym (mapped g g_none u (n.to i)))
              (subst (λ (x : Slot S). IsMoved n.to x (g (at u (n.to i)))) (sym (mapped f f_none t i)) (moves (at t i) (at u (n.to i)) (b.moved.slots i)));
        };
        number = b.number;
        mine = mapped g g_none u me ∙ ap g b.mine ∙ each (at t pid) ∙ ap (moved_slot n.to) (sym (mapped f f_none t pid));
      }

  pub woken_moved : (t u : Table S) (c : Channel) → Both t u → Both (all_woken c t) (all_woken (moved_channel n.to c) u)
  woken_moved t u c b = map_moved (woken c) (woken (moved_channel n.to c)) refl refl (woken_so n c) (is_woken n c) t u b

  -- ---- children

  some_in_both : (p r : Slot S → Bool) → p None ≡ false → r None ≡ false → ((x y : Slot S) → IsMoved n.to x y → r y ≡ p x) → (t u : Table S) → Both t u → is_some (position r u) ≡ is_some (position p t)
  some_in_both p r p_none r_none agree t u b = by (position p t) (position r u) refl refl where
    by : (o q : Option ℕ) → position p t ≡ o → position r u ≡ q → is_some (position r u) ≡ is_some (position p t)
    by None None is_o is_q = ap is_some is_q ∙ sym (ap is_some is_o)
    by (Some i) (Some j) is_o is_q = ap is_some is_q ∙ sym (ap is_some is_o)
    by (Some i) None is_o is_q =
        absurd (let no : true ≡ false = sym (position_found p t None i is_o).1 ∙ sym (agree (at t i) (at u (n.to i)) (b.moved.slots i)) ∙ none_at r r_none u is_q (n.to i) in let z : ⊥ = cc in z)
    by None (Some j) is_o is_q =
        let there : IsMoved n.to (at t (n.back j)) (at u j) = subst (λ (i : ℕ). IsMoved n.to (at t (n.back j)) (at u i)) (n.here j) (b.moved.slots (n.back j)) in
        absurd (let no : true ≡ false = sym (position_found r u None j is_q).1 ∙ agree (at t (n.back j)) (at u j) there ∙ none_at p p_none t is_o (n.back j) in let z : ⊥ = cc in z)

  pub zombie_child_so : (t u : Table S) → Both t u → is_some (zombie_child u me) ≡ is_some (zombie_child t pid)
  zombie_child_so t u b = some_in_both (is_zombie_child_of pid) (is_zombie_child_of me) refl refl (λ x y m. subst (λ (i : ℕ). is_zombie_child_of i y ≡ is_zombie_child_of pid x) b.number (same_zombie_child n pid x y m)) t u b

  pub some_child_so : (t u : Table S) → Both t u → is_some (some_child u me) ≡ is_some (some_child t pid)
  some_child_so t u b = some_in_both (is_child_of pid) (is_child_of me) refl refl (λ x y m. subst (λ (i : ℕ). is_child_of i y ≡ is_child_of pid x) b.number (same_child n pid x y m)) t u b

  -- ---- exit

  given_moved : (t u : Table S) → Both t u → Both (map (given pid) t) (map (given me) u)
  given_moved t u b =
      map_moved (given pid) (given me) refl refl (λ x. subst (λ (i : ℕ). given i (moved_slot n.to x) ≡ moved_slot n.to (given pid x)) b.number (given_so n b.moved.init pid x))
      (λ x y m. subst (λ (i : ℕ). IsMoved n.to (given pid x) (given i y)) b.number (is_given n b.moved.init pid x y m)) t u b

  buried_moved : (t u : Table S) → Both t u → Both (buried t pid) (buried u me)
  buried_moved t u b = set_moved (with_status Zombie) (with_status Zombie) refl refl (status_so n.to Zombie) (map (given pid) t) (map (given me) u) (given_moved t u b)

  woken_init : (t u : Table S) → Both t u → Both (all_woken (Children 0) t) (all_woken (Children 0) u)
  woken_init t u b = subst (λ (i : ℕ). Both (all_woken (Children 0) t) (all_woken (Children i) u)) b.moved.init (woken_moved t u (Children 0) b)

  exited_by : (s z : Bool) (t u : Table S) → z ≡ s → Both t u → Both (if s then all_woken (Children 0) t else t) (if z then all_woken (Children 0) u else u)
  exited_by true true t u is b = woken_init t u b
  exited_by false false t u is b = b
  exited_by true false t u is b = absurd (let z : ⊥ = cc in z)
  exited_by false true t u is b = absurd (let z : ⊥ = cc in z)

  pub exited_moved : (t u : Table S) → Both t u → Both (exited t pid) (exited u me)
  exited_moved t u b =
      let parent : n.to (parent_of (at t pid)) ≡ parent_of (at u me) = sym (parent_so n b.moved.init (at t pid)) ∙ ap parent_of (sym b.mine) in
      let gone : Both (all_woken (Children (parent_of (at t pid))) (buried t pid)) (all_woken (Children (parent_of (at u me))) (buried u me)) =
      subst (λ (i : ℕ). Both (all_woken (Children (parent_of (at t pid))) (buried t pid)) (all_woken (Children i) (buried u me))) parent (woken_moved (buried t pid) (buried u me) (Children (parent_of (at t pid))) (buried_moved t u b)) in
      exited_by (is_some (zombie_child t pid)) (is_some (zombie_child u me)) _ _ (zombie_child_so t u b) gone
