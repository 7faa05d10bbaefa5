-- A fork, a reaped child and a wait that sleeps lose no wake-up, and leave the family in order.
use Rattle.std.proofs.Common.{◌≡◌, ◌≢◌, ◌⊎◌, ℕ, ◌<◌, ◌≤◌, Bool, true, false, Option, Some, None, length, refl, sym, ap, subst, ◌∙◌, inl, inr, arith, get_or-set_other}
use Rattle.std.proofs.lemmas.Bool.{cases_eq, cases_lt, eqb-true, ne_eqb, and_parts, both_ways}
use Rattle.std.proofs.lemmas.List.{get_or_past}
use Rattle.std.proofs.lemmas.List.Sums.{fails_before_first}
use Rattle.std.proofs.lemmas.List.Quantifiers.{position-Some}
use Rattle.std.proofs.lemmas.Grind.{common_steps}
use Rattle.std.specs.Prelude.{◌==◌, position}
use Rattle.std.specs.List.{position_or_len}
use Rattle.fd_table.specs.Descriptors.{Descriptors}
use Rattle.proc_table.specs.declared.states.Channel.{Channel}
use Rattle.proc_table.specs.declared.states.Channel.TheVariants.{PipeBytes, PipeRoom, Children}
use Rattle.proc_table.specs.Slots.{Table, Slot, at, is_free, is_child_of, is_zombie_child_of, is_zombie, is_number}
use Rattle.proc_table.specs.Calls.{forked, newborn, lowest_free, reaped, zombie_child, some_child}
use Rattle.proc_table.proofs.Changes.{was_free, child_is, reaped_is_free, reaped_others, was_zombie_child}
use Rattle.kernel_model.specs.Pipes.{Pipes}
use Rattle.law_kernel.specs.Sleeping.{Waits, WaitsForChild, SleepsOn, Lives, IsFamily}
use Rattle.law_kernel.specs.Busy.{IsBusy}
use Rattle.law_kernel.proofs.kernel.Slots.{and_false}

-- a slot after a change in which q loses no child and gets no zombie
pub record StaysFor {S : Type 0} (q : ℕ) (x y : Slot S) : Type 0 where
  pub child : is_child_of q x ≡ true → is_child_of q y ≡ true
  pub zombie : is_zombie_child_of q x ≡ false → is_zombie_child_of q y ≡ false

pub same_for : {S : Type 0} (q : ℕ) (x y : Slot S) → y ≡ x → StaysFor q x y
same_for q x y is = record { child = λ c. ap (is_child_of q) is ∙ c; zombie = λ z. ap (is_zombie_child_of q) is ∙ z }

pub waits_for : {S : Type 0} (t u : Table S) (pipes : Pipes) (q : ℕ) (c : Channel) → ((i : ℕ) → StaysFor q (at t i) (at u i)) → Waits t pipes q c → Waits u pipes q c
waits_for t u pipes q (PipeBytes id) stays w = w
waits_for t u pipes q (PipeRoom id) stays w = w
waits_for t u pipes q (Children pid) stays w =
    (w.0, record { child = (w.1.child.0, (stays w.1.child.0).child w.1.child.1); living = λ i. (stays i).zombie (w.1.living i) })

-- ---- fork

module _ {S : Type 0} (t : Table S) (pipes : Pipes) (pid child : ℕ) (m : S) (fds : Descriptors) (found : lowest_free t ≡ Some child) where
  abbrev grown : Table S
  grown = forked t child pid m fds

  free : at t child ≡ None
  free = was_free t child found

  new : at grown child ≡ Some (newborn pid m fds)
  new = child_is t child pid m fds found

  other : (i : ℕ) → i ≢ child → at grown i ≡ at t i
  other i ne = get_or-set_other t child i (Some (newborn pid m fds)) None ne

  fork_stays : (q i : ℕ) → (i ≡ child) ⊎ (i ≢ child) → StaysFor q (at t i) (at grown i)
  fork_stays q i (inl is) =
      let P : ℕ → Type 0 = λ k. StaysFor q (at t k) (at grown k) in
      subst P (sym is) (record { child = λ c. absurd (both_ways (is_child_of q (at t child)) (ap (is_child_of q) free) c); zombie = λ z. ap (is_zombie_child_of q) new ∙ and_false (q == pid) })
  fork_stays q i (inr ne) = same_for q (at t i) (at grown i) (other i ne)

  fork_waits : (q : ℕ) (c : Channel) → SleepsOn (at grown q) c → (SleepsOn (at t q) c → Waits t pipes q c) → (q ≡ child) ⊎ (q ≢ child) → Waits grown pipes q c
  fork_waits q c sleeps waits (inl is) =
      let asleep : SleepsOn (Some (newborn pid m fds)) c = subst (λ (x : Slot S). SleepsOn x c) (ap (λ (k : ℕ). at grown k) is ∙ new) sleeps in
      absurd (let bad : ⊥ = cc in bad)
  fork_waits q c sleeps waits (inr ne) =
      waits_for t grown pipes q c (λ i. fork_stays q i (cases_eq i child)) (waits (subst (λ (x : Slot S). SleepsOn x c) (other q ne) sleeps))

  -- the new child is neither init nor its own parent, which runs
  used_apart : (i : ℕ) → is_free (at t i) ≡ false → i ≢ child
  used_apart i used is = both_ways (is_free (at t i)) used (ap (λ (k : ℕ). is_free (at t k)) is ∙ ap is_free free)

  -- who lives goes on to
  lives_by : (q : ℕ) → Lives (at t q) → Lives (at grown q)
  lives_by q lives = subst (λ (x : Slot S). Lives x) (sym (other q (used_apart q lives.used))) lives

  parents_by : (i q : ℕ) → Lives (at t pid) → IsFamily t → (i ≡ child) ⊎ (i ≢ child) → is_child_of q (at grown i) ≡ true → Lives (at grown q)
  parents_by i q lives f (inl is) c =
      let parent : (q == pid) ≡ true = sym (ap (is_child_of q) new) ∙ ap (λ (k : ℕ). is_child_of q (at grown k)) (sym is) ∙ c in
      subst (λ (k : ℕ). Lives (at grown k)) (sym (eqb-true q pid parent)) (lives_by pid lives)
  parents_by i q lives f (inr ne) c = lives_by q (f.parents i q (ap (is_child_of q) (sym (other i ne)) ∙ c))

  own_by : (i : ℕ) → pid ≢ child → IsFamily t → (i ≡ child) ⊎ (i ≢ child) → is_child_of i (at grown i) ≡ false
  own_by i apart f (inl is) = ap (λ (k : ℕ). is_child_of k (at grown k)) is ∙ ap (is_child_of child) new ∙ ne_eqb child pid (λ same. apart (sym same))
  own_by i apart f (inr ne) = ap (is_child_of i) (other i ne) ∙ f.own i

  fork_family : Lives (at t pid) → IsFamily t → IsFamily grown
  fork_family lives f =
      record {
        init = lives_by 0 f.init;
        eldest = λ r. ap (is_child_of r) (other 0 (used_apart 0 f.init.used)) ∙ f.eldest r;
        own = λ i. own_by i (used_apart pid lives.used) f (cases_eq i child);
        parents = λ i q c. parents_by i q lives f (cases_eq i child) c;
      }

  pub fork_busy : Lives (at t pid) → IsBusy t pipes pid → IsBusy grown pipes pid
  fork_busy lives b =
      record { others = λ q c ne sleeps. fork_waits q c sleeps (b.others q c ne) (cases_eq q child); small = b.small; family = fork_family lives b.family }

-- ---- a reaped child

one_parent : (p q : ℕ) (o : Option ℕ) → is_number p o ≡ true → is_number q o ≡ true → p ≡ q
one_parent p q None a b = absurd (let bad : ⊥ = cc in bad)
one_parent p q (Some m) a b = eqb-true p m a ∙ sym (eqb-true q m b)

one_parent_of : {S : Type 0} (p q : ℕ) (x : Slot S) → is_child_of p x ≡ true → is_child_of q x ≡ true → p ≡ q
one_parent_of p q None a b = absurd (let bad : ⊥ = cc in bad)
one_parent_of p q (Some y) a b = one_parent p q y.parent a b

module _ {S : Type 0} (t : Table S) (pipes : Pipes) (pid child : ℕ) (found : zombie_child t pid ≡ Some child) where
  parent : is_child_of pid (at t child) ≡ true
  parent = (and_parts (is_child_of pid (at t child)) (is_zombie (at t child)) (was_zombie_child t pid child found).1).0

  reap_stays : (q i : ℕ) → q ≢ pid → (i ≡ child) ⊎ (i ≢ child) → StaysFor q (at t i) (at (reaped t pid) i)
  reap_stays q i ne (inl is) =
      let P : ℕ → Type 0 = λ k. StaysFor q (at t k) (at (reaped t pid) k) in
      subst P (sym is) (record { child = λ c. absurd (ne (one_parent_of q pid (at t child) c parent)); zombie = λ z. ap (is_zombie_child_of q) (reaped_is_free t pid child found) })
  reap_stays q i ne (inr aside) = same_for q (at t i) (at (reaped t pid) i) (reaped_others t pid child i found aside)

  reap_waits : (q : ℕ) (c : Channel) → q ≢ pid → SleepsOn (at (reaped t pid) q) c → (SleepsOn (at t q) c → Waits t pipes q c) → (q ≡ child) ⊎ (q ≢ child) → Waits (reaped t pid) pipes q c
  reap_waits q c ne sleeps waits (inl is) = absurd (subst (λ (x : Slot S). SleepsOn x c) (ap (λ (k : ℕ). at (reaped t pid) k) is ∙ reaped_is_free t pid child found) sleeps)
  reap_waits q c ne sleeps waits (inr aside) =
      waits_for t (reaped t pid) pipes q c (λ i. reap_stays q i ne (cases_eq i child)) (waits (subst (λ (x : Slot S). SleepsOn x c) (reaped_others t pid child q found aside) sleeps))

  own_left : (i : ℕ) → IsFamily t → (i ≡ child) ⊎ (i ≢ child) → is_child_of i (at (reaped t pid) i) ≡ false
  own_left i f (inl is) = ap (λ (k : ℕ). is_child_of i (at (reaped t pid) k)) is ∙ ap (is_child_of i) (reaped_is_free t pid child found)
  own_left i f (inr aside) = ap (is_child_of i) (reaped_others t pid child i found aside) ∙ f.own i

  -- who lives isn't reaped
  apart : (q : ℕ) → Lives (at t q) → q ≢ child
  apart q lives is =
      both_ways (is_zombie (at t q)) lives.alive (ap (λ (k : ℕ). is_zombie (at t k)) is ∙ (and_parts (is_child_of pid (at t child)) (is_zombie (at t child)) (was_zombie_child t pid child found).1).1)

  lives_left : (q : ℕ) → Lives (at t q) → Lives (at (reaped t pid) q)
  lives_left q lives = subst (λ (x : Slot S). Lives x) (sym (reaped_others t pid child q found (apart q lives))) lives

  parents_left : (i q : ℕ) → IsFamily t → (i ≡ child) ⊎ (i ≢ child) → is_child_of q (at (reaped t pid) i) ≡ true → Lives (at (reaped t pid) q)
  parents_left i q f (inl is) c =
      absurd (both_ways (is_child_of q (at (reaped t pid) i)) (ap (λ (k : ℕ). is_child_of q (at (reaped t pid) k)) is ∙ ap (is_child_of q) (reaped_is_free t pid child found)) c)
  parents_left i q f (inr ne) c = lives_left q (f.parents i q (ap (is_child_of q) (sym (reaped_others t pid child i found ne)) ∙ c))

  reap_family : IsFamily t → IsFamily (reaped t pid)
  reap_family f =
      record {
        init = lives_left 0 f.init;
        eldest = λ r. ap (is_child_of r) (reaped_others t pid child 0 found (apart 0 f.init)) ∙ f.eldest r;
        own = λ i. own_left i f (cases_eq i child);
        parents = λ i q c. parents_left i q f (cases_eq i child) c;
      }

  pub reap_busy : IsBusy t pipes pid → IsBusy (reaped t pid) pipes pid
  reap_busy b =
      record { others = λ q c ne sleeps. reap_waits q c ne sleeps (b.others q c ne) (cases_eq q child); small = b.small; family = reap_family b.family }

-- ---- a wait that sleeps

none_by : {S : Type 0} (p : Slot S → Bool) → p None ≡ false → (t : Table S) (i : ℕ) → length t ≤ position_or_len p t → (i < length t) ⊎ (length t ≤ i) → p (at t i) ≡ false
none_by p free t i past (inl lt) = fails_before_first p t i None (omega arith)
none_by p free t i past (inr ge) = ap p (get_or_past t i None ge) ∙ free

pub none_at : {S : Type 0} (p : Slot S → Bool) → p None ≡ false → (t : Table S) → position p t ≡ None → (i : ℕ) → p (at t i) ≡ false
none_at p free t none i =
    let past : length t ≤ position_or_len p t = grind (arith, common_steps) in
    none_by p free t i past (cases_lt i (length t))

pub has_to_wait : {S : Type 0} (t : Table S) (pid child : ℕ) → zombie_child t pid ≡ None → some_child t pid ≡ Some child → WaitsForChild t pid
has_to_wait t pid child none some =
    record { child = (child, (position-Some (is_child_of pid) t child None some).1); living = none_at (is_zombie_child_of pid) refl t none }
