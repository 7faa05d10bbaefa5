-- An exit loses no wake-up: the parent is woken, and init where a zombie becomes its child. No other sleeper gets a zombie child, since nobody is its own child.
use Rattle.std.proofs.Common.{◌≡◌, ◌≢◌, ◌⊎◌, ℕ, Bool, true, false, Option, Some, None, refl, sym, ap, subst, ◌∙◌, inl, inr}
use Rattle.std.proofs.lemmas.Bool.{cases_eq, eq-eqb, ne_eqb, both_ways, or_right, or_from}
use Rattle.std.specs.Prelude.{◌==◌, ◌&&◌, is_some, if◌then◌else◌}
use Rattle.proc_table.specs.declared.states.Channel.{Channel}
use Rattle.proc_table.specs.declared.states.Channel.TheVariants.{PipeBytes, PipeRoom, Children}
use Rattle.proc_table.specs.declared.states.Status.{Status}
use Rattle.proc_table.specs.declared.states.Status.TheVariants.{Runnable, Running, Asleep, Zombie}
use Rattle.proc_table.specs.Slots.{Table, Slot, at, is_free, is_number, is_child_of, is_zombie_child_of, is_zombie, is_zombie_status, is_asleep_on_status, same_channel, parent_of, parent_or_init}
use Rattle.proc_table.specs.Calls.{exited, given, woken, woken_status, woken_by_exit, with_status, zombie_child}
use Rattle.proc_table.proofs.Changes.{exit_self, exit_other, exit_child, gone_after, init_after, others_after}
use Rattle.kernel_model.specs.Pipes.{Pipes}
use Rattle.law_kernel.specs.Sleeping.{Waits, WaitsForChild, SleepsOn, Lives, Rests}
use Rattle.law_kernel.specs.Busy.{IsBusy}
use Rattle.law_kernel.proofs.kernel.Slots.{woken_or_not, sleeps_on}
use Rattle.law_kernel.proofs.kernel.Children.{none_at}
use Rattle.proc_table.proofs.Counts.{woken_free, given_free}

-- ---- one slot

of_if : {S : Type 0} (test : Slot S → Bool) (b : Bool) (x y : Slot S) (v : Bool) → test x ≡ v → test y ≡ v → test (if b then x else y) ≡ v
of_if test true x y v xv yv = xv
of_if test false x y v xv yv = yv

pub zombie_by : (c : Channel) (s : Status) → is_zombie_status (woken_status c s) ≡ is_zombie_status s
zombie_by c Runnable = refl
zombie_by c (Running h) = refl
zombie_by c (Asleep d) = woken_or_not (is_asleep_on_status c (Asleep d)) d
zombie_by c Zombie = refl

zombie_woken : {S : Type 0} (c : Channel) (x : Slot S) → is_zombie (woken c x) ≡ is_zombie x
zombie_woken c None = refl
zombie_woken c (Some p) = zombie_by c p.status

zombie_given : {S : Type 0} (pid : ℕ) (x : Slot S) → is_zombie (given pid x) ≡ is_zombie x
zombie_given pid None = refl
zombie_given pid (Some p) = refl

asleep_given : {S : Type 0} (pid : ℕ) (x : Slot S) (c : Channel) → SleepsOn (given pid x) c → SleepsOn x c
asleep_given pid None c sleeps = sleeps
asleep_given pid (Some p) c sleeps = sleeps

zombie_awake : {S : Type 0} (x : Slot S) (c : Channel) → SleepsOn (with_status Zombie x) c → ⊥
zombie_awake None c sleeps = sleeps
zombie_awake (Some p) c sleeps = cc

parent_by : (parent : Option ℕ) (q : ℕ) → parent_or_init parent ≢ q → is_number q parent ≡ false
parent_by None q ne = refl
parent_by (Some m) q ne = ne_eqb q m (λ same. ne (sym same))

-- who isn't the parent of a slot's process doesn't have it as a child
not_its_child : {S : Type 0} (x : Slot S) (q : ℕ) → parent_of x ≢ q → is_child_of q x ≡ false
not_its_child None q ne = refl
not_its_child (Some p) q ne = parent_by p.parent q ne

-- ---- after an exit of pid

module _ {S : Type 0} (t : Table S) (pid : ℕ) where
  abbrev u : Table S
  u = exited t pid

  abbrev parent : ℕ
  parent = parent_of (at t pid)

  zombie_after : (x : Slot S) → is_zombie (woken_by_exit t pid x) ≡ is_zombie x
  zombie_after x =
      let once = woken (Children parent) x in
      let first : is_zombie once ≡ is_zombie x = zombie_woken (Children parent) x in
      of_if is_zombie (is_some (zombie_child t pid)) (woken (Children 0) once) once (is_zombie x) (zombie_woken (Children 0) once ∙ first) first

  free_after : (x : Slot S) → is_free (woken_by_exit t pid x) ≡ is_free x
  free_after x =
      let once = woken (Children parent) x in
      let first : is_free once ≡ is_free x = woken_free (Children parent) x in
      of_if is_free (is_some (zombie_child t pid)) (woken (Children 0) once) once (is_free x) (woken_free (Children 0) once ∙ first) first

  -- who sleeps on slept before, and on no channel that was woken
  slept_on : (b : Bool) (x : Slot S) (c : Channel) → SleepsOn (if b then woken (Children 0) (woken (Children parent) x) else woken (Children parent) x) c → SleepsOn x c × (same_channel (Children parent) c ≡ false) × (b ≡ true → same_channel (Children 0) c ≡ false)
  slept_on true x c sleeps =
      let second = sleeps_on (Children 0) c (woken (Children parent) x) sleeps in
      let first = sleeps_on (Children parent) c x second.0 in
      (first.0, first.1, λ _. second.1)
  slept_on false x c sleeps = let first = sleeps_on (Children parent) c x sleeps in (first.0, first.1, λ z. absurd (let bad : ⊥ = cc in bad))

  -- the children of q after the exit: init has those of pid too
  children_after : (q i : ℕ) → pid ≢ 0 → q ≢ pid → is_child_of q (at t i) ≡ true → (q ≡ 0) ⊎ (q ≢ 0) → is_child_of q (at u i) ≡ true
  children_after q i some ne child (inl is) =
      let mine : is_child_of 0 (at t i) ≡ true = ap (λ (k : ℕ). is_child_of k (at t i)) (sym is) ∙ child in
      ap (λ (k : ℕ). is_child_of k (at u i)) is ∙ exit_child t pid 0 i ∙ init_after pid (at t i) ∙ or_right (is_child_of pid (at t i)) (is_child_of 0 (at t i)) mine
  children_after q i some ne child (inr not_init) = exit_child t pid q i ∙ others_after pid q (at t i) ne not_init ∙ child

  -- no child of q that wasn't its own before, but of init's
  no_child : (q i : ℕ) → q ≢ pid → is_child_of q (at t i) ≡ false → (q ≡ 0 → is_child_of pid (at t i) ≡ false) → (q ≡ 0) ⊎ (q ≢ 0) → is_child_of q (at u i) ≡ false
  no_child q i ne mine inherited (inl is) =
      ap (λ (k : ℕ). is_child_of k (at u i)) is ∙ exit_child t pid 0 i ∙ init_after pid (at t i) ∙ or_from (is_child_of pid (at t i)) (is_child_of 0 (at t i)) (inherited is) (ap (λ (k : ℕ). is_child_of k (at t i)) (sym is) ∙ mine)
  no_child q i ne mine inherited (inr not_init) = exit_child t pid q i ∙ others_after pid q (at t i) ne not_init ∙ mine

  zombie_other : (i : ℕ) → i ≢ pid → is_zombie (at u i) ≡ is_zombie (at t i)
  zombie_other i ne = ap is_zombie (exit_other t pid i ne) ∙ zombie_after (given pid (at t i)) ∙ zombie_given pid (at t i)

  -- a zombie child of q that it didn't have before
  no_zombie : (q i : ℕ) → i ≢ pid → q ≢ pid → is_zombie_child_of q (at t i) ≡ false → (q ≡ 0 → is_zombie_child_of pid (at t i) ≡ false) → (dead : Bool) → is_zombie (at t i) ≡ dead → is_zombie_child_of q (at u i) ≡ false
  no_zombie q i apart ne mine inherited false dead = ap (λ (z : Bool). is_child_of q (at u i) && z) (zombie_other i apart ∙ dead) ∙ never (is_child_of q (at u i)) where
    never : (b : Bool) → (b && false) ≡ false
    never true = refl
    never false = refl
  no_zombie q i apart ne mine inherited true dead =
      ap (λ (b : Bool). b && is_zombie (at u i)) (no_child q i ne (only (is_child_of q (at t i)) mine) (λ is. only (is_child_of pid (at t i)) (inherited is)) (cases_eq q 0)) where
        only : (b : Bool) → (b && is_zombie (at t i)) ≡ false → b ≡ false
        only true none = absurd (both_ways (is_zombie (at t i)) none dead)
        only false none = refl

  module _ (pipes : Pipes) (some : pid ≢ 0) (busy : IsBusy t pipes pid) where
    -- a process that waits for its children, and was not woken
    still_waits : (q : ℕ) → q ≢ pid → parent ≢ q → (is_some (zombie_child t pid) ≡ true → q ≢ 0) → WaitsForChild t q → WaitsForChild u q
    still_waits q ne apart no_heir w =
        record {
          child = (w.child.0, children_after q w.child.0 some ne w.child.1 (cases_eq q 0));
          living = λ i. living i (cases_eq i pid);
        } where
          no_heirloom : (o : Option ℕ) → zombie_child t pid ≡ o → q ≡ 0 → (i : ℕ) → is_zombie_child_of pid (at t i) ≡ false
          no_heirloom None none is i = none_at (is_zombie_child_of pid) refl t none i
          no_heirloom (Some child) found is i = absurd (no_heir (ap is_some found) is)

          living : (i : ℕ) → (i ≡ pid) ⊎ (i ≢ pid) → is_zombie_child_of q (at u i) ≡ false
          living i (inl is) =
              let none : is_child_of q (at u pid) ≡ false = no_child q pid ne (not_its_child (at t pid) q apart) (λ _. busy.family.own pid) (cases_eq q 0) in
              ap (λ (k : ℕ). is_zombie_child_of q (at u k)) is ∙ ap (λ (b : Bool). b && is_zombie (at u pid)) none
          living i (inr other) = no_zombie q i other ne (w.living i) (λ is. no_heirloom (zombie_child t pid) refl is i) (is_zombie (at t i)) refl

    exit_waits_by : (q : ℕ) (c : Channel) → q ≢ pid → same_channel (Children parent) c ≡ false → (is_some (zombie_child t pid) ≡ true → same_channel (Children 0) c ≡ false) → Waits t pipes q c → Waits u pipes q c
    exit_waits_by q (PipeBytes id) ne unlike unlike_init w = w
    exit_waits_by q (PipeRoom id) ne unlike unlike_init w = w
    exit_waits_by q (Children r) ne unlike unlike_init w = (
      w.0,
      still_waits q ne (λ same. both_ways (parent == r) unlike (eq-eqb parent r (same ∙ sym w.0))) (λ heir is. both_ways (0 == r) (unlike_init heir) (eq-eqb 0 r (sym is ∙ sym w.0))) w.1,
    )

    exit_waits : (q : ℕ) (c : Channel) → SleepsOn (at u q) c → (q ≡ pid) ⊎ (q ≢ pid) → Waits u pipes q c
    exit_waits q c sleeps (inl is) =
        absurd (zombie_awake (given pid (at t pid)) c (subst (λ (x : Slot S). SleepsOn x c) (ap (λ (k : ℕ). at u k) is ∙ exit_self t pid) sleeps))
    exit_waits q c sleeps (inr ne) =
        let was = slept_on (is_some (zombie_child t pid)) (given pid (at t q)) c (subst (λ (x : Slot S). SleepsOn x c) (exit_other t pid q ne) sleeps) in
        exit_waits_by q c ne was.1 was.2 (busy.others q c ne (asleep_given pid (at t q) c was.0))

    own_after : (i : ℕ) → (i ≡ pid) ⊎ (i ≢ pid) → (i ≡ 0) ⊎ (i ≢ 0) → is_child_of i (at u i) ≡ false
    own_after i (inl is) z = ap (λ (k : ℕ). is_child_of k (at u k)) is ∙ exit_child t pid pid pid ∙ gone_after pid (at t pid) some
    own_after i (inr ne) z = no_child i i ne (busy.family.own i) (λ is. ap (λ (k : ℕ). is_child_of pid (at t k)) is ∙ busy.family.eldest pid) z

    eldest_after : (r : ℕ) → (r ≡ pid) ⊎ (r ≢ pid) → is_child_of r (at u 0) ≡ false
    eldest_after r (inl is) = ap (λ (k : ℕ). is_child_of k (at u 0)) is ∙ exit_child t pid pid 0 ∙ gone_after pid (at t 0) some
    eldest_after r (inr ne) = no_child r 0 ne (busy.family.eldest r) (λ _. busy.family.eldest pid) (cases_eq r 0)

    lives_after : (q : ℕ) → q ≢ pid → Lives (at t q) → Lives (at u q)
    lives_after q ne lives =
        record { used = ap is_free (exit_other t pid q ne) ∙ free_after (given pid (at t q)) ∙ given_free pid (at t q) ∙ lives.used; alive = zombie_other q ne ∙ lives.alive }

    parents_after : (i q : ℕ) → (q ≡ pid) ⊎ (q ≢ pid) → (q ≡ 0) ⊎ (q ≢ 0) → is_child_of q (at u i) ≡ true → Lives (at u q)
    parents_after i q (inl is) z c =
        absurd (both_ways (is_child_of q (at u i)) (ap (λ (k : ℕ). is_child_of k (at u i)) is ∙ exit_child t pid pid i ∙ gone_after pid (at t i) some) c)
    parents_after i q (inr ne) (inl is) c = subst (λ (k : ℕ). Lives (at u k)) (sym is) (lives_after 0 (λ same. some (sym same)) busy.family.init)
    parents_after i q (inr ne) (inr not_init) c =
        lives_after q ne (busy.family.parents i q (sym (others_after pid q (at t i) ne not_init) ∙ sym (exit_child t pid q i) ∙ c))

    pub exit_rests : Rests u pipes
    exit_rests =
        record {
          waits = λ q c sleeps. exit_waits q c sleeps (cases_eq q pid);
          small = busy.small;
          family = record {
            init = lives_after 0 (λ is. some (sym is)) busy.family.init;
            eldest = λ r. eldest_after r (cases_eq r pid);
            own = λ i. own_after i (cases_eq i pid) (cases_eq i 0);
            parents = λ i q c. parents_after i q (cases_eq q pid) (cases_eq q 0) c;
          };
        }
