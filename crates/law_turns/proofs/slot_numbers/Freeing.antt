-- A fork and a wait, made in two kernels that differ only in the numbers of slots: what is taken or freed may have another number in each,
-- so that the numbers change.
use Rattle.std.proofs.Common.{◌≡◌, ◌≢◌, ◌⊎◌, ℕ, ◌<◌, true, false, Option, Some, None, length, inl, inr, refl, sym, ap, subst, ◌∙◌, get_or-set_same}
use Rattle.std.proofs.Math.ListN.{set}
use Rattle.std.proofs.lemmas.Bool.{cases_eq, eq-eqb}
use Rattle.proc_table.specs.declared.pid.TheConstants.{PROCS}
use Rattle.proc_table.specs.declared.states.Channel.{Channel}
use Rattle.proc_table.specs.declared.states.Channel.TheVariants.{PipeBytes, PipeRoom, Children}
use Rattle.proc_table.specs.declared.states.Status.{Status}
use Rattle.proc_table.specs.declared.states.Status.TheVariants.{Runnable, Running, Asleep, Zombie}
use Rattle.proc_table.specs.Slots.{Slot, Table, at, is_free, is_number, is_child_of, is_zombie, is_zombie_status}
use Rattle.proc_table.proofs.Changes.{kept}
use Rattle.law_kernel.specs.Sleeping.{Lives, SleepsOn}
use Rattle.kernel_model.specs.Numbers.{Numbering, renumbered_place}
use Rattle.kernel_model.specs.Slots.{moved_channel, moved_status, moved_slot, IsZombieOf, IsMoved, same, zombies}
use Rattle.law_turns.proofs.slot_numbers.Swaps.{Exchanged, exchanged}
use Rattle.law_turns.proofs.slot_numbers.Tables.{Moves}

-- ---- whom slots name

-- who is named as a parent lives, and who waits for children waits for its own
pub record Names {S : Type 0} (t : Table S) : Type 0 where
  pub parents : (i q : ℕ) → is_child_of q (at t i) ≡ true → Lives (at t q)
  pub own : (i q : ℕ) → SleepsOn (at t i) (Children q) → q ≡ i

-- neither free nor a zombie's
abbrev pub IsGone : {S : Type 0} → Slot S → Type 0
IsGone x = (x ≡ None) ⊎ (is_zombie x ≡ true)

pub gone_lives : {S : Type 0} (x : Slot S) → IsGone x → Lives x → ⊥
gone_lives x (inl none) l = let no : true ≡ false = sym (ap is_free none) ∙ l.used in let z : ⊥ = cc in z
gone_lives x (inr dead) l = let no : true ≡ false = sym dead ∙ l.alive in let z : ⊥ = cc in z

is_own : (a : ℕ) → is_number a (Some a) ≡ true
is_own a = eq-eqb a a refl

-- ---- numbers that agree where it counts

module _ (f g : ℕ → ℕ) where
  channel_agree : (i : ℕ) (c : Channel) → f i ≡ g i → ((q : ℕ) → c ≡ Children q → q ≡ i) → moved_channel f c ≡ moved_channel g c
  channel_agree i (PipeBytes p) is own = refl
  channel_agree i (PipeRoom p) is own = refl
  channel_agree i (Children q) is own = λ j. Children ((ap f (own q refl) ∙ is ∙ ap g (sym (own q refl))) j)

  status_agree : (i : ℕ) (s : Status) → f i ≡ g i → ((q : ℕ) → s ≡ Asleep (Children q) → q ≡ i) → moved_status f s ≡ moved_status g s
  status_agree i Runnable is own = refl
  status_agree i (Running h) is own = refl
  status_agree i (Asleep c) is own = ap Asleep (channel_agree i c is (λ q named. own q (ap Asleep named)))
  status_agree i Zombie is own = refl

  parent_agree : (o : Option ℕ) → ((q : ℕ) → o ≡ Some q → f q ≡ g q) → renumbered_place f o ≡ renumbered_place g o
  parent_agree None each = refl
  parent_agree (Some q) each = ap Some (each q refl)

  -- a slot that names none but such numbers
  agree : {S : Type 0} (t : Table S) → Names t → (i : ℕ) (x y : Slot S) → at t i ≡ x → f i ≡ g i → ((q : ℕ) → Lives (at t q) → f q ≡ g q) → IsMoved f x y → IsMoved g x y
  agree t names i x y here is lives (zombies parent z w) =
      zombies parent z (subst (λ (o : Option ℕ). IsZombieOf o y) (parent_agree parent (λ q named. lives q (names.parents i q (child q named)))) w) where
        child : (q : ℕ) → parent ≡ Some q → is_child_of q (at t i) ≡ true
        child q named = ap (is_child_of q) (here ∙ z.there) ∙ ap (is_number q) (z.child ∙ named) ∙ is_own q
  agree t names i None y here is lives (same it) = same it
  agree t names i (Some p) y here is lives (same it) =
      let parent : renumbered_place f p.parent ≡ renumbered_place g p.parent =
      parent_agree p.parent (λ q named. lives q (names.parents i q (ap (is_child_of q) here ∙ ap (is_number q) named ∙ is_own q))) in
      let status : moved_status f p.status ≡ moved_status g p.status = status_agree i p.status is (λ q asleep. names.own i q (subst (λ (x : Slot _). SleepsOn x (Children q)) (sym here) asleep)) in
      same (it ∙ (λ j. Some (record p { status = status j; parent = parent j })))

-- ---- one slot becomes x in the one table and y in the other

module _ {S : Type 0} (n : Numbering) (pid me : ℕ) (t u : Table S) (b : Moves n pid me t u) (names : Names t) (alive : Lives (at t pid))
    (a new : ℕ) (within : a < PROCS) (new_within : new < PROCS) (t_long : length t ≡ PROCS) (u_long : length u ≡ PROCS) where
  abbrev ex : Exchanged n a new
  ex = exchanged n a new

  there_so : (i : ℕ) → (i ≡ a) ⊎ (i ≢ a) → (i ≡ n.back new) ⊎ (i ≢ n.back new) → i < PROCS → ex.to.to i < PROCS
  there_so i (inl is) other lt = subst (λ (j : ℕ). j < PROCS) (sym (ap ex.to.to is ∙ ex.first)) new_within
  there_so i (inr ne) (inl is) lt = subst (λ (j : ℕ). j < PROCS) (sym (ap ex.to.to is ∙ ex.second)) (b.moved.there a within)
  there_so i (inr ne) (inr far) lt = subst (λ (j : ℕ). j < PROCS) (sym (ex.others i ne far)) (b.moved.there i lt)

  here_so : (j : ℕ) → (j ≡ new) ⊎ (j ≢ new) → (j ≡ n.to a) ⊎ (j ≢ n.to a) → j < PROCS → ex.to.back j < PROCS
  here_so j (inl is) other lt = subst (λ (i : ℕ). i < PROCS) (sym (ap ex.to.back is ∙ ex.back_first)) within
  here_so j (inr ne) (inl is) lt = subst (λ (i : ℕ). i < PROCS) (sym (ap ex.to.back is ∙ ex.back_second)) (b.moved.here new new_within)
  here_so j (inr ne) (inr far) lt = subst (λ (i : ℕ). i < PROCS) (sym (ex.back_others j ne far)) (b.moved.here j lt)

  module _ (gone_a : IsGone (at t a)) (gone_d : IsGone (at t (n.back new))) where
    pub lives_so : (q : ℕ) → Lives (at t q) → n.to q ≡ ex.to.to q
    lives_so q l =
        sym (ex.others q (λ is. gone_lives (at t a) gone_a (subst (λ (i : ℕ). Lives (at t i)) is l)) (λ is. gone_lives (at t (n.back new)) gone_d (subst (λ (i : ℕ). Lives (at t i)) is l)))

    pub number_so : ex.to.to pid ≡ me
    number_so = sym (lives_so pid alive) ∙ b.number

    init_so : Lives (at t 0) → ex.to.to 0 ≡ 0
    init_so l = sym (lives_so 0 l) ∙ b.moved.init

    -- what is new is alike, and so is what had the new number
    pub changed : (x y : Slot S) → Lives (at t 0) → IsMoved ex.to.to x y → (n.back new ≢ a → IsMoved ex.to.to (at t (n.back new)) (at u (n.to a))) → Moves ex.to pid me (set t a x) (set u new y)
    changed x y init fresh old =
        record {
          moved = record {
            init = init_so init;
            there = λ i lt. there_so i (cases_eq i a) (cases_eq i (n.back new)) lt;
            here = λ j lt. here_so j (cases_eq j new) (cases_eq j (n.to a)) lt;
            slots = λ i. slot i (cases_eq i a) (cases_eq i (n.back new));
          };
          number = number_so;
          mine = own;
        }
      where
        pid_not_a : pid ≢ a
        pid_not_a is = gone_lives (at t a) gone_a (subst (λ (i : ℕ). Lives (at t i)) is alive)

        me_not_new : me ≢ new
        me_not_new is = gone_lives (at t (n.back new)) gone_d (subst (λ (i : ℕ). Lives (at t i)) (sym (n.there pid) ∙ ap n.back (b.number ∙ is)) alive)

        slot : (i : ℕ) → (i ≡ a) ⊎ (i ≢ a) → (i ≡ n.back new) ⊎ (i ≢ n.back new) → IsMoved ex.to.to (at (set t a x) i) (at (set u new y) (ex.to.to i))
        slot i (inl is) other =
            let left : at (set t a x) i ≡ x = ap (at (set t a x)) is ∙ get_or-set_same t a x None (subst (λ (m : ℕ). a < m) (sym t_long) within) in
            let right : at (set u new y) (ex.to.to i) ≡ y = ap (at (set u new y)) (ap ex.to.to is ∙ ex.first) ∙ get_or-set_same u new y None (subst (λ (m : ℕ). new < m) (sym u_long) new_within) in
            subst (λ (z : Slot S). IsMoved ex.to.to (at (set t a x) i) z) (sym right) (subst (λ (z : Slot S). IsMoved ex.to.to z y) (sym left) fresh)
        slot i (inr ne) (inl is) =
            let other : n.back new ≢ a = λ q. ne (is ∙ q) in
            let elsewhere : n.to a ≢ new = λ q. other (sym (ap n.back q) ∙ n.there a) in
            let left : at (set t a x) i ≡ at t (n.back new) = kept t a i x ne ∙ ap (at t) is in
            let right : at (set u new y) (ex.to.to i) ≡ at u (n.to a) = ap (at (set u new y)) (ap ex.to.to is ∙ ex.second) ∙ kept u new (n.to a) y elsewhere in
            subst (λ (z : Slot S). IsMoved ex.to.to (at (set t a x) i) z) (sym right) (subst (λ (z : Slot S). IsMoved ex.to.to z (at u (n.to a))) (sym left) (old other))
        slot i (inr ne) (inr far) =
            let elsewhere : n.to i ≢ new = λ q. far (sym (n.there i) ∙ ap n.back q) in
            let left : at (set t a x) i ≡ at t i = kept t a i x ne in
            let right : at (set u new y) (ex.to.to i) ≡ at u (n.to i) = ap (at (set u new y)) (ex.others i ne far) ∙ kept u new (n.to i) y elsewhere in
            subst (λ (z : Slot S). IsMoved ex.to.to (at (set t a x) i) z) (sym right)
            (subst (λ (z : Slot S). IsMoved ex.to.to z (at u (n.to i))) (sym left) (agree n.to ex.to.to t names i (at t i) (at u (n.to i)) refl (sym (ex.others i ne far)) lives_so (b.moved.slots i)))

        own : at (set u new y) me ≡ moved_slot ex.to.to (at (set t a x) pid)
        own =
            let it : IsMoved n.to (at t pid) (at u me) = same b.mine in
            kept u new me y me_not_new ∙ by (agree n.to ex.to.to t names pid (at t pid) (at u me) refl (lives_so pid alive) lives_so it) ∙ ap (moved_slot ex.to.to) (sym (kept t a pid x pid_not_a)) where
              by : IsMoved ex.to.to (at t pid) (at u me) → at u me ≡ moved_slot ex.to.to (at t pid)
              by (same is) = is
              by (zombies parent z w) =
                  absurd (gone_lives (at t pid) (inr (ap is_zombie z.there ∙ ap is_zombie_status z.dead)) alive)
