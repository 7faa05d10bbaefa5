-- A wait after another process's burial: it is the same but for who sleeps, or only fell asleep before, or frees a zombie in both orders.
use Rattle.std.proofs.Common.{◌≡◌, ◌≢◌, ◌⊎◌, ℕ, Bool, true, false, Option, Some, None, inl, inr, refl, sym, ap, subst, ◌∙◌}
use Rattle.std.proofs.lemmas.Bool.{and_parts, cases_eq, eqb-true}
use Rattle.std.specs.Prelude.{map, ◌==◌, ◌&&◌, if◌then◌else◌}
use Rattle.user_calls.specs.declared.calls.Reply.TheVariants.{Refused}
use Rattle.fd_table.proofs.Lists.{position_found}
use Rattle.proc_table.specs.declared.states.Channel.TheVariants.{Children}
use Rattle.proc_table.specs.declared.states.Status.{Status}
use Rattle.proc_table.specs.declared.states.Status.TheVariants.{Runnable, Running, Asleep, Zombie}
use Rattle.proc_table.specs.Slots.{Slot, Table, at, is_number, is_child_of, is_zombie, is_zombie_status, is_zombie_child_of}
use Rattle.proc_table.specs.Calls.{with_status, parent_after, given, buried, zombie_child, some_child, wait_by as waited}
use Rattle.proc_table.proofs.Changes.{written, kept, mapped}
use Rattle.kernel_model.specs.KernelState.{KernelState}
use Rattle.kernel_model.specs.Replies.{answered, sleeps}
use Rattle.kernel_model.specs.Processes.{wait, wait_by}
use Rattle.law_kernel.proofs.kernel.Children.{none_at}
use Rattle.kernel_model.specs.Woke.{woke_status, woke_slot}
use Rattle.law_turns.proofs.orders.Tables.{position_map}
use Rattle.law_turns.proofs.private_turns.Woken.{at_woke}
use Rattle.law_turns.proofs.slot_numbers.Calls.{SameEntries, answering, sleeping}
use Rattle.law_turns.proofs.exits.Buried.{other_parent, IsBuried, keeps, Both, start}

-- ---- one slot

woke_zombie : (s : Status) → is_zombie_status (woke_status s) ≡ is_zombie_status s
woke_zombie Runnable = refl
woke_zombie (Running h) = refl
woke_zombie (Asleep c) = refl
woke_zombie Zombie = refl

pub woke_zombie_child : {S : Type 0} (pid : ℕ) (x : Slot S) → is_zombie_child_of pid (woke_slot x) ≡ is_zombie_child_of pid x
woke_zombie_child pid None = refl
woke_zombie_child pid (Some y) = ap (λ (b : Bool). is_child_of pid (Some y) && b) (woke_zombie y.status)

woke_child : {S : Type 0} (pid : ℕ) (x : Slot S) → is_child_of pid (woke_slot x) ≡ is_child_of pid x
woke_child pid None = refl
woke_child pid (Some y) = refl

given_dead : {S : Type 0} (p : ℕ) (x : Slot S) → is_zombie (given p x) ≡ is_zombie x
given_dead p None = refl
given_dead p (Some y) = refl

zombie_child_status : {S : Type 0} (q : ℕ) (x : Slot S) → is_child_of q (with_status Zombie x) ≡ is_child_of q x
zombie_child_status q None = refl
zombie_child_status q (Some y) = refl

module _ (p q : ℕ) (other : q ≢ p) where
  number_given : (o : Option ℕ) → is_number q o ≡ true → is_number q (parent_after p o) ≡ true
  number_given None is = is
  number_given (Some n) is = let same : q ≡ n = eqb-true q n is in ap (is_number q) (other_parent p n (λ e. other (same ∙ e))) ∙ is

  number_before : q ≢ 0 → (o : Option ℕ) → is_number q (parent_after p o) ≡ true → is_number q o ≡ true
  number_before child None is = is
  number_before child (Some n) is = by (p == n) is where
    by : (b : Bool) → is_number q (if◌then◌else◌ {A = Option ℕ} b (Some 0) (Some n)) ≡ true → is_number q (Some n) ≡ true
    by true is = absurd (child (eqb-true q 0 is))
    by false is = is

  child_given : {S : Type 0} (x : Slot S) → is_child_of q x ≡ true → is_child_of q (given p x) ≡ true
  child_given None is = is
  child_given (Some y) is = number_given y.parent is

  child_before : {S : Type 0} → q ≢ 0 → (x : Slot S) → is_child_of q (given p x) ≡ true → is_child_of q x ≡ true
  child_before child None is = is
  child_before child (Some y) is = number_before child y.parent is

  -- ---- the table

  module _ {S : Type 0} (t : Table S) where
    at_other : (c : ℕ) → c ≢ p → at (buried t p) c ≡ given p (at t c)
    at_other c ne = kept (map (given p) t) p c (with_status Zombie (at (map (given p) t) p)) ne ∙ mapped (given p) refl t c

    at_own : at (buried t p) p ≡ with_status Zombie (given p (at t p))
    at_own = written (with_status Zombie) refl (map (given p) t) p ∙ ap (with_status Zombie) (mapped (given p) refl t p)

    child_at : (c : ℕ) → is_child_of q (at (buried t p) c) ≡ is_child_of q (given p (at t c))
    child_at c = by (cases_eq c p) where
      by : (c ≡ p) ⊎ (c ≢ p) → is_child_of q (at (buried t p) c) ≡ is_child_of q (given p (at t c))
      by (inl is) =
          let P : ℕ → Type 0 = λ i. is_child_of q (at (buried t p) i) ≡ is_child_of q (given p (at t i)) in
          subst P (sym is) (ap (is_child_of q) at_own ∙ zombie_child_status q (given p (at t p)))
      by (inr ne) = ap (is_child_of q) (at_other c ne)

    pub child_stays : (c : ℕ) → is_child_of q (at t c) ≡ true → is_child_of q (at (buried t p) c) ≡ true
    child_stays c is = child_at c ∙ child_given (at t c) is

    child_was : q ≢ 0 → (c : ℕ) → is_child_of q (at (buried t p) c) ≡ true → is_child_of q (at t c) ≡ true
    child_was child c is = child_before child (at t c) (sym (child_at c) ∙ is)

    -- a zombie isn't p
    pub zombie_stays : is_zombie (at t p) ≡ false → (z : ℕ) → is_zombie_child_of q (at t z) ≡ true → is_zombie_child_of q (at (buried t p) z) ≡ true
    zombie_stays alive z is =
        let both = and_parts (is_child_of q (at t z)) (is_zombie (at t z)) is in
        let z_not_p : z ≢ p = λ same. let no : true ≡ false = sym both.1 ∙ ap (λ (i : ℕ). is_zombie (at t i)) same ∙ alive in absurd (let v : ⊥ = cc in v) in
        λ j. child_stays z both.0 j && (ap is_zombie (at_other z z_not_p) ∙ given_dead p (at t z) ∙ both.1) j

  -- ---- the wait

  module _ {S : Type 0} (t u : Table S) where
    -- a zombie is freed in both tables, though maybe not the same one
    pub record Reaps : Type 0 where
      pub zombie : ℕ
      pub before : zombie_child t q ≡ Some zombie
      pub stays : is_zombie_child_of q (at u zombie) ≡ true
      pub first : ℕ
      pub found : zombie_child u q ≡ Some first

  module _ {S : Type 0} (after : S) (k : KernelState S) (u : Table S) (r : IsBuried p q other k.table u) (alive : is_zombie (at k.table p) ≡ false) (rooted : q ≡ 0 → (c : ℕ) × (some_child k.table 0 ≡ Some c)) where
    abbrev t : Table S
    t = k.table

    abbrev l : KernelState S
    l = record k { table = u }

    abbrev v : Table S
    v = buried k.table p

    zombie_so : zombie_child u q ≡ zombie_child v q
    zombie_so =
        sym (position_map (is_zombie_child_of q) (is_zombie_child_of q) woke_slot (woke_zombie_child q) u) ∙ ap (λ (w : Table S). zombie_child w q) r ∙ position_map (is_zombie_child_of q) (is_zombie_child_of q) woke_slot (woke_zombie_child q) v

    some_so : some_child u q ≡ some_child v q
    some_so = sym (position_map (is_child_of q) (is_child_of q) woke_slot (woke_child q) u) ∙ ap (λ (w : Table S). some_child w q) r ∙ position_map (is_child_of q) (is_child_of q) woke_slot (woke_child q) v

    at_so : (z : ℕ) → is_zombie_child_of q (at u z) ≡ is_zombie_child_of q (at v z)
    at_so z =
        sym (ap (is_zombie_child_of q) (at_woke u z) ∙ woke_zombie_child q (at u z)) ∙ ap (λ (w : Table S). is_zombie_child_of q (at w z)) r ∙ ap (is_zombie_child_of q) (at_woke v z) ∙ woke_zombie_child q (at v z)

    abbrev pub Waits : Type 0
    Waits = Both p q other (wait k q after) (wait l q after) ⊎ ((wait k q after ≡ sleeps k q (Children q) 0) ⊎ Reaps k.table u)

    answer_k : (o c : Option ℕ) → zombie_child t q ≡ o → some_child t q ≡ c → wait k q after ≡ wait_by k q after (waited o c)
    answer_k o c is some = λ i. wait_by k q after (waited (is i) (some i))

    answer_l : (o c : Option ℕ) → zombie_child v q ≡ o → some_child v q ≡ c → wait l q after ≡ wait_by l q after (waited o c)
    answer_l o c is some = λ i. wait_by l q after (waited ((zombie_so ∙ is) i) ((some_so ∙ some) i))

    no_child : some_child t q ≡ None → (c : ℕ) → is_child_of q (at v c) ≡ true → ⊥
    no_child none c is = by (cases_eq q 0) where
      by : (q ≡ 0) ⊎ (q ≢ 0) → ⊥
      by (inl init) =
          let has = rooted init in
          let both : None ≡ Some has.0 = sym none ∙ ap (some_child t) init ∙ has.1 in
          let z : ⊥ = cc in
          z
      by (inr child) =
          let no : true ≡ false = sym (child_was t child c is) ∙ none_at (is_child_of q) refl t none c in
          let z : ⊥ = cc in
          z

    both_by : (c d : Option ℕ) → zombie_child t q ≡ None → zombie_child v q ≡ None → some_child t q ≡ c → some_child v q ≡ d → Both p q other (wait k q after) (wait l q after)
    both_by None None is is_v some some_v =
        subst (λ (j : KernelState S). Both p q other j (wait l q after)) (sym (answer_k None None is some))
        (subst (λ (j : KernelState S). Both p q other (answered k q after Refused) j) (sym (answer_l None None is_v some_v)) (answering q q (λ c. c) (SameEntries (IsBuried p q other)) (keeps p q other) after k l Refused (start p q other after k u r)))
    both_by (Some c) (Some d) is is_v some some_v =
        subst (λ (j : KernelState S). Both p q other j (wait l q after)) (sym (answer_k None (Some c) is some))
        (subst (λ (j : KernelState S). Both p q other (sleeps k q (Children q) 0) j) (sym (answer_l None (Some d) is_v some_v)) (sleeping q q (λ c. c) (SameEntries (IsBuried p q other)) (keeps p q other) k l (Children q) 0 (start p q other after k u r)))
    both_by None (Some d) is is_v some some_v = absurd (no_child some d (position_found (is_child_of q) v None d some_v).1)
    both_by (Some c) None is is_v some some_v =
        let no : true ≡ false = sym (child_stays t c (position_found (is_child_of q) t None c some).1) ∙ none_at (is_child_of q) refl v some_v c in
        absurd (let z : ⊥ = cc in z)

    slept_by : (c : Option ℕ) (z : ℕ) → zombie_child t q ≡ None → zombie_child v q ≡ Some z → some_child t q ≡ c → wait k q after ≡ sleeps k q (Children q) 0
    slept_by (Some c) z is is_v some = answer_k None (Some c) is some
    slept_by None z is is_v some =
        absurd (no_child some z (and_parts (is_child_of q (at v z)) (is_zombie (at v z)) (position_found (is_zombie_child_of q) v None z is_v).1).0)

    waits_by : (o e : Option ℕ) → zombie_child t q ≡ o → zombie_child v q ≡ e → Waits
    waits_by None None is is_v = inl (both_by (some_child t q) (some_child v q) is is_v refl refl)
    waits_by None (Some z) is is_v = inr (inl (slept_by (some_child t q) z is is_v refl))
    waits_by (Some z) (Some w) is is_v =
        inr (inr (record { zombie = z; before = is; stays = at_so z ∙ zombie_stays t alive z (position_found (is_zombie_child_of q) t None z is).1; first = w; found = zombie_so ∙ is_v }))
    waits_by (Some z) None is is_v =
        let no : true ≡ false = sym (zombie_stays t alive z (position_found (is_zombie_child_of q) t None z is).1) ∙ none_at (is_zombie_child_of q) refl v is_v z in
        absurd (let w : ⊥ = cc in w)

    pub waits : Waits
    waits = waits_by (zombie_child t q) (zombie_child v q) refl refl
