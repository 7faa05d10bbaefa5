-- Init has a child while another process is there, and whoever waits next has put nothing.
use Rattle.std.proofs.Common.{◌≡◌, ◌≢◌, ◌⊎◌, ℕ, zero, suc, ◌+◌, ◌<◌, ◌≤◌, List, [], ◌∷◌, Bool, true, false, Option, Some, None, inl, inr, refl, sym, ap, subst, ◌∙◌, arith}
use Rattle.std.proofs.Math.ListN.{set}
use Rattle.std.proofs.lemmas.Bool.{cases_eq, eq-eqb, ne_eqb}
use Rattle.std.specs.Prelude.{map, is_some, ◌==◌, if◌then◌else◌, Result, Ok, Err}
use Rattle.user_calls.specs.declared.calls.Call.{Call}
use Rattle.user_calls.specs.declared.calls.Call.TheVariants.{Wait, Write}
use Rattle.user_calls.specs.declared.calls.Reply.{Reply}
use Rattle.fd_table.specs.declared.descriptors.TheConstants.{DESCRIPTORS}
use Rattle.fd_table.specs.declared.faults.FdFault.{FdFault}
use Rattle.fd_table.specs.declared.names.Object.{Object}
use Rattle.fd_table.specs.declared.names.Object.TheVariants.{Input, Out, Diag, File, PipeRead, PipeWrite}
use Rattle.fd_table.specs.Entries.{lowest_free_entry}
use Rattle.fd_table.specs.Descriptors.{Descriptors, entry_of, close_answer}
use Rattle.mem_files.specs.Name.{Name, Bytes}
use Rattle.proc_table.specs.declared.states.Channel.{Channel}
use Rattle.proc_table.specs.declared.states.Channel.TheVariants.{PipeBytes, PipeRoom, Children}
use Rattle.proc_table.specs.declared.states.Status.{Status}
use Rattle.proc_table.specs.declared.states.Status.TheVariants.{Runnable, Running, Zombie}
use Rattle.proc_table.specs.Slots.{Slot, Table, Process, at, is_free, is_number, is_child_of, is_runnable_status, parent_of}
use Rattle.proc_table.specs.Calls.{with_status, made_ready, put_to_sleep, with_fds, woken, all_woken, parent_after, given, buried, exited, zombie_child, some_child, newborn, freed}
use Rattle.proc_table.proofs.Changes.{written, kept, mapped, was_free}
use Rattle.kernel_model.specs.KernelState.{KernelState, fds_at}
use Rattle.kernel_model.specs.Boot.{boot_kernel}
use Rattle.kernel_model.specs.Descriptors.{let_go, let_go_of, taken_away, closed, closed_below, opened_at, with_open, with_reader, with_ends}
use Rattle.kernel_model.specs.Events.{counted}
use Rattle.kernel_model.proofs.Lasting.{no_run}
use Rattle.kernel_model.proofs.Offsets.{slot_cases}
use Rattle.law_kernel.specs.Outcome.{Outcome, refused, lacks, forks, runs, exits, reaps, waits, opens, opens_empty, closes, dups, pipes, reads_input, reads_file, takes, waits_for_bytes, meets_end, tells, complains, writes_over, appends, puts_all, puts_part}
use Rattle.law_kernel.proofs.outcomes.Outcomes.{every_call_ends}
use Rattle.law_kernel.specs.Sleeping.{Lives}
use Rattle.law_kernel.proofs.kernel.Runs.{past_two}
use Rattle.law_kernel.proofs.kernel.Children.{none_at}
use Rattle.kernel_model.specs.Begun.{IsBegun}
use Rattle.kernel_model.specs.Turns.{by_turns, after_turn, after_turns, quiet_turns, turn_events, turn_notes}
use Rattle.law_turns.proofs.orders.Back.{could_turn}
use Rattle.law_turns.proofs.orders.Follow.{after_turn as turned, given_0}
use Rattle.law_turns.proofs.private_turns.Begun.{begun_on, begun_still}
use Rattle.law_turns.proofs.private_turns.Turned.{turn_is, ready_slot}
use Rattle.law_turns.proofs.slot_numbers.Acted.{Mid}
use Rattle.law_turns.proofs.slot_numbers.Turns.{begun_mid}

-- ---- a slot

-- nothing where it is free, else its process's parent, if it has one
abbrev pub kin : {S : Type 0} → Slot S → Option (Option ℕ)
kin None = None
kin (Some y) = Some y.parent

kin_ready : {S : Type 0} (m : S) (r : Reply) (x : Slot S) → kin (made_ready m r x) ≡ kin x
kin_ready m r None = refl
kin_ready m r (Some y) = refl

kin_sleep : {S : Type 0} (c : Channel) (put : ℕ) (x : Slot S) → kin (put_to_sleep c put x) ≡ kin x
kin_sleep c put None = refl
kin_sleep c put (Some y) = refl

kin_fds : {S : Type 0} (fds : Descriptors) (x : Slot S) → kin (with_fds fds x) ≡ kin x
kin_fds fds None = refl
kin_fds fds (Some y) = refl

kin_status : {S : Type 0} (s : Status) (x : Slot S) → kin (with_status s x) ≡ kin x
kin_status s None = refl
kin_status s (Some y) = refl

kin_woken : {S : Type 0} (c : Channel) (x : Slot S) → kin (woken c x) ≡ kin x
kin_woken c None = refl
kin_woken c (Some y) = refl

abbrev after_exit : ℕ → Option (Option ℕ) → Option (Option ℕ)
after_exit p None = None
after_exit p (Some o) = Some (parent_after p o)

kin_given : {S : Type 0} (p : ℕ) (x : Slot S) → kin (given p x) ≡ after_exit p (kin x)
kin_given p None = refl
kin_given p (Some y) = refl

pub kin_child : {S : Type 0} (q : ℕ) (x : Slot S) → kin x ≡ Some (Some q) → is_child_of q x ≡ true
kin_child q None is = absurd (let z : ⊥ = cc in z)
kin_child q (Some y) is = let parent : y.parent ≡ Some q = cc in ap (is_number q) parent ∙ eq-eqb q q refl

-- ---- who descends from whom

-- every process but init has a parent, which is nearer to init
pub record IsTree {S : Type 0} (t : Table S) : Type 0 where
  pub depth : ℕ → ℕ
  pub init : depth 0 ≡ 0
  pub lower : (i q : ℕ) → kin (at t i) ≡ Some (Some q) → depth q < depth i
  pub known : (i : ℕ) → i ≢ 0 → kin (at t i) ≡ Some None → ⊥

module _ {S : Type 0} where
  tree_same : (t u : Table S) → ((i : ℕ) → kin (at u i) ≡ kin (at t i)) → IsTree t → IsTree u
  tree_same t u same a = record { depth = a.depth; init = a.init; lower = λ i q is. a.lower i q (sym (same i) ∙ is); known = λ i ne is. a.known i ne (sym (same i) ∙ is) }

  kin_set : (t : Table S) (pid : ℕ) (f : Slot S → Slot S) → f None ≡ None → ((x : Slot S) → kin (f x) ≡ kin x) → (i : ℕ) → kin (at (set t pid (f (at t pid))) i) ≡ kin (at t i)
  kin_set t pid f none same i = by (cases_eq i pid) where
    by : (i ≡ pid) ⊎ (i ≢ pid) → kin (at (set t pid (f (at t pid))) i) ≡ kin (at t i)
    by (inl is) = let P : ℕ → Type 0 = λ j. kin (at (set t pid (f (at t pid))) j) ≡ kin (at t j) in subst P (sym is) (ap kin (written f none t pid) ∙ same (at t pid))
    by (inr ne) = ap kin (kept t pid i (f (at t pid)) ne)

  -- a child of pid becomes init's
  tree_given : (p : ℕ) (t u : Table S) → ((i : ℕ) → kin (at u i) ≡ after_exit p (kin (at t i))) → IsTree t → IsTree u
  tree_given p t u same a = record { depth = a.depth; init = a.init; lower = λ i q is. low i q (kin (at t i)) refl (sym (same i) ∙ is); known = λ i ne is. know i ne (kin (at t i)) refl (sym (same i) ∙ is) } where
    low : (i q : ℕ) (o : Option (Option ℕ)) → kin (at t i) ≡ o → after_exit p o ≡ Some (Some q) → a.depth q < a.depth i
    low i q None was is = absurd (let z : ⊥ = cc in z)
    low i q (Some None) was is = absurd (let z : ⊥ = cc in z)
    low i q (Some (Some r)) was is = by (p == r) is where
      by : (b : Bool) → Some (if◌then◌else◌ {A = Option ℕ} b (Some 0) (Some r)) ≡ Some (Some q) → a.depth q < a.depth i
      by true it = let zero_is : 0 ≡ q = cc in let less = a.lower i r was in omega (arith, less, ap a.depth (sym zero_is), a.init)
      by false it = let same_is : r ≡ q = cc in subst (λ (n : ℕ). a.depth n < a.depth i) same_is (a.lower i r was)

    know : (i : ℕ) → i ≢ 0 → (o : Option (Option ℕ)) → kin (at t i) ≡ o → after_exit p o ≡ Some None → ⊥
    know i ne None was is = let z : ⊥ = cc in z
    know i ne (Some None) was is = a.known i ne was
    know i ne (Some (Some r)) was is = by (p == r) is where
      by : (b : Bool) → Some (if◌then◌else◌ {A = Option ℕ} b (Some 0) (Some r)) ≡ Some None → ⊥
      by true it = let z : ⊥ = cc in z
      by false it = let z : ⊥ = cc in z

  tree_freed : (t : Table S) (c : ℕ) → IsTree t → IsTree (set t c None)
  tree_freed t c a = record { depth = a.depth; init = a.init; lower = λ i q is. a.lower i q (was i (Some q) is); known = λ i ne is. a.known i ne (was i None is) } where
    was : (i : ℕ) (o : Option ℕ) → kin (at (set t c None) i) ≡ Some o → kin (at t i) ≡ Some o
    was i o is = by (slot_cases t c i None) where
      by : (at (set t c None) i ≡ None) ⊎ (at (set t c None) i ≡ at t i) → kin (at t i) ≡ Some o
      by (inl now) = absurd (let no : None ≡ Some o = sym (ap kin now) ∙ is in let z : ⊥ = cc in z)
      by (inr same) = sym (ap kin same) ∙ is

  module _ (t : Table S) (c pid : ℕ) (m : S) (fds : Descriptors) (none : at t c ≡ None) (names : (i q : ℕ) → is_child_of q (at t i) ≡ true → Lives (at t q)) (init : Lives (at t 0)) (alive : Lives (at t pid)) (a : IsTree t) where
    abbrev new : Slot S
    new = Some (newborn pid m fds)

    lives_not_c : (i : ℕ) → Lives (at t i) → i ≢ c
    lives_not_c i l same = let no : true ≡ false = ap is_free (sym none) ∙ ap (λ (j : ℕ). is_free (at t j)) (sym same) ∙ l.used in let z : ⊥ = cc in z

    abbrev depth : ℕ → ℕ
    depth i = if◌then◌else◌ {A = ℕ} (i == c) (a.depth pid + 1) (a.depth i)

    depth_own : depth c ≡ a.depth pid + 1
    depth_own = ap (λ (b : Bool). if◌then◌else◌ {A = ℕ} b (a.depth pid + 1) (a.depth c)) (eq-eqb c c refl)

    depth_other : (i : ℕ) → i ≢ c → depth i ≡ a.depth i
    depth_other i ne = ap (λ (b : Bool). if◌then◌else◌ {A = ℕ} b (a.depth pid + 1) (a.depth i)) (ne_eqb i c ne)

    low : (i q : ℕ) → (i ≡ c) ⊎ (i ≢ c) → (at (set t c new) i ≡ new) ⊎ (at (set t c new) i ≡ at t i) → kin (at (set t c new) i) ≡ Some (Some q) → depth q < depth i
    low i q (inl same) (inl now) is =
        let both : Some (Some pid) ≡ Some (Some q) = sym (ap kin now) ∙ is in
        let own : pid ≡ q = cc in
        omega (arith, ap depth own, depth_other pid (lives_not_c pid alive), ap depth same, depth_own)
    low i q (inl same) (inr old) is = absurd (let no : None ≡ Some (Some q) = ap kin (sym none) ∙ ap (λ (j : ℕ). kin (at t j)) (sym same) ∙ sym (ap kin old) ∙ is in let z : ⊥ = cc in z)
    low i q (inr ne) now is =
        let was : kin (at t i) ≡ Some (Some q) = sym (ap kin (kept t c i new ne)) ∙ is in
        let q_not_c : q ≢ c = lives_not_c q (names i q (kin_child q (at t i) was)) in
        omega (arith, depth_other i ne, depth_other q q_not_c, a.lower i q was)

    know : (i : ℕ) → i ≢ 0 → (at (set t c new) i ≡ new) ⊎ (at (set t c new) i ≡ at t i) → kin (at (set t c new) i) ≡ Some None → ⊥
    know i ne (inl now) is = let no : Some (Some pid) ≡ Some None = sym (ap kin now) ∙ is in let z : ⊥ = cc in z
    know i ne (inr old) is = a.known i ne (sym (ap kin old) ∙ is)

    tree_fork : IsTree (set t c new)
    tree_fork =
        record {
          depth = depth;
          init = depth_other 0 (lives_not_c 0 init) ∙ a.init;
          lower = λ i q is. low i q (cases_eq i c) (slot_cases t c i new) is;
          known = λ i ne is. know i ne (slot_cases t c i new) is;
        }

  -- ---- init has a child

  module _ (t : Table S) (a : IsTree t) (names : (i q : ℕ) → is_child_of q (at t i) ≡ true → Lives (at t q)) where
    abbrev Child : Type 0
    Child = (j : ℕ) × (is_child_of 0 (at t j) ≡ true)

    abbrev Climbs : ℕ → Type 0
    Climbs n = (i : ℕ) → a.depth i < n → i ≢ 0 → is_free (at t i) ≡ false → Child

    step : (n : ℕ) → Climbs n → (i : ℕ) → a.depth i ≤ n → i ≢ 0 → is_free (at t i) ≡ false → Child
    step n rec i le ne used = by (at t i) refl used where
      on : (q : ℕ) → kin (at t i) ≡ Some (Some q) → (q ≡ 0) ⊎ (q ≢ 0) → Child
      on q is (inl init) = (i, kin_child 0 (at t i) (is ∙ ap (λ (r : ℕ). Some (Some r)) init))
      on q is (inr far) = rec q (let less = a.lower i q is in omega (arith, le, less)) far (names i q (kin_child q (at t i) is)).used

      own : (o : Option ℕ) → kin (at t i) ≡ Some o → Child
      own None is = absurd (a.known i ne is)
      own (Some q) is = on q is (cases_eq q 0)

      by : (x : Slot S) → at t i ≡ x → is_free x ≡ false → Child
      by None is free = absurd (let z : ⊥ = cc in z)
      by (Some y) is free = own y.parent (ap kin is)

    climb : (n : ℕ) → Climbs n
    climb zero i less ne used = absurd (omega (arith, less))
    climb (suc n) i less ne used = step n (climb n) i (omega (arith, less)) ne used

    pub init_has_child : (p : ℕ) → p ≢ 0 → is_free (at t p) ≡ false → (i : ℕ) × (some_child t 0 ≡ Some i)
    init_has_child p ne used = by (some_child t 0) refl where
      by : (o : Option ℕ) → some_child t 0 ≡ o → (i : ℕ) × (some_child t 0 ≡ Some i)
      by (Some i) is = (i, is)
      by None none =
          let it = climb (a.depth p + 1) p (omega arith) ne used in
          let no : true ≡ false = sym it.1 ∙ none_at (is_child_of 0) refl t none it.0 in
          absurd (let z : ⊥ = cc in z)

-- ---- what was put

module _ {S : Type 0} (call : S → Reply → Call) where
  -- a call of which so many bytes were put: none, or it is a write
  abbrev HasPut : Call → ℕ → Type 0
  HasPut made put = (put ≡ 0) ⊎ ((fd : ℕ) × (b : Bytes) × (made ≡ Write fd b))

  abbrev Put : Slot S → Type 0
  Put None = Unit {0}
  Put (Some y) = HasPut (call y.machine y.reply) y.put

  abbrev Makes : Call → Slot S → Type 0
  Makes made None = Unit {0}
  Makes made (Some y) = call y.machine y.reply ≡ made

  put_ready : (m : S) (r : Reply) (x : Slot S) → Put (made_ready m r x)
  put_ready m r None = tt
  put_ready m r (Some y) = inl refl

  put_sleep : (c : Channel) (put : ℕ) (made : Call) (x : Slot S) → Makes made x → HasPut made put → Put (put_to_sleep c put x)
  put_sleep c put made None own has = tt
  put_sleep c put made (Some y) own has = subst (λ (m : Call). HasPut m put) (sym own) has

  put_fds : (fds : Descriptors) (x : Slot S) → Put x → Put (with_fds fds x)
  put_fds fds None h = tt
  put_fds fds (Some y) h = h

  put_status : (s : Status) (x : Slot S) → Put x → Put (with_status s x)
  put_status s None h = tt
  put_status s (Some y) h = h

  put_woken : (c : Channel) (x : Slot S) → Put x → Put (woken c x)
  put_woken c None h = tt
  put_woken c (Some y) h = h

  put_given : (p : ℕ) (x : Slot S) → Put x → Put (given p x)
  put_given p None h = tt
  put_given p (Some y) h = h

  -- ---- the table

  pub record Good (t : Table S) : Type 0 where
    pub tree : IsTree t
    pub puts : (i : ℕ) → Put (at t i)

  put_set : (t : Table S) (c : ℕ) (x : Slot S) → Put x → ((i : ℕ) → Put (at t i)) → (i : ℕ) → Put (at (set t c x) i)
  put_set t c x h all i = by (slot_cases t c i x) where
    by : (at (set t c x) i ≡ x) ⊎ (at (set t c x) i ≡ at t i) → Put (at (set t c x) i)
    by (inl now) = subst (λ (y : Slot S). Put y) (sym now) h
    by (inr old) = subst (λ (y : Slot S). Put y) (sym old) (all i)

  good_set : (t : Table S) (pid : ℕ) (f : Slot S → Slot S) → f None ≡ None → ((x : Slot S) → kin (f x) ≡ kin x) → Put (f (at t pid)) → Good t → Good (set t pid (f (at t pid)))
  good_set t pid f none same put g =
      record { tree = tree_same t (set t pid (f (at t pid))) (kin_set t pid f none same) g.tree; puts = put_set t pid (f (at t pid)) put g.puts }

  good_map : (t : Table S) (f : Slot S → Slot S) → f None ≡ None → ((x : Slot S) → kin (f x) ≡ kin x) → ((x : Slot S) → Put x → Put (f x)) → Good t → Good (map f t)
  good_map t f none same put g =
      record {
        tree = tree_same t (map f t) (λ i. ap kin (mapped f none t i) ∙ same (at t i)) g.tree;
        puts = λ i. subst (λ (y : Slot S). Put y) (sym (mapped f none t i)) (put (at t i) (g.puts i));
      }

  good_woken : (t : Table S) (c : Channel) → Good t → Good (all_woken c t)
  good_woken t c g = good_map t (woken c) refl (kin_woken c) (put_woken c) g

  module _ (pid : ℕ) where
    good_fds : (t : Table S) (fds : Descriptors) → Good t → Good (set t pid (with_fds fds (at t pid)))
    good_fds t fds g = good_set t pid (with_fds fds) refl (kin_fds fds) (put_fds fds (at t pid) (g.puts pid)) g

    good_ready : (t : Table S) (m : S) (r : Reply) → Good t → Good (set t pid (made_ready m r (at t pid)))
    good_ready t m r g = good_set t pid (made_ready m r) refl (kin_ready m r) (put_ready m r (at t pid)) g

    good_status : (t : Table S) (s : Status) → Good t → Good (set t pid (with_status s (at t pid)))
    good_status t s g = good_set t pid (with_status s) refl (kin_status s) (put_status s (at t pid) (g.puts pid)) g

    good_exit_by : (b : Bool) (t : Table S) → Good t → Good (if b then all_woken (Children 0) t else t)
    good_exit_by true t g = good_woken t (Children 0) g
    good_exit_by false t g = g

    good_exited : (t : Table S) → Good t → Good (exited t pid)
    good_exited t g =
        let m : Table S = map (given pid) t in
        let given_all : Good m = record {
          tree = tree_given pid t m (λ i. ap kin (mapped (given pid) refl t i) ∙ kin_given pid (at t i)) g.tree;
          puts = λ i. subst (λ (y : Slot S). Put y) (sym (mapped (given pid) refl t i)) (put_given pid (at t i) (g.puts i));
        } in
        good_exit_by (is_some (zombie_child t pid)) (all_woken (Children (parent_of (at t pid))) (buried t pid))
        (good_woken (buried t pid) (Children (parent_of (at t pid))) (good_status m Zombie given_all))

    good_freed : (t : Table S) (o : Option ℕ) → Good t → Good (freed t o)
    good_freed t None g = g
    good_freed t (Some c) g = record { tree = tree_freed t c g.tree; puts = put_set t c None tt g.puts }

    abbrev GoodIn : KernelState S → Type 0
    GoodIn k = Good k.table

    let_go_good : (k : KernelState S) (object : Object) → GoodIn k → GoodIn (let_go k object)
    let_go_good k Input g = g
    let_go_good k Out g = g
    let_go_good k Diag g = g
    let_go_good k (File name mode) g = g
    let_go_good k (PipeRead id) g = good_woken k.table (PipeRoom id) g
    let_go_good k (PipeWrite id) g = good_woken k.table (PipeBytes id) g

    let_go_of_good : (k : KernelState S) (r : Result (Option Object) FdFault) → GoodIn k → GoodIn (let_go_of k r)
    let_go_of_good k (Err fault) g = g
    let_go_of_good k (Ok None) g = g
    let_go_of_good k (Ok (Some object)) g = let_go_good k object g

    closed_good : (k : KernelState S) (fd : ℕ) → GoodIn k → GoodIn (closed k pid fd)
    closed_good k fd g =
        let o = entry_of (fds_at k pid) fd in
        let_go_of_good (taken_away k pid fd o) (close_answer k.entries o) (good_fds k.table _ g)

    below_good : (k : KernelState S) (n : ℕ) → GoodIn k → GoodIn (closed_below k pid n)
    unfolding closed_below
    below_good k zero g = g
    below_good k (suc n) g = closed_good (closed_below k pid n) n (below_good k n g)

    opened_good : (k : KernelState S) (object : Object) (o : Option ℕ) → GoodIn k → GoodIn (opened_at k pid object o)
    opened_good k object None g = g
    opened_good k object (Some e) g = good_fds k.table _ g

    open_good : (k : KernelState S) (object : Object) → GoodIn k → GoodIn (with_open k pid object)
    open_good k object g = opened_good k object (lowest_free_entry k.entries) g

    ends_good : (k : KernelState S) (id : ℕ) → GoodIn k → GoodIn (with_ends k pid id)
    ends_good k id g = open_good (with_reader k pid id) (PipeWrite id) (open_good (record k { pipes = _ }) (PipeRead id) g)

    module _ (k : KernelState S) (after : S) (made : Call) (new : KernelState S) (g : GoodIn k) (own : Makes made (at k.table pid)) (mid : Mid k.table pid) where
      so : (j : KernelState S) → new ≡ j → GoodIn j → GoodIn new
      so j same is = subst (λ (m : KernelState S). GoodIn m) (sym same) is

      ready : (t : Table S) (r : Reply) → Good t → Good (set t pid (made_ready after r (at t pid)))
      ready t r is = good_ready t after r is

      asleep : (c : Channel) (put : ℕ) → HasPut made put → Good (set k.table pid (put_to_sleep c put (at k.table pid)))
      asleep c put has = good_set k.table pid (put_to_sleep c put) refl (kin_sleep c put) (put_sleep c put made (at k.table pid) own has) g

      forked_good : (child : ℕ) (m : S) (fds : Descriptors) → at k.table child ≡ None → Good (set k.table child (Some (newborn pid m fds)))
      forked_good child m fds none =
          record { tree = tree_fork k.table child pid m fds none mid.names.parents mid.init mid.alive g.tree; puts = put_set k.table child (Some (newborn pid m fds)) (inl refl) g.puts }

      outcome_good : Outcome k pid after made new → GoodIn new
      outcome_good (refused e) = so _ e (ready _ _ g)
      outcome_good (lacks full e) = so _ e (ready _ _ g)
      outcome_good (forks child c found e) = so _ e (ready _ _ (forked_good child after (fds_at k pid) (was_free k.table child found)))
      outcome_good (runs c e) = so _ e (ready _ _ g)
      outcome_good (exits c ne e) = so _ e (good_exited _ (below_good k DESCRIPTORS g))
      outcome_good (reaps child c found e) = so _ e (ready _ _ (good_freed k.table (zombie_child k.table pid) g))
      outcome_good (waits child c none some e) = so _ e (asleep (Children pid) 0 (inl refl))
      outcome_good (opens name mode fd c e) = so _ e (ready _ _ (open_good k _ g))
      outcome_good (opens_empty name mode fd c e) = so _ e (ready _ _ (open_good _ _ g))
      outcome_good (closes fd c e) = so _ e (ready _ _ (closed_good k fd g))
      outcome_good (dups fd entry place c there free e) = so _ e (ready _ _ (good_fds _ _ g))
      outcome_good (pipes reader writer c room e) = so _ e (ready _ _ (ends_good k k.events g))
      outcome_good (reads_input n r e) = so _ e (ready _ _ g)
      outcome_good (reads_file name mode entry n got r e) = so _ e (ready _ _ g)
      outcome_good (takes id n o r there some e) = so _ e (good_woken _ (PipeRoom id) (ready _ _ g))
      outcome_good (waits_for_bytes id o r there none open_too e) = so _ e (asleep (PipeBytes id) 0 (inl refl))
      outcome_good (meets_end id o r there none over e) = so _ e (ready _ _ g)
      outcome_good (tells b w e) = so _ e (ready _ _ g)
      outcome_good (complains b w e) = so _ e (ready _ _ g)
      outcome_good (writes_over name mode entry b bytes w e) = so _ e (ready _ _ g)
      outcome_good (appends name mode entry b bytes w e) = so _ e (ready _ _ g)
      outcome_good (puts_all id o b w there part e) = so _ e (good_woken _ (PipeBytes id) (ready _ _ g))
      outcome_good (puts_part id n o b w there reader space some short e) = so _ e (good_woken _ (PipeBytes id) (asleep (PipeRoom id) _ (inr (w.0, b, w.1))))

  -- ---- turns

  boot_good : (init shell : S) (input : Bytes) (list : List (Name × Bytes)) → Good (boot_kernel init shell input list).table
  boot_good init shell input list = record { tree = record { depth = λ i. i; init = refl; lower = low; known = know }; puts = puts } where
    t : Table S
    t = (boot_kernel init shell input list).table

    low : (i q : ℕ) → kin (at (boot_kernel init shell input list).table i) ≡ Some (Some q) → q < i
    low zero q is = absurd (let z : ⊥ = cc in z)
    low (suc zero) q is = let first : 0 ≡ q = cc in omega (arith, first)
    low (suc (suc i)) q is = absurd (let no : None ≡ Some (Some q) = sym (ap kin (past_two S 62 i)) ∙ is in let z : ⊥ = cc in z)

    know : (i : ℕ) → i ≢ 0 → kin (at (boot_kernel init shell input list).table i) ≡ Some None → ⊥
    know zero ne is = ne refl
    know (suc zero) ne is = let z : ⊥ = cc in z
    know (suc (suc i)) ne is = let no : None ≡ Some None = sym (ap kin (past_two S 62 i)) ∙ is in let z : ⊥ = cc in z

    puts : (i : ℕ) → Put (at (boot_kernel init shell input list).table i)
    puts zero = inl refl
    puts (suc zero) = inl refl
    puts (suc (suc i)) = subst (λ (x : Slot S). Put x) (sym (past_two S 62 i)) tt

  module _ (next : S → Reply → S) where
    given_good : (k : KernelState S) (q : ℕ) → Good k.table → Good (counted (given_0 k q)).table
    given_good k q g = good_status q k.table (Running 0) g

    turn_good : (k now : KernelState S) (q : ℕ) → IsBegun call next k → Good k.table → after_turn call next k q ≡ Some now → Good now.table
    turn_good k now q b g is =
        let r = ready_slot (at k.table q) (could_turn call next k (record { pid = q; refused = false }) (now, is)) in
        let y : Process S = r.process in
        let both : Some (turned call next k q y false) ≡ Some now = sym (turn_is call next k q y (begun_still call next k b) r.there r.ready) ∙ is in
        let same : turned call next k q y false ≡ now = cc in
        let d : KernelState S = counted (given_0 k q) in
        let there : at d.table q ≡ Some (record y { status = Running 0 }) = written (with_status (Running 0)) refl k.table q ∙ ap (with_status (Running 0)) r.there in
        let own : Makes (call y.machine y.reply) (at d.table q) = subst (λ (x : Slot S). Makes (call y.machine y.reply) x) (sym there) refl in
        subst (λ (m : KernelState S). Good m.table) same
        (outcome_good q d (next y.machine y.reply) (call y.machine y.reply) (turned call next k q y false) (given_good k q g) own (begun_mid call next k q y b r.there r.ready) (every_call_ends d q (next y.machine y.reply) (call y.machine y.reply) false))

    turns_good : (k m : KernelState S) (pids : List ℕ) → IsBegun call next k → Good k.table → after_turns call next k pids ≡ Some m → Good m.table
    turns_good k m [] b g is = let same : k ≡ m = cc in subst (λ (j : KernelState S). Good j.table) same g
    turns_good k m (p ∷ pids) b g is = by (after_turn call next k p) refl (λ j. turns_good j m pids) is where
      by : (o : Option (KernelState S)) → after_turn call next k p ≡ o → ((j : KernelState S) → IsBegun call next j → Good j.table → after_turns call next j pids ≡ Some m → Good m.table) → by_turns call next o (quiet_turns pids) ≡ Some m → Good m.table
      by None first on rest = absurd (no_run call next (turn_events (quiet_turns pids)) (turn_notes (quiet_turns pids)) m rest)
      by (Some j) first on rest = on j (begun_on call next k j (p ∷ []) b first) (turn_good k j p b g first) rest

    module _ (k : KernelState S) (b : IsBegun call next k) where
      pub good : Good k.table
      good =
          let boot = boot_kernel b.init b.shell b.input b.files in
          let begun : IsBegun call next boot = record { init = b.init; shell = b.shell; input = b.input; files = b.files; are = b.are; pids = []; turns = refl } in
          turns_good boot k b.pids begun (boot_good b.init b.shell b.input b.files) b.turns

      -- whoever waits next has put nothing
      pub waiters_put_nothing : (q : ℕ) (y : Process S) → at k.table q ≡ Some y → call y.machine y.reply ≡ Wait → y.put ≡ 0
      waiters_put_nothing q y there waits_next = by (subst (λ (x : Slot S). Put x) there (good.puts q)) where
        by : HasPut (call y.machine y.reply) y.put → y.put ≡ 0
        by (inl none) = none
        by (inr w) = let no : Write w.0 w.1 ≡ Wait = sym w.2 ∙ waits_next in absurd (let z : ⊥ = cc in z)

      -- init has a child while another process is there
      pub rooted : (q p : ℕ) (y x : Process S) → at k.table q ≡ Some y → y.status ≡ Runnable → at (counted (given_0 k q)).table p ≡ Some x → p ≢ 0 → (i : ℕ) × (some_child (counted (given_0 k q)).table 0 ≡ Some i)
      rooted q p y x there ready is child =
          let mid = begun_mid call next k q y b there (ap is_runnable_status ready) in
          init_has_child (counted (given_0 k q)).table (given_good k q good).tree mid.names.parents p child (ap is_free is)
