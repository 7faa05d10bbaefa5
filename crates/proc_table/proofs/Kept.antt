-- What is searched goes with the slots, whatever is written into one of them.
use Rattle.std.proofs.Common.{◌≡◌, ◌≢◌, ◌≤◌, ℕ, zero, suc, ◌+◌, ◌<◌, List, [], ◌∷◌, Bool, true, false, Option, Some, None, length, get_or, refl, sym, ap, subst, ◌∙◌, arith}
use Rattle.std.proofs.Math.ListN.{set, length-set}
use Rattle.std.proofs.Math.Seq.{map-set_same}
use Rattle.std.proofs.lemmas.List.{map-set, get_or_default}
use Rattle.std.proofs.lemmas.List.Sums.{sum_by-cons}
use Rattle.std.proofs.lemmas.Bool.{ltb-false, ne_eqb}
use Rattle.std.specs.List.{position_or_len}
use Rattle.std.specs.Prelude.{cond, map, count_by, is_some, nat_lt, not, position, if◌then◌else◌}
use Rattle.proc_table.specs.declared.heads.Head.{Head}
use Rattle.proc_table.specs.declared.states.Channel.{Channel}
use Rattle.proc_table.specs.declared.states.Status.{Status}
use Rattle.proc_table.specs.declared.states.Status.TheVariants.{Runnable}
use Rattle.proc_table.specs.Slots.{Process, Slot, Table, at, has_status, is_asleep_on, is_asleep_on_status, is_child_of, is_number}
use Rattle.proc_table.specs.Calls.{all_woken, given, some_child, status_set, with_fds, with_status, woken}
use Rattle.proc_table.specs.Heads.{AreHeads, head_at, head_has, head_of, to_init, with_parent}
use Rattle.fd_table.specs.Descriptors.{Descriptors}
use Rattle.fd_table.proofs.Lists.{position_found}
use Rattle.proc_table.proofs.Changes.{if_same}
use Rattle.proc_table.proofs.Counts.{set_counts, used_within}
use Rattle.proc_table.proofs.Searched.{head_there, status_there}

pub set_kept : {S : Type 0} (t : Table S) (heads : List (Option Head)) (index : ℕ) (x : Slot S) → AreHeads t heads → AreHeads (set t index x) (set heads index (head_of x))
set_kept t heads index x kept =
    record {
      all = length-set t index x ∙ kept.all;
      theirs = ap (λ (hs : List (Option Head)). set hs index (head_of x)) kept.theirs ∙ sym (map-set head_of t index x);
    }

-- a slot is written, and its head
pub written_kept : {S : Type 0} (t : Table S) (heads after : List (Option Head)) (index place : ℕ) (x : Slot S) (head : Option Head)
    → AreHeads t heads → after ≡ set heads place head → place ≡ index → head ≡ head_of x → AreHeads (set t index x) after
written_kept t heads after index place x head kept is same its =
    subst (λ (hs : List (Option Head)). AreHeads (set t index x) hs)
    (sym (is ∙ ap (λ (n : ℕ). set heads n head) same ∙ ap (set heads index) its))
    (set_kept t heads index x kept)

-- a process is given to another, and its head
pub given_kept : {S : Type 0} (t : Table S) (heads : List (Option Head)) (index parent : ℕ) (x now : Process S) → AreHeads t heads → at t index ≡ Some x
    → (n : ℕ) → parent ≡ n → now ≡ record x { parent = Some n } → AreHeads (set t index (Some now)) (set heads index (with_parent parent (head_at heads index)))
given_kept t heads index parent x now kept is n parent_is now_is =
    let there : head_at heads index ≡ head_of (Some x) = ap (λ (hs : List (Option Head)). head_at hs index) kept.theirs ∙ head_there t index ∙ ap head_of is in
    let same : head_of (Some now) ≡ with_parent parent (head_at heads index) = ap (λ (p : Process _). head_of (Some p)) now_is ∙ (λ i. with_parent (sym parent_is i) (sym there i)) in
    subst (λ (head : Option Head). AreHeads (set t index (Some now)) (set heads index head)) same (set_kept t heads index (Some now) kept)

fds_head : {S : Type 0} (fds : Descriptors) (x : Slot S) → head_of (with_fds fds x) ≡ head_of x
fds_head fds None = refl
fds_head fds (Some p) = refl

-- descriptors aren't searched
pub fds_kept : {S : Type 0} (t : Table S) (heads : List (Option Head)) (index : ℕ) (x : Slot S) (fds : Descriptors)
    → AreHeads t heads → index < 64 → x ≡ get_or t index x → AreHeads (set t index (with_fds fds x)) heads
fds_kept t heads index x fds kept lt is =
    let same : head_of (with_fds fds x) ≡ head_of (at t index) = fds_head fds x ∙ ap head_of (is ∙ get_or_default t index x None (omega (arith, kept.all))) in
    record {
      all = length-set t index (with_fds fds x) ∙ kept.all;
      theirs = kept.theirs ∙ sym (map-set_same head_of t index (with_fds fds x) None same);
    }

-- no slot has a status that no head has
pub none_there : {S : Type 0} (test : Status → Bool) (t : Table S) (heads : List (Option Head)) → AreHeads t heads
    → ((index : ℕ) → head_has test (head_at heads index) ≡ false) → (pid : ℕ) → has_status test (at t pid) ≡ false
none_there test t heads kept none pid =
    sym (status_there test t pid) ∙ ap (λ (hs : List (Option Head)). head_has test (head_at hs pid)) (sym kept.theirs) ∙ none pid

pub none_of_all : {S : Type 0} (test : Status → Bool) (t : Table S) → ((pid : ℕ) → has_status test (at t pid) ≡ false)
    → (k : ℕ) (d : Slot S) → k < length t → has_status test (get_or t k d) ≡ false
none_of_all test t none k d lt = ap (has_status test) (get_or_default t k d None lt) ∙ none k

-- ---- wake-ups, one by one

pub awake : {S : Type 0} (channel : Channel) (t : Table S) → ((pid : ℕ) → is_asleep_on channel (at t pid) ≡ false) → all_woken channel t ≡ t
awake channel [] none = refl
awake channel (None ∷ t) none = ap (λ (rest : Table _). None ∷ rest) (awake channel t (λ pid. none (suc pid)))
awake channel (Some p ∷ t) none =
    let stays : woken channel (Some p) ≡ Some p = ap (λ (b : Bool). with_status (if b then Runnable else p.status) (Some p)) (none 0) in
    ap (λ (x : Slot _). x ∷ all_woken channel t) stays ∙ ap (λ (rest : Table _). Some p ∷ rest) (awake channel t (λ pid. none (suc pid)))

pub none_asleep : {S : Type 0} (channel : Channel) (t : Table S) → ((pid : ℕ) → is_asleep_on channel (at t pid) ≡ false) → count_by (is_asleep_on channel) t ≡ 0
none_asleep channel [] none = refl
none_asleep channel (x ∷ t) none =
    let rest = none_asleep channel t (λ pid. none (suc pid)) in
    omega (arith, sum_by-cons (λ y. cond {A = ℕ} (is_asleep_on channel y) 1 0) x t, ap (λ (b : Bool). cond {A = ℕ} b 1 0) (none 0))

woken_first : {S : Type 0} (channel : Channel) (x : Slot S) → is_asleep_on channel x ≡ true → woken channel (with_status Runnable x) ≡ woken channel x
woken_first channel None is = refl
woken_first channel (Some p) is = sym (ap (λ (b : Bool). with_status (if b then Runnable else p.status) (Some p)) is)

pub one_woken : {S : Type 0} (channel : Channel) (t : Table S) (pid : ℕ) → is_asleep_on channel (at t pid) ≡ true → all_woken channel (status_set t pid Runnable) ≡ all_woken channel t
one_woken channel t pid is = map-set_same (woken channel) t pid (with_status Runnable (at t pid)) None (woken_first channel (at t pid) is)

asleep_used : {S : Type 0} (test : Status → Bool) (x : Slot S) → has_status test x ≡ true → (p : Process S) × (x ≡ Some p)
asleep_used test None is = absurd (let no : ⊥ = cc in no)
asleep_used test (Some p) is = (p, refl)

runs_now : {S : Type 0} (channel : Channel) (x : Slot S) → is_asleep_on channel (with_status Runnable x) ≡ false
runs_now channel None = refl
runs_now channel (Some p) = refl

pub one_fewer : {S : Type 0} (channel : Channel) (t : Table S) (pid : ℕ) → is_asleep_on channel (at t pid) ≡ true → count_by (is_asleep_on channel) (status_set t pid Runnable) + 1 ≡ count_by (is_asleep_on channel) t
one_fewer channel t pid is =
    let used = asleep_used (is_asleep_on_status channel) (at t pid) is in
    let counts = set_counts (is_asleep_on channel) t pid (with_status Runnable (at t pid)) true false (used_within t pid used.0 used.1) is (runs_now channel (at t pid)) in
    omega arith

-- ---- children, one by one

pub not_given : {S : Type 0} (pid : ℕ) (t : Table S) → ((k : ℕ) → is_child_of pid (at t k) ≡ false) → map (given pid) t ≡ t
not_given pid [] none = refl
not_given pid (None ∷ t) none = ap (λ (rest : Table _). None ∷ rest) (not_given pid t (λ k. none (suc k)))
not_given pid (Some p ∷ t) none =
    let stays : given pid (Some p) ≡ Some p = ap (λ (b : Bool). Some (record p { parent = if b then Some 0 else p.parent })) (none 0) in
    ap (λ (x : Slot _). x ∷ map (given pid) t) stays ∙ ap (λ (rest : Table _). Some p ∷ rest) (not_given pid t (λ k. none (suc k)))

given_first : {S : Type 0} (pid : ℕ) (x : Slot S) → is_child_of pid x ≡ true → given pid (to_init x) ≡ given pid x
given_first pid None is = refl
given_first pid (Some p) is =
    ap (λ (parent : Option ℕ). Some (record p { parent = parent })) (if_same (is_number pid (Some 0)) (Some 0) (Some 0) (Some 0) refl refl)
    ∙ sym (ap (λ (b : Bool). Some (record p { parent = if b then Some 0 else p.parent })) is)

pub one_given : {S : Type 0} (pid : ℕ) (t : Table S) (child : ℕ) → some_child t pid ≡ Some child → map (given pid) (set t child (to_init (at t child))) ≡ map (given pid) t
one_given pid t child found = map-set_same (given pid) t child (to_init (at t child)) None (given_first pid (at t child) (position_found (is_child_of pid) t None child found).1)

of_init : {S : Type 0} (pid : ℕ) (x : Slot S) → pid ≢ 0 → is_child_of pid (to_init x) ≡ false
of_init pid None ne = refl
of_init pid (Some p) ne = ne_eqb pid 0 ne

pub fewer_children : {S : Type 0} (pid : ℕ) (t : Table S) (child : ℕ) → pid ≢ 0 → some_child t pid ≡ Some child
    → count_by (is_child_of pid) (set t child (to_init (at t child))) < count_by (is_child_of pid) t
fewer_children pid t child ne found =
    let is = position_found (is_child_of pid) t None child found in
    let counts = set_counts (is_child_of pid) t child (to_init (at t child)) true false is.0 is.1 (of_init pid (at t child) ne) in
    omega arith

all_fail : {X : Type 0} (p : X → Bool) (xs : List X) (d : X) → p d ≡ false → length xs ≤ position_or_len p xs → (k : ℕ) → p (get_or xs k d) ≡ false
all_fail p [] d none long k = none
all_fail p (x ∷ xs) d none long k = by (p x) refl (all_fail p xs d none) k where
  by : (b : Bool) → p x ≡ b → (length xs ≤ position_or_len p xs → (k : ℕ) → p (get_or xs k d) ≡ false) → (k : ℕ) → p (get_or (x ∷ xs) k d) ≡ false
  by true is rest k = absurd (let low : position_or_len p (x ∷ xs) ≡ 0 = ap (λ (b : Bool). cond (not b) (1 + position_or_len p xs) 0) is in omega arith)
  by false is rest zero = is
  by false is rest (suc k) =
      let next : position_or_len p (x ∷ xs) ≡ 1 + position_or_len p xs = ap (λ (b : Bool). cond (not b) (1 + position_or_len p xs) 0) is in
      rest (omega arith) k

none_first : {X : Type 0} (p : X → Bool) (xs : List X) (b : Bool) → nat_lt (position_or_len p xs) (length xs) ≡ b
    → cond b (Some (position_or_len p xs)) None ≡ None → length xs ≤ position_or_len p xs
none_first p xs true test none = absurd (let no : ⊥ = cc in no)
none_first p xs false test none = ltb-false (position_or_len p xs) (length xs) test

pub nothing : {X : Type 0} (found : Option X) → is_some found ≡ false → found ≡ None
nothing None is = refl
nothing (Some x) is = absurd (let no : ⊥ = cc in no)

-- where no element passes a test, and the default doesn't either, nothing that is read does
pub none_passes : {X : Type 0} (p : X → Bool) (xs : List X) (d : X) → p d ≡ false → position p xs ≡ None → (k : ℕ) → p (get_or xs k d) ≡ false
none_passes p xs d off none = all_fail p xs d off (none_first p xs (nat_lt (position_or_len p xs) (length xs)) refl none)

pub no_children : {S : Type 0} (pid : ℕ) (t : Table S) → some_child t pid ≡ None → map (given pid) t ≡ t
no_children pid t none =
    not_given pid t (none_passes (is_child_of pid) t None refl none)
