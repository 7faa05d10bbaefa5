-- Slots that are kept.
use Rattle.std.proofs.Common.{◌≡◌, ◌≢◌, ◌⊎◌, inl, inr, take, ℕ, zero, suc, ◌+◌, ◌<◌, ◌≤◌, List, [], ◌∷◌, Bool, true, false, Some, None, length, get_or, refl, sym, ap, subst, ◌∙◌, arith, map}
use Rattle.std.specs.declared.rc.Rc.{Rc}
use Rattle.std.specs.Prelude.{Option, Result, Ok, not, IfSome, IsSome, is_some, SomeIff, nat_eq, nat_lt, replicate}
use Rattle.std.specs.Option.{is_some as some_in}
use Rattle.std.proofs.lemmas.Bool.{cases_eq, eqb-true, ltb-true, ltb-false}
use Rattle.user_calls.specs.declared.calls.Call.{Call}
use Rattle.user_calls.specs.declared.calls.Call.TheVariants.{Fork, Exit, Wait}
use Rattle.user_calls.specs.declared.calls.Reply.{Reply}
use Rattle.fd_table.specs.Descriptors.{Descriptors, entry_of}
use Rattle.proc_table.specs.Slots.{Process, Slot, Table, at}
use Rattle.kernel_model.specs.Anyhow.{bare_slot}
use Rattle.order_search.specs.declared.private.NextCall.{NextCall}
use Rattle.order_search.specs.declared.private.NextCall.TheVariants.{Private, Closes, Forks, Waits, Exits, Unknown}
use Rattle.order_search.specs.Shown.{filled, slot_of, AreApart, IsNextCall, IsReadyCall, IsClosingSlot, IsCallingSlot, IsOpenAs, IsNoReadEnd, HasNoWriteEnd}
use Rattle.fd_table.specs.declared.names.Object.{Object}
use Rattle.fd_table.specs.declared.names.Object.TheVariants.{Input, Out, Diag, File, PipeRead, PipeWrite}
use Rattle.fd_table.specs.Entries.{Entries, OpenFile, entry_at}
use Rattle.fd_table.specs.declared.descriptors.TheConstants.{DESCRIPTORS}
use Rattle.proc_table.specs.declared.states.Status.TheVariants.{Runnable}
use Rattle.kernel_model.specs.KernelState.{KernelState, fds_of, fds_at, file_at}
use Rattle.kernel_model.specs.Closes.{ClosesNext, IsClosedAtOnce, NobodyElseWrites}
use Rattle.kernel_model.specs.Giving.{ForksNext, ReapsNext, ExitsNext}
use Rattle.order_search.specs.Giving.{HasZombieChild, AreClosedAtOnce}
use Rattle.order_search.proofs.Filling.{at_filled}

module _ {S Z : Type 0} where
  kept_at : (xs : List (Option (Rc (Process S) Z))) (i : ℕ) (d : Option (Rc (Process S) Z)) → i < length xs → at (map slot_of xs) i ≡ slot_of (get_or xs i d)
  kept_at [] i d within = absurd (let z : ⊥ = omega (arith, within) in z)
  kept_at (x ∷ xs) zero d within = refl
  kept_at (x ∷ xs) (suc i) d within = kept_at xs i d (omega (arith, within))

  nothing_at : (xs : List (Option (Rc (Process S) Z))) (i : ℕ) → length xs ≤ i → at (map slot_of xs) i ≡ None
  nothing_at [] i past = refl
  nothing_at (x ∷ xs) zero past = absurd (let z : ⊥ = omega (arith, past) in z)
  nothing_at (x ∷ xs) (suc i) past = nothing_at xs i (omega (arith, past))

  pub at_kept : (xs : List (Option (Rc (Process S) Z))) (i : ℕ) (d : Option (Rc (Process S) Z)) → i < length xs → at (filled 64 (map slot_of xs)) i ≡ slot_of (get_or xs i d)
  at_kept xs i d within = at_filled 64 (map slot_of xs) i ∙ kept_at xs i d within

  pub past_kept : (xs : List (Option (Rc (Process S) Z))) (i : ℕ) → length xs ≤ i → at (filled 64 (map slot_of xs)) i ≡ None
  past_kept xs i past = at_filled 64 (map slot_of xs) i ∙ nothing_at xs i past

apart_by : {S : Type 0} (t : Table S) (i pid : ℕ) → ((q : ℕ) → q ≢ 0 → q < i → at t q ≡ None) → at t i ≡ None → pid ≢ 0 → pid < i + 1 → (pid ≡ i) ⊎ (pid ≢ i) → at t pid ≡ None
apart_by t i pid before here other less (inl is) = ap (λ (q : ℕ). at t q) is ∙ here
apart_by t i pid before here other less (inr ne) = before pid other (omega (arith, less, ne))

pub alone_next : {S : Type 0} (t : Table S) (i : ℕ) → ((q : ℕ) → q ≢ 0 → q < i → at t q ≡ None) → at t i ≡ None → (pid : ℕ) → pid ≢ 0 → pid < i + 1 → at t pid ≡ None
alone_next t i before here pid other less = apart_by t i pid before here other less (cases_eq pid i)

-- and past the last one nobody is
pub alone_past : {S : Type 0} (t : Table S) (n : ℕ) → ((q : ℕ) → q ≢ 0 → q < n → at t q ≡ None) → ((q : ℕ) → n ≤ q → at t q ≡ None) → (pid : ℕ) → pid ≢ 0 → at t pid ≡ None
alone_past t n before past pid other = by (nat_lt pid n) refl where
  by : (b : Bool) → nat_lt pid n ≡ b → at t pid ≡ None
  by true is = before pid other (ltb-true pid n is)
  by false is = past pid (ltb-false pid n is)

pub untaken : (n : ℕ) (xs : List ℕ) → (length (take n xs) ≡ n → ⊥) → take n xs ≡ xs
untaken zero xs ne = absurd (ne refl)
untaken (suc n) [] ne = refl
untaken (suc n) (x ∷ xs) ne = ap (λ (l : List ℕ). x ∷ l) (untaken n xs (λ is. ne (ap suc is)))

pub not_some : {X : Type 0} (o : Option X) → is_some o ≡ false → o ≡ None
not_some None is = refl
not_some (Some x) is = absurd (let z : ⊥ = cc in z)

pub none_if : {X : Type 0} (o : Option X) → (IsSome o → ⊥) → o ≡ None
none_if None out = refl
none_if (Some x) out = absurd (out refl)

pub never : (b : Bool) → b ≡ true → b ≡ false → ⊥
never b t f = let z : ⊥ = cc in z

pub some_not : {X : Type 0} (o : Option X) → IsSome o → o ≡ None → ⊥
some_not None some is = let z : ⊥ = cc in z
some_not (Some x) some is = let z : ⊥ = cc in z

pub some_value : {X : Type 0} (o : Option X) → some_in o ≡ true → (x : X) × (o ≡ Some x)
some_value None is = absurd (let z : ⊥ = cc in z)
some_value (Some x) is = (x, refl)

pub if_some_more : {X : Type 0} (o : Option X) (P Q : X → Type 0) → ((x : X) → P x → Q x) → IfSome o P → IfSome o Q
if_some_more None P Q more is = is
if_some_more (Some x) P Q more is = more x is

pub some_if_value : {X : Type 0} (o : Option X) (P : Type 0) (v w : X) → SomeIff o P v → v ≡ w → IfSome o (λ x. x ≡ w)
some_if_value None P v w some is = tt
some_if_value (Some x) P v w some is = some.1 ∙ is

pub not_said : {E : Type 0} (b : Bool) → ◌≡◌ {A = Result Bool E} (Ok (not b)) (Ok true) → b ≡ false
not_said true is = absurd (let z : ⊥ = cc in z)
not_said false is = refl

-- ---- slots but for who sleeps and for descriptors

at_bare : {S : Type 0} (t : Table S) (i : ℕ) → at (map bare_slot t) i ≡ bare_slot (at t i)
at_bare [] i = refl
at_bare (x ∷ t) zero = refl
at_bare (x ∷ t) (suc i) = at_bare t i

-- tables of which slots of one number differ, differ
pub apart_tables : {S : Type 0} (t u : Table S) → AreApart t u → map bare_slot (filled 64 t) ≡ map bare_slot (filled 64 u) → ⊥
apart_tables t u a same =
    a.1 (ap bare_slot (sym (at_filled 64 t a.0)) ∙ sym (at_bare (filled 64 t) a.0) ∙ ap (λ (v : Table _). at v a.0) same ∙ at_bare (filled 64 u) a.0 ∙ ap bare_slot (at_filled 64 u a.0))

pub same_number : (m n : ℕ) → nat_eq m n ≡ true → m ≡ n
same_number m n is = eqb-true m n is

-- ---- next calls

-- what is known of a next call is known of it whichever of equal values it is said of
pub calls_so : {S : Type 0} (of : S → Reply → Call) (fds places : Descriptors) (s t : S) (r q : Reply) (known : NextCall) → fds ≡ places → t ≡ s → q ≡ r → IsNextCall fds (of s r) known → IsNextCall places (of t q) known
calls_so {S} of fds places s t r q known held machine reply is =
    subst (λ (d : Call). IsNextCall places d known) (ap (λ (m : S). of m r) (sym machine) ∙ ap (of t) (sym reply)) (subst (λ (f : Descriptors). IsNextCall f (of s r) known) held is)

module _ {S : Type 0} (call : S → Reply → Call) where
  -- what is known of the next call of a Runnable process
  pub ready_known : (p : Process S) (known : NextCall) → p.status ≡ Runnable → IsNextCall p.fds (call p.machine p.reply) known → IsReadyCall call (Some p) known
  ready_known p Private ready is = record { process = p; is = refl; ready = ready; calls = is }
  ready_known p (Closes entry) ready is = record { process = p; is = refl; ready = ready; fd = is.0; calls = is.1; holds = is.2 }
  ready_known p Forks ready is = record { process = p; is = refl; ready = ready; calls = is }
  ready_known p Waits ready is = record { process = p; is = refl; ready = ready; calls = is }
  ready_known p Exits ready is = record { process = p; is = refl; ready = ready; calls = is }
  ready_known p Unknown ready is = tt

  -- a close of an object that is known is a close that can be made at once
  pub closes_known : (next : S → Reply → S) (k : KernelState S) (pid entry : ℕ) (kind : Object → Type 0) → IsClosingSlot call entry (at k.table pid) → IsOpenAs kind (entry_at k.entries entry) → ClosesNext call next kind k pid
  closes_known next k pid entry kind c has = by (entry_at k.entries entry) refl has where
    by : (o : Option OpenFile) → entry_at k.entries entry ≡ o → IsOpenAs kind o → ClosesNext call next kind k pid
    by None used of = absurd of
    by (Some f) used of = record { process = c.process; there = c.is; ready = c.ready; fd = c.fd; calls = c.calls; entry = entry; holds = c.holds; file = f; used = used; of = of }

  -- so is a fork, a wait of whom a zombie is a child, and an exit of whom can close at once what it holds
  pub forks_known : (k : KernelState S) (pid : ℕ) → IsCallingSlot call Fork (at k.table pid) → ForksNext call k pid
  forks_known k pid c = record { process = c.process; there = c.is; ready = c.ready; calls = c.calls }

  pub reaps_known : (next : S → Reply → S) (k : KernelState S) (pid : ℕ) → IsCallingSlot call Wait (at k.table pid) → HasZombieChild k.table pid → ReapsNext call next k pid
  reaps_known next k pid c child = record { process = c.process; there = c.is; ready = c.ready; calls = c.calls; zombie = child.0; dead = child.1 }

  pub exits_known : (next : S → Reply → S) (k : KernelState S) (pid : ℕ) → IsCallingSlot call Exit (at k.table pid) → AreClosedAtOnce k pid (fds_at k pid) → ExitsNext call next k pid
  exits_known next k pid c all =
      record {
        process = c.process;
        there = c.is;
        ready = c.ready;
        calls = c.calls;
        at_once = λ fd f held. all fd f (ap (λ (x : Slot S). file_at k.entries (entry_of (fds_of x) fd)) c.is ∙ held);
      }

-- ---- who writes to a pipe

pub unsaid : (b : Bool) → not b ≡ true → b ≡ false
unsaid true is = absurd (let z : ⊥ = cc in z)
unsaid false is = refl

-- what a close ends says whether it can be made at once
pub other_at_once : {S : Type 0} (k : KernelState S) (pid : ℕ) (object : Object) → IsNoReadEnd object → IsClosedAtOnce k pid object
other_at_once k pid Input other = tt
other_at_once k pid Out other = tt
other_at_once k pid Diag other = tt
other_at_once k pid (File name mode) other = tt
other_at_once k pid (PipeRead id) other = absurd other
other_at_once k pid (PipeWrite id) other = tt

pub open_more : (P Q : Object → Type 0) (x : Option OpenFile) → ((o : Object) → P o → Q o) → IsOpenAs P x → IsOpenAs Q x
open_more P Q None more is = is
open_more P Q (Some f) more is = more f.object is

pub reads_at_once : {S : Type 0} (k : KernelState S) (pid pipe : ℕ) → NobodyElseWrites k pipe pid → (object : Object) → object ≡ PipeRead pipe → IsClosedAtOnce k pid object
reads_at_once k pid pipe nobody object is = subst (IsClosedAtOnce k pid) (sym is) nobody

-- whoever has no descriptor has none of a write end
free_place : (n fd : ℕ) → entry_of (replicate n None) fd ≡ None
free_place zero fd = refl
free_place (suc n) zero = refl
free_place (suc n) (suc fd) = free_place n fd

pub free_writes_nowhere : (E : Entries) (pipe : ℕ) → HasNoWriteEnd E pipe (replicate DESCRIPTORS None)
free_writes_nowhere E pipe fd f held = let none : None ≡ Some f = sym (ap (file_at E) (free_place DESCRIPTORS fd)) ∙ held in absurd (let z : ⊥ = cc in z)

-- one slot more
pub no_writer_next : {S : Type 0} (k : KernelState S) (pipe pid n : ℕ) → ((q : ℕ) → q < n → q ≢ pid → HasNoWriteEnd k.entries pipe (fds_at k q)) → (n ≢ pid → HasNoWriteEnd k.entries pipe (fds_at k n)) → (q : ℕ) → q < n + 1 → q ≢ pid → HasNoWriteEnd k.entries pipe (fds_at k q)
no_writer_next k pipe pid n before here q less other = by (cases_eq q n) where
  by : (q ≡ n) ⊎ (q ≢ n) → HasNoWriteEnd k.entries pipe (fds_at k q)
  by (inl is) = subst (λ (i : ℕ). HasNoWriteEnd k.entries pipe (fds_at k i)) (sym is) (here (λ same. other (is ∙ same)))
  by (inr ne) = before q (omega (arith, less, ne)) other

-- and past the last one nobody is
pub no_writer_past : {S : Type 0} (k : KernelState S) (pipe pid n : ℕ) → ((q : ℕ) → q < n → q ≢ pid → HasNoWriteEnd k.entries pipe (fds_at k q)) → ((q : ℕ) → n ≤ q → at k.table q ≡ None) → NobodyElseWrites k pipe pid
no_writer_past k pipe pid n before free q fd f other held = by (nat_lt q n) refl where
  by : (b : Bool) → nat_lt q n ≡ b → f.object ≢ PipeWrite pipe
  by true is = before q (ltb-true q n is) other fd f held
  by false is = subst (λ (x : Slot _). HasNoWriteEnd k.entries pipe (fds_of x)) (sym (free q (ltb-false q n is))) (free_writes_nowhere k.entries pipe) fd f held
