-- In every run from the start in which nothing was full there are names, and init is in its slot.
use Rattle.std.proofs.Common.{◌≡◌, ◌≢◌, ◌⊎◌, ℕ, List, Bool, true, false, Option, Some, None, refl, sym, ap, ◌∙◌, subst, inl, inr}
use Rattle.std.specs.Prelude.{if◌then◌else◌, replicate}
use Rattle.std.proofs.lemmas.Bool.{cases_eq}
use Rattle.mem_files.specs.Name.{Name, Bytes}
use Rattle.mem_files.specs.Listing.{AreFiles}
use Rattle.fd_table.specs.Descriptors.{Descriptors}
use Rattle.fd_table.specs.declared.descriptors.TheConstants.{DESCRIPTORS}
use Rattle.user_calls.specs.declared.calls.Reply.{Reply}
use Rattle.user_calls.specs.declared.calls.Reply.TheVariants.{Done, Refused}
use Rattle.script_load.specs.Line.{ScriptLine}
use Rattle.script_load.specs.declared.profile.Profile.{Profile}
use Rattle.proc_table.specs.declared.states.Channel.TheVariants.{Children}
use Rattle.proc_table.specs.declared.states.Status.{Status}
use Rattle.proc_table.specs.declared.states.Status.TheVariants.{Running}
use Rattle.proc_table.specs.Slots.{Slot, Process, Table, at, is_running_on}
use Rattle.proc_table.specs.Calls.{dispatched, with_status, readied, made_ready, slept, put_to_sleep, reaped, zombie_child, some_child, wait_by as answer_by}
use Rattle.proc_table.proofs.Changes.{kept, written}
use Rattle.kernel_model.specs.declared.events.Event.{Event}
use Rattle.kernel_model.specs.declared.events.Event.TheVariants.{Dispatch, Trap}
use Rattle.kernel_model.specs.KernelState.{KernelState}
use Rattle.run_model.specs.ScriptRun.{script_kernel}
use Rattle.kernel_model.specs.Processes.{wait_by}
use Rattle.kernel_model.specs.Events.{acted, counted, trapped, can_dispatch, happens, run}
use Rattle.law_kernel.specs.Sleeping.{IsFamily}
use Rattle.sh_machine.specs.State.{User, init, shell, top}
use Rattle.sh_machine.specs.Turn.{call_of, next_of}
use Rattle.sh_machine.specs.declared.state.Phase.TheVariants.{Starts}
use Rattle.process_model.specs.Seen.{Names}
use Rattle.process_model.specs.Shows.{ShowsIn}
use Rattle.process_model.proofs.Start.{start_stands}
use Rattle.law_runs.specs.Consistent.{IsConsistent}
use Rattle.law_runs.specs.Seen.{IsInit}
use Rattle.law_runs.proofs.views.InitStays.{own_of, reap_stays, call_same}
use Rattle.law_runs.proofs.views.InitSeen.{init_seen}
use Rattle.law_runs.proofs.views.Events.{trap_seen, dispatch_quiet}
use Rattle.law_runs.proofs.views.Runs as runs

-- ---- init

-- init, with nothing open
abbrev IsOwn : Process User → Type 0
IsOwn p = (p.machine ≡ init) × (p.fds ≡ replicate DESCRIPTORS None)

init_by : (t u : Table User) → own_of (at u 0) ≡ own_of (at t 0) → ((p : Process User) → at t 0 ≡ Some p → IsOwn p) → (p : Process User) → at u 0 ≡ Some p → IsOwn p
init_by t u same was p is = by (at t 0) refl (sym same ∙ ap own_of is)
  where
    by : (x : Slot User) → at t 0 ≡ x → own_of x ≡ Some (p.machine, p.fds) → IsOwn p
    by None here m = absurd (let z : ⊥ = cc in z)
    by (Some q) here m =
        let both : ◌≡◌ {A = User × Descriptors} (p.machine, p.fds) (q.machine, q.fds) = cc in
        (ap (λ (o : User × Descriptors). o.0) both ∙ (was q here).0, ap (λ (o : User × Descriptors). o.1) both ∙ (was q here).1)

own_status : (s : Status) (x : Slot User) → own_of (with_status s x) ≡ own_of x
own_status s None = refl
own_status s (Some p) = refl

dispatch_same : (t : Table User) (p h : ℕ) → (p ≡ 0) ⊎ (p ≢ 0) → own_of (at (dispatched t p h) 0) ≡ own_of (at t 0)
dispatch_same t p h (inr ne) = ap own_of (kept t p 0 (with_status (Running h) (at t p)) (λ e. ne (sym e)))
dispatch_same t p h (inl same) =
    subst (λ n. own_of (at (dispatched t n h) 0) ≡ own_of (at t 0)) (sym same)
    (ap own_of (written (with_status (Running h)) refl t 0) ∙ own_status (Running h) (at t 0))

readied_init : (t : Table User) (r : Reply) → ((p : Process User) → at t 0 ≡ Some p → IsOwn p) → (p : Process User) → at (readied t 0 init r) 0 ≡ Some p → IsOwn p
readied_init t r was p is = by (at t 0) refl (sym (written (made_ready init r) refl t 0) ∙ is)
  where
    by : (x : Slot User) → at t 0 ≡ x → made_ready init r x ≡ Some p → IsOwn p
    by None here e = absurd (let z : ⊥ = cc in z)
    by (Some q) here e =
        let z : record q { status = Rattle.proc_table.specs.declared.states.Status.TheVariants.Runnable; machine = init; reply = r; put = 0 } ≡ p = cc in
        (ap (λ (z : Process User). z.machine) (sym z), ap (λ (z : Process User). z.fds) (sym z) ∙ (was q here).1)

slept_same : (t : Table User) → own_of (at (slept t 0 (Children 0) 0) 0) ≡ own_of (at t 0)
slept_same t = ap own_of (written (put_to_sleep (Children 0) 0) refl t 0) ∙ by (at t 0)
  where
    by : (x : Slot User) → own_of (put_to_sleep (Children 0) 0 x) ≡ own_of x
    by None = refl
    by (Some p) = refl

waits_init : (k : KernelState User) → IsFamily k.table → (dead some : Option ℕ) → IsInit k → IsInit (wait_by (counted k) 0 init (answer_by dead some))
waits_init k family (Some child) some was = readied_init (reaped k.table 0) Done (init_by k.table (reaped k.table 0) (reap_stays k.table 0 family (zombie_child k.table 0) refl) was)
waits_init k family None (Some child) was = init_by k.table (slept k.table 0 (Children 0) 0) (slept_same k.table) was
waits_init k family None None was = readied_init k.table Refused was

init_goes_on : (k l : KernelState User) (h : ℕ) (n : Bool) → IsFamily k.table → IsInit k → happens call_of next_of k (Trap h 0) n ≡ Some l → IsInit l
init_goes_on k l h n family was happened = by (is_running_on h (at k.table 0)) happened
  where
    go : (x : Slot User) → at k.table 0 ≡ x → trapped call_of next_of k 0 x n ≡ Some l → IsInit l
    go None is e = absurd (let z : ⊥ = cc in z)
    go (Some q) is e =
        let m = wait_by (counted k) 0 init (answer_by (zombie_child k.table 0) (some_child k.table 0)) in
        let same : Some m ≡ Some l = sym (ap (λ u. Some (acted (counted k) 0 (next_of u q.reply) (call_of u q.reply) n)) (was q is).0) ∙ e in
        let is_l : m ≡ l = cc in
        subst IsInit is_l (waits_init k family (zombie_child k.table 0) (some_child k.table 0) was)

    by : (c : Bool) → (if c then trapped call_of next_of k 0 (at k.table 0) n else None) ≡ Some l → IsInit l
    by true e = go (at k.table 0) refl e
    by false e = absurd (let z : ⊥ = cc in z)

other_goes_on : (k l : KernelState User) (h p : ℕ) (n : Bool) → p ≢ 0 → IsConsistent k → IsInit k → happens call_of next_of k (Trap h p) n ≡ Some l → IsInit l
other_goes_on k l h p n up settled was happened = by (is_running_on h (at k.table p)) happened
  where
    go : (x : Slot User) → trapped call_of next_of k p x n ≡ Some l → IsInit l
    go None e = absurd (let z : ⊥ = cc in z)
    go (Some q) e =
        let m = acted (counted k) p (next_of q.machine q.reply) (call_of q.machine q.reply) n in
        let same : m ≡ l = cc in
        subst IsInit same (init_by k.table m.table (call_same p (λ z. up (sym z)) (next_of q.machine q.reply) (counted k) settled.rests.family (call_of q.machine q.reply) n) was)

    by : (c : Bool) → (if c then trapped call_of next_of k p (at k.table p) n else None) ≡ Some l → IsInit l
    by true e = go (at k.table p) e
    by false e = absurd (let z : ⊥ = cc in z)

dispatch_goes_on : (k l : KernelState User) (h p : ℕ) (n : Bool) → IsInit k → happens call_of next_of k (Dispatch h p) n ≡ Some l → IsInit l
dispatch_goes_on k l h p n was happened = by (can_dispatch k.table h p) happened
  where
    by : (c : Bool) → (if c then Some (record (counted k) { table = dispatched k.table p h }) else None) ≡ Some l → IsInit l
    by false e = absurd (let z : ⊥ = cc in z)
    by true e =
        let m = record (counted k) { table = dispatched k.table p h } in
        let same : m ≡ l = cc in
        subst IsInit same (init_by k.table (dispatched k.table p h) (dispatch_same k.table p h (cases_eq p 0)) was)

-- every event keeps init where it is
pub event_keeps_init : (k l : KernelState User) (e : Event) (n : Bool) → IsConsistent k → IsInit k → happens call_of next_of k e n ≡ Some l → IsInit l
event_keeps_init k l (Dispatch h p) n settled was happened = dispatch_goes_on k l h p n was happened
event_keeps_init k l (Trap h p) n settled was happened = by (cases_eq p 0)
  where
    by : (p ≡ 0) ⊎ (p ≢ 0) → IsInit l
    by (inr up) = other_goes_on k l h p n up settled was happened
    by (inl same) = init_goes_on k l h n settled.rests.family was (subst (λ q. happens call_of next_of k (Trap h q) n ≡ Some l) same happened)

-- ---- names

-- there are names, and init is in its slot
abbrev pub IsNamed : KernelState User → Type 0
IsNamed k = ((g : Names) × ShowsIn g k) × IsInit k

event_keeps : (k l : KernelState User) (e : Event) (n : Bool) → IsConsistent k → happens call_of next_of k e n ≡ Some l → l.full ≡ None → IsNamed k → IsNamed l
event_keeps k l (Dispatch h p) n settled happened full named = ((named.0.0, (dispatch_quiet named.0.0 k l h p n named.0.1 happened).0), event_keeps_init k l (Dispatch h p) n settled named.1 happened)
event_keeps k l (Trap h p) n settled happened full named = (by (cases_eq p 0), event_keeps_init k l (Trap h p) n settled named.1 happened)
  where
    by : (p ≡ 0) ⊎ (p ≢ 0) → (g : Names) × ShowsIn g l
    by (inr up) = let s = trap_seen named.0.0 k l h p n up settled named.0.1 happened full in (s.names, s.shows)
    by (inl same) =
        let w = init_seen named.0.0 k settled named.0.1 h l n named.1 (subst (λ q. happens call_of next_of k (Trap h q) n ≡ Some l) same happened) in
        (named.0.0, w.0)

pub start_init : (profile : Profile) (lines : List ScriptLine) (input : Bytes) (list : List (Name × Bytes)) → IsInit (script_kernel profile lines input list)
start_init profile lines input list p at_it =
    let z : ◌≡◌ {A = Option (User × Descriptors)} (Some (p.machine, p.fds)) (Some (init, replicate DESCRIPTORS None)) = sym (ap own_of at_it) in
    let both : ◌≡◌ {A = User × Descriptors} (p.machine, p.fds) (init, replicate DESCRIPTORS None) = cc in
    (ap (λ (o : User × Descriptors). o.0) both, ap (λ (o : User × Descriptors). o.1) both)

pub every_run_is_named : (profile : Profile) (lines : List ScriptLine) (input : Bytes) (list : List (Name × Bytes)) (events : List Event) (notes : List Bool) (m : KernelState User) → AreFiles list → run call_of next_of (Some (script_kernel profile lines input list)) events notes ≡ Some m → m.full ≡ None → IsNamed m
every_run_is_named profile lines input list events notes m are is full =
    let first = shell profile (top Starts lines) in
    runs.every_run_keeps init first input list IsNamed (λ k l e n r happened was now named. event_keeps k l e n (runs.settled init first input list are k r) happened now named)
    (((start_stands profile lines input list).names, (start_stands profile lines input list).shows), start_init profile lines input list) events notes m is full
