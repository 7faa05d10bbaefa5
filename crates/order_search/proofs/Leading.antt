-- Kernels to which turns lead from a kernel at its start.
use Rattle.std.proofs.Common.{◌≡◌, ℕ, zero, suc, List, [], ◌∷◌, ◌++◌, Bool, true, false, Option, Some, None, length, refl, sym, ap, subst, ◌∙◌, map, arith}
use Rattle.std.specs.Prelude.{if◌then◌else◌, ◌&&◌, not, nat_lt, is_some, position, count_by, cond}
use Rattle.std.proofs.lemmas.List.Sums.{sum_by-cons}
use Rattle.user_calls.specs.declared.calls.Call.{Call}
use Rattle.user_calls.specs.declared.calls.Call.TheVariants.{Fork, Exit, Wait, Close}
use Rattle.user_calls.specs.declared.calls.Reply.{Reply}
use Rattle.fd_table.specs.declared.names.Object.{Object}
use Rattle.fd_table.specs.declared.names.Object.TheVariants.{Input, Out, Diag, File, PipeRead, PipeWrite}
use Rattle.fd_table.specs.Entries.{Entries, OpenFile, entry_at}
use Rattle.fd_table.specs.Descriptors.{entry_of}
use Rattle.mem_files.specs.Name.{Name, Bytes}
use Rattle.proc_table.specs.declared.states.Status.{Status}
use Rattle.proc_table.specs.declared.states.Status.TheVariants.{Runnable, Running, Asleep, Zombie}
use Rattle.proc_table.specs.declared.table.TheConstants.{HARTS}
use Rattle.proc_table.specs.Slots.{Slot, Table, Process, at, is_runnable, is_runnable_status, is_running, is_running_status, is_running_on, is_number, is_zombie_status, is_zombie_child_of}
use Rattle.proc_table.specs.Calls.{dispatched}
use Rattle.kernel_model.specs.declared.events.Event.TheVariants.{Trap}
use Rattle.kernel_model.specs.KernelState.{KernelState, fds_of, fds_at, file_at}
use Rattle.kernel_model.specs.Boot.{boot_kernel}
use Rattle.kernel_model.specs.Events.{counted, can_dispatch, then_happens, IsFinished}
use Rattle.kernel_model.specs.Idle.{idle_slot, idle_status, idle_kernel, renamed_object, renamed_entry, renamed_pipe}
use Rattle.kernel_model.specs.Key.{key, place_in}
use Rattle.kernel_model.specs.Woke.{woke_status, woke_slot, woke_table, woke}
use Rattle.kernel_model.specs.Anyhow.{bare_status, bare_slot, bare_table}
use Rattle.kernel_model.specs.Privately.{IsPrivateCall}
use Rattle.kernel_model.specs.Closes.{IsClosedAtOnce, NobodyElseWrites, ClosesNext}
use Rattle.kernel_model.specs.Giving.{ForksNext, ReapsNext, ExitsNext, GivesWay, privately, closes, forks, reaps, exits}
use Rattle.kernel_model.specs.Outcome.{outcome_of}
use Rattle.kernel_model.specs.Turns.{by_turns, quiet_turns, after_turns, after_turn, turn_events, turn_notes}
use Rattle.order_search.specs.Led.{start_kernel}
use Rattle.order_search.specs.declared.origin.Ahead.{Ahead}
use Rattle.order_search.specs.Room.{HasAhead}
use Rattle.order_search.specs.Shown.{IsOpenAs, IsPrivateSlot}
use Rattle.order_search.specs.Giving.{IsGiving, privately as seen_privately, closes as seen_closes, forks as seen_forks, reaps as seen_reaps, exits as seen_exits}
use Rattle.order_search.specs.Places.{IsOrderly, names_in, place_among}
use Rattle.order_search.proofs.Placing.{place_is}
use Rattle.law_kernel.proofs.kernel.EntriesLong.{every_run_has_entries}
use Rattle.order_search.proofs.Orderly.{OrderlyIf, run_orderly, boot_orderly}

pub start_is : {S : Type 0} (init shell : S) (input : Bytes) (list : List (Name × Bytes)) → start_kernel init shell input list ≡ boot_kernel init shell input list
unfolding start_kernel
start_is init shell input list = refl

module _ {S : Type 0} (call : S → Reply → Call) (next : S → Reply → S) where
  one_more : (pids : List ℕ) (pid : ℕ) (o : Option (KernelState S)) → by_turns call next o (quiet_turns (pids ++ pid ∷ [])) ≡ by_turns call next (by_turns call next o (quiet_turns pids)) (quiet_turns (pid ∷ []))
  one_more [] pid o = refl
  one_more (p ∷ pids) pid o = one_more pids pid (by_turns call next o (quiet_turns (p ∷ [])))

  pub led_on : (start k m : KernelState S) (pids : List ℕ) (pid : ℕ) → after_turns call next start pids ≡ Some k → after_turn call next k pid ≡ Some m → after_turns call next start (pids ++ pid ∷ []) ≡ Some m
  led_on start k m pids pid turns turn = one_more pids pid (Some start) ∙ ap (λ (o : Option (KernelState S)). by_turns call next o (quiet_turns (pid ∷ []))) turns ∙ turn

  -- the last of these turns
  pub last_turn : (start k m : KernelState S) (pids : List ℕ) (pid : ℕ) → after_turns call next start pids ≡ Some k → after_turns call next start (pids ++ pid ∷ []) ≡ Some m → after_turn call next k pid ≡ Some m
  last_turn start k m pids pid turns longer = sym (ap (λ (o : Option (KernelState S)). by_turns call next o (quiet_turns (pid ∷ []))) turns) ∙ sym (one_more pids pid (Some start)) ∙ longer

  pub led_orderly : (init shell : S) (input : Bytes) (list : List (Name × Bytes)) (k : KernelState S) (pids : List ℕ) → after_turns call next (start_kernel init shell input list) pids ≡ Some k → IsOrderly k
  led_orderly init shell input list k pids turns =
      subst OrderlyIf turns (run_orderly call next (Some (start_kernel init shell input list)) (turn_events (quiet_turns pids)) (turn_notes (quiet_turns pids)) (subst IsOrderly (sym (start_is init shell input list)) (boot_orderly init shell input list)))

  pub led_long : (init shell : S) (input : Bytes) (list : List (Name × Bytes)) (k : KernelState S) (pids : List ℕ) → after_turns call next (start_kernel init shell input list) pids ≡ Some k → length k.entries ≡ 100
  led_long init shell input list k pids turns =
      every_run_has_entries call next init shell input list (turn_events (quiet_turns pids)) (turn_notes (quiet_turns pids)) k (ap (λ (s : KernelState S). after_turns call next s pids) (sym (start_is init shell input list)) ∙ turns)

  -- ---- who can't take a turn

  and_false : (b : Bool) → (b && false) ≡ false
  and_false true = refl
  and_false false = refl

  pub no_turn : (k : KernelState S) (pid : ℕ) → is_runnable (at k.table pid) ≡ false → after_turn call next k pid ≡ None
  no_turn k pid idle =
      let can : can_dispatch k.table 0 pid ≡ false = ap (λ (b : Bool). nat_lt 0 HARTS && not (is_some (position (is_running_on 0) k.table)) && b) idle ∙ and_false (nat_lt 0 HARTS && not (is_some (position (is_running_on 0) k.table))) in
      ap (λ (b : Bool). then_happens call next (if b then Some (record (counted k) { table = dispatched k.table pid 0 }) else None) (Trap 0 pid) false) can

at_idle : {S : Type 0} (name : ℕ → ℕ) (t : Table S) (i : ℕ) → at (map (idle_slot name) t) i ≡ idle_slot name (at t i)
at_idle name [] i = refl
at_idle name (x ∷ t) zero = refl
at_idle name (x ∷ t) (suc i) = at_idle name t i

never : (b : Bool) → b ≡ true → b ≡ false → ⊥
never b t f = let z : ⊥ = cc in z

idle_not : (name : ℕ → ℕ) (s : Status) → is_runnable_status (idle_status name s) ≡ false → is_runnable_status s ≡ false
idle_not name Runnable is = is
idle_not name (Running h) is = refl
idle_not name (Asleep c) is = refl
idle_not name Zombie is = refl

slot_not : {S : Type 0} (name : ℕ → ℕ) (x : Slot S) → is_runnable (idle_slot name x) ≡ false → is_runnable x ≡ false
slot_not name None is = refl
slot_not name (Some p) is = idle_not name p.status is

-- who isn't Runnable in the key isn't Runnable
pub key_not : {S : Type 0} (k look : KernelState S) (pid : ℕ) → look ≡ key k → is_runnable (at look.table pid) ≡ false → is_runnable (at k.table pid) ≡ false
key_not k look pid is not_there =
    slot_not (place_in k.pipes) (at k.table pid) (ap is_runnable (sym (at_idle (place_in k.pipes) k.table pid)) ∙ ap (λ (j : KernelState _). is_runnable (at j.table pid)) (sym is) ∙ not_there)

pub boot_idle : {S : Type 0} (init shell : S) (input : Bytes) (list : List (Name × Bytes)) → count_by is_running (boot_kernel init shell input list).table ≡ 0
boot_idle init shell input list = refl

-- ---- finished, or ready

idle_free : {S : Type 0} (name : ℕ → ℕ) (x : Slot S) → idle_slot name x ≡ None → x ≡ None
idle_free name None is = refl
idle_free name (Some p) is = absurd (let z : ⊥ = cc in z)

pub key_finished : {S : Type 0} (k look : KernelState S) → look ≡ key k → IsFinished look → IsFinished k
key_finished k look is over pid other =
    idle_free (place_in k.pipes) (at k.table pid) (sym (at_idle (place_in k.pipes) k.table pid) ∙ ap (λ (j : KernelState _). at j.table pid) (sym is) ∙ over pid other)

finished_key_slot : {S : Type 0} (name : ℕ → ℕ) (x : Slot S) → x ≡ None → idle_slot name x ≡ None
finished_key_slot name x is = ap (idle_slot name) is

pub finished_key : {S : Type 0} (k look : KernelState S) → look ≡ key k → IsFinished k → IsFinished look
finished_key k look is over pid other =
    ap (λ (j : KernelState _). at j.table pid) is ∙ at_idle (place_in k.pipes) k.table pid ∙ finished_key_slot (place_in k.pipes) (at k.table pid) (over pid other)

-- nobody is what no slot is, as a free one isn't
none_by : {S : Type 0} (test : Slot S → Bool) (x : Slot S) (t : Table S) (b : Bool) → test x ≡ b → count_by test (x ∷ t) ≡ 0 → (test x ≡ false) × (count_by test t ≡ 0)
none_by test x t true is none =
    absurd (omega (arith, none, sum_by-cons (λ (y : Slot _). cond {A = ℕ} (test y) 1 0) x t, ap (λ (b : Bool). cond {A = ℕ} b 1 0) is))
none_by test x t false is none = (is, omega (arith, none, sum_by-cons (λ (y : Slot _). cond {A = ℕ} (test y) 1 0) x t))

pub none_of : {S : Type 0} (test : Slot S → Bool) (t : Table S) (k : ℕ) → test None ≡ false → count_by test t ≡ 0 → test (at t k) ≡ false
none_of test [] k free none = free
none_of test (x ∷ t) zero free none = (none_by test x t (test x) refl none).0
none_of test (x ∷ t) (suc k) free none = none_of test t k free (none_by test x t (test x) refl none).1

-- ---- whose turn gives way to nobody's

ready_is : (name : ℕ → ℕ) (s : Status) → idle_status name s ≡ Runnable → is_running_status s ≡ false → s ≡ Runnable
ready_is name Runnable ready idle = refl
ready_is name (Running h) ready idle = absurd (let z : ⊥ = cc in z)
ready_is name (Asleep c) ready idle = absurd (let z : ⊥ = cc in z)
ready_is name Zombie ready idle = absurd (let z : ⊥ = cc in z)

private_slot : {S : Type 0} (call : S → Reply → Call) (name : ℕ → ℕ) (x : Slot S) → is_running x ≡ false → IsPrivateSlot call (idle_slot name x) → IsPrivateSlot call x
private_slot call name None idle e = absurd (let is = e.is in let z : ⊥ = cc in z)
private_slot call name (Some p) idle e =
    let is = e.is in
    let same : record p { status = idle_status name p.status } ≡ e.process = cc in
    record {
      process = p;
      is = refl;
      ready = ready_is name p.status (ap (λ (q : Process _). q.status) same ∙ e.ready) idle;
      calls = subst (λ (q : Process _). IsPrivateCall q.fds (call q.machine q.reply)) (sym same) e.calls;
    }

zombie_status_idle : (name : ℕ → ℕ) (s : Status) → is_zombie_status (idle_status name s) ≡ is_zombie_status s
zombie_status_idle name Runnable = refl
zombie_status_idle name (Running h) = refl
zombie_status_idle name (Asleep c) = refl
zombie_status_idle name Zombie = refl

zombie_idle : {S : Type 0} (name : ℕ → ℕ) (pid : ℕ) (x : Slot S) → is_zombie_child_of pid (idle_slot name x) ≡ is_zombie_child_of pid x
zombie_idle name pid None = refl
zombie_idle name pid (Some p) = ap (λ (b : Bool). is_number pid p.parent && b) (zombie_status_idle name p.status)

-- a process's descriptors are its own in the key too
idle_fds : {S : Type 0} (name : ℕ → ℕ) (x : Slot S) → fds_of (idle_slot name x) ≡ fds_of x
idle_fds name None = refl
idle_fds name (Some p) = refl

entry_named : (name : ℕ → ℕ) (E : Entries) (e : ℕ) → entry_at (map (renamed_entry name) E) e ≡ renamed_entry name (entry_at E e)
entry_named name [] e = refl
entry_named name (x ∷ E) zero = refl
entry_named name (x ∷ E) (suc e) = entry_named name E e

module _ {S : Type 0} (call : S → Reply → Call) (next : S → Reply → S) where
  module _ (k look : KernelState S) (pid : ℕ) (is : look ≡ key k) where
    abbrev name : ℕ → ℕ
    name = place_in k.pipes

    slot : (q : ℕ) → at look.table q ≡ idle_slot name (at k.table q)
    slot q = ap (λ (j : KernelState S). at j.table q) is ∙ at_idle name k.table q

    entry : (e : ℕ) → entry_at look.entries e ≡ renamed_entry name (entry_at k.entries e)
    entry e = ap (λ (j : KernelState S). entry_at j.entries e) is ∙ entry_named name k.entries e

    file : (o : Option ℕ) → file_at look.entries o ≡ renamed_entry name (file_at k.entries o)
    file None = refl
    file (Some e) = entry e

    -- to which pipe nobody else writes in the key, nobody else does
    nobody_else : (id : ℕ) → NobodyElseWrites look (name id) pid → NobodyElseWrites k id pid
    nobody_else id nobody q fd f ne held writes =
        let fds : fds_at look q ≡ fds_at k q = ap fds_of (slot q) ∙ idle_fds name (at k.table q) in
        let there : file_at look.entries (entry_of (fds_at look q) fd) ≡ renamed_entry name (Some f) = (λ i. file_at look.entries (entry_of (fds i) fd)) ∙ file (entry_of (fds_at k q) fd) ∙ ap (renamed_entry name) held in
        nobody q fd _ ne there (ap (renamed_object name) writes)

    at_once : (object : Object) → IsClosedAtOnce look pid (renamed_object name object) → IsClosedAtOnce k pid object
    at_once Input free = tt
    at_once Out free = tt
    at_once Diag free = tt
    at_once (File file mode) free = tt
    at_once (PipeRead id) nobody = nobody_else id nobody
    at_once (PipeWrite id) free = tt

    -- a process that is Runnable in the key is so in the kernel
    record InKernel (seen : Process S) : Type 0 where
      process : Process S
      there : at k.table pid ≡ Some process
      ready : process.status ≡ Runnable
      same : record process { status = idle_status name process.status } ≡ seen

    in_kernel : is_running (at k.table pid) ≡ false → (seen : Process S) → at look.table pid ≡ Some seen → seen.status ≡ Runnable → InKernel seen
    in_kernel idle seen there ready = by (at k.table pid) refl where
      by : (x : Slot S) → at k.table pid ≡ x → InKernel seen
      by None is = let none : None ≡ Some seen = sym (ap (idle_slot name) is) ∙ sym (slot pid) ∙ there in absurd (let z : ⊥ = cc in z)
      by (Some p) is =
          let both : idle_slot name (Some p) ≡ Some seen = sym (ap (idle_slot name) is) ∙ sym (slot pid) ∙ there in
          let same : record p { status = idle_status name p.status } ≡ seen = cc in
          record { process = p; there = is; ready = ready_is name p.status (ap (λ (q : Process S). q.status) same ∙ ready) (sym (ap is_running is) ∙ idle); same = same }

    calls_too : (seen : Process S) (c : Call) (w : InKernel seen) → call seen.machine seen.reply ≡ c → call w.process.machine w.process.reply ≡ c
    calls_too seen c w is = ap (λ (q : Process S). call q.machine q.reply) w.same ∙ is

    -- a close in the key is one of the kernel
    closing : is_running (at k.table pid) ≡ false → ClosesNext call next (IsClosedAtOnce look pid) look pid → ClosesNext call next (IsClosedAtOnce k pid) k pid
    closing idle c = by_file (in_kernel idle c.process c.there c.ready) (entry_at k.entries c.entry) refl where
      by_file : InKernel c.process → (o : Option OpenFile) → entry_at k.entries c.entry ≡ o → ClosesNext call next (IsClosedAtOnce k pid) k pid
      by_file w None used = let none : None ≡ Some c.file = sym (ap (renamed_entry name) used) ∙ sym (entry c.entry) ∙ c.used in absurd (let z : ⊥ = cc in z)
      by_file w (Some f) used =
          let both : renamed_entry name (Some f) ≡ Some c.file = sym (ap (renamed_entry name) used) ∙ sym (entry c.entry) ∙ c.used in
          record {
            process = w.process;
            there = w.there;
            ready = w.ready;
            fd = c.fd;
            calls = calls_too c.process (Close c.fd) w c.calls;
            entry = c.entry;
            holds = ap (λ (q : Process S). entry_of q.fds c.fd) w.same ∙ c.holds;
            file = f;
            used = used;
            of = at_once f.object (subst (IsOpenAs (IsClosedAtOnce look pid)) (sym both) c.of);
          }

    -- so is a fork
    forking : is_running (at k.table pid) ≡ false → ForksNext call look pid → ForksNext call k pid
    forking idle f = let w = in_kernel idle f.process f.there f.ready in record { process = w.process; there = w.there; ready = w.ready; calls = calls_too f.process Fork w f.calls }

    -- a wait that finds a zombie
    reaping : is_running (at k.table pid) ≡ false → ReapsNext call next look pid → ReapsNext call next k pid
    reaping idle r =
        let w = in_kernel idle r.process r.there r.ready in
        record {
          process = w.process;
          there = w.there;
          ready = w.ready;
          calls = calls_too r.process Wait w r.calls;
          zombie = r.zombie;
          dead = sym (zombie_idle name pid (at k.table r.zombie)) ∙ ap (is_zombie_child_of pid) (sym (slot r.zombie)) ∙ r.dead;
        }

    -- and an exit
    exiting : is_running (at k.table pid) ≡ false → ExitsNext call next look pid → ExitsNext call next k pid
    exiting idle e =
        let w = in_kernel idle e.process e.there e.ready in
        record {
          process = w.process;
          there = w.there;
          ready = w.ready;
          calls = calls_too e.process Exit w e.calls;
          at_once = λ fd f held.
              let there : file_at look.entries (entry_of e.process.fds fd) ≡ renamed_entry name (Some f) =
              ap (λ (q : Process S). file_at look.entries (entry_of q.fds fd)) (sym w.same) ∙ file (entry_of w.process.fds fd) ∙ ap (renamed_entry name) held in
              at_once f.object (e.at_once fd _ there);
        }

  -- whose turn gives way in the key gives way, in a kernel that has ahead what is said of it
  pub key_gives : (k look : KernelState S) (ahead : Ahead) (pid : ℕ) → look ≡ key k → count_by is_running k.table ≡ 0 → HasAhead call next ahead k → IsGiving call next ahead look pid → GivesWay call next k pid
  key_gives k look ahead pid is none has e = by e where
    idle : is_running (at k.table pid) ≡ false
    idle = none_of is_running k.table pid refl none

    by : IsGiving call next ahead look pid → GivesWay call next k pid
    by (seen_privately ne private) =
        let x = private_slot call (place_in k.pipes) (at k.table pid) idle (subst (IsPrivateSlot call) (slot k look pid is pid) private) in
        privately (record { child = ne; process = x.process; there = x.is; ready = x.ready; calls = x.calls })
    by (seen_closes ne said c) = closes (record { child = ne; closes = closing k look pid is idle c; room = has.entries said })
    by (seen_forks ne said f) = forks ne (forking k look pid is idle f) (has.slots said)
    by (seen_reaps said r) = reaps (reaping k look pid is idle r) (has.slots said)
    by (seen_exits ne said x) = exits ne (exiting k look pid is idle x) (has.entries said)

  -- turns after turns
  more : (pids later : List ℕ) (o : Option (KernelState S)) → by_turns call next o (quiet_turns (pids ++ later)) ≡ by_turns call next (by_turns call next o (quiet_turns pids)) (quiet_turns later)
  more [] later o = refl
  more (p ∷ pids) later o = more pids later (by_turns call next o (quiet_turns (p ∷ [])))

  -- a kernel to which turns lead from one that has something ahead has it too
  pub ahead_led : (start k : KernelState S) (pids : List ℕ) (ahead : Ahead) → HasAhead call next ahead start → after_turns call next start pids ≡ Some k → HasAhead call next ahead k
  ahead_led start k pids ahead has turns =
      record {
        entries = λ said later m q is. has.entries said (pids ++ later) m q (longer later m is);
        slots = λ said later m q is. has.slots said (pids ++ later) m q (longer later m is);
      }
    where
      longer : (later : List ℕ) (m : KernelState S) → after_turns call next k later ≡ Some m → after_turns call next start (pids ++ later) ≡ Some m
      longer later m is = more pids later (Some start) ∙ ap (λ (o : Option (KernelState S)). by_turns call next o (quiet_turns later)) turns ∙ is

-- ---- keys but for who sleeps

woken_status : (name : ℕ → ℕ) (s : Status) → woke_status (idle_status name s) ≡ idle_status name (woke_status s)
woken_status name Runnable = refl
woken_status name (Running h) = refl
woken_status name (Asleep c) = refl
woken_status name Zombie = refl

woken_slot : {S : Type 0} (name : ℕ → ℕ) (x : Slot S) → woke_slot (idle_slot name x) ≡ idle_slot name (woke_slot x)
woken_slot name None = refl
woken_slot name (Some p) = λ i. Some (record p { status = woken_status name p.status i })

woken_table : {S : Type 0} (name : ℕ → ℕ) (t : Table S) → woke_table (map (idle_slot name) t) ≡ map (idle_slot name) (woke_table t)
woken_table name [] = refl
woken_table name (x ∷ t) = λ i. woken_slot name x i ∷ woken_table name t i

-- a look as if all were awake is the key of the kernel as if all were awake
pub woken_key : {S : Type 0} (k look : KernelState S) → look ≡ key k → woke look ≡ key (woke k)
woken_key k look is = ap woke is ∙ (λ i. record (key k) { table = woken_table (place_in k.pipes) k.table i })

-- ---- slots but for who sleeps or runs and for descriptors

bare_status_idle : (name : ℕ → ℕ) (s : Status) → bare_status (idle_status name s) ≡ bare_status s
bare_status_idle name Runnable = refl
bare_status_idle name (Running h) = refl
bare_status_idle name (Asleep c) = refl
bare_status_idle name Zombie = refl

bare_idle : {S : Type 0} (name : ℕ → ℕ) (x : Slot S) → bare_slot (idle_slot name x) ≡ bare_slot x
bare_idle name None = refl
bare_idle name (Some p) = λ i. Some (record p { status = bare_status_idle name p.status i; fds = [] })

bare_idle_table : {S : Type 0} (name : ℕ → ℕ) (t : Table S) → bare_table (map (idle_slot name) t) ≡ bare_table t
bare_idle_table name [] = refl
bare_idle_table name (x ∷ t) = λ i. bare_idle name x i ∷ bare_idle_table name t i

-- a look's slots are the kernel's so
pub bare_key : {S : Type 0} (k look : KernelState S) → look ≡ key k → bare_table look.table ≡ bare_table k.table
bare_key k look is = ap (λ (j : KernelState _). bare_table j.table) is ∙ bare_idle_table (place_in k.pipes) k.table

pub key_outcome : {S : Type 0} (k look : KernelState S) → look ≡ key k → outcome_of look ≡ outcome_of k
key_outcome k look is = ap outcome_of is

-- a kernel that is read part by part, its pipes named by their places among these names
pub key_by : {S : Type 0} (k l : KernelState S) (names : List ℕ) → names ≡ names_in k.pipes → l.table ≡ map (idle_slot (place_among names)) k.table → l.entries ≡ map (renamed_entry (place_among names)) k.entries
    → l.pipes ≡ map (renamed_pipe (place_among names)) k.pipes → l.files ≡ k.files → l.input ≡ k.input → l.out ≡ k.out → l.diag ≡ k.diag → l.events ≡ 0 → l.full ≡ k.full → l ≡ key k
key_by k l names is table entries pipes files input out diag events full =
    let places : place_among names ≡ place_in k.pipes = λ i id. (ap (λ (ns : List ℕ). place_among ns id) is ∙ sym (place_is k.pipes id)) i in
    (λ i. record { table = table i; entries = entries i; pipes = pipes i; files = files i; input = input i; out = out i; diag = diag i; events = events i; full = full i }) ∙ (λ i. idle_kernel (places i) 0 k)
