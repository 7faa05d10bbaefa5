-- What a process still opens at most, itself and through those that it forks, is spent by its calls. So where all of them together
-- open no more than there are free entries, it stays so; and what is in use and what is still opened are together no more than at the start.
use Rattle.std.proofs.Common.{◌≡◌, ℕ, zero, suc, ◌+◌, ◌≤◌, List, [], ◌∷◌, Bool, true, false, Option, Some, None, refl, sym, ap, subst, ◌∙◌, arith}
use Rattle.std.proofs.Math.ListN.{set}
use Rattle.std.specs.Prelude.{length, if◌then◌else◌, Result, Ok, Err, ⊤}
use Rattle.user_calls.specs.declared.calls.Call.{Call}
use Rattle.user_calls.specs.declared.calls.Call.TheVariants.{Fork, Exec, Exit, Wait, MakePipe, Read, Write, OpenFile, Close, Dup}
use Rattle.user_calls.specs.declared.calls.Reply.{Reply}
use Rattle.fd_table.specs.declared.descriptors.TheConstants.{DESCRIPTORS}
use Rattle.fd_table.specs.declared.entries.TheConstants.{ENTRIES}
use Rattle.fd_table.specs.declared.faults.FdFault.{FdFault}
use Rattle.fd_table.specs.declared.names.Object.{Object}
use Rattle.fd_table.specs.declared.names.Object.TheVariants.{Input, Out, Diag, File, PipeRead, PipeWrite}
use Rattle.fd_table.specs.Entries.{Entries, OpenFile as Entry, free_count, lowest_free_entry, added_at, opened, less_held, more_held, moved_on, going_on_at}
use Rattle.fd_table.specs.Descriptors.{entry_of, close_answer, released_by_close, held_by_dup}
use Rattle.proc_table.specs.declared.states.Status.{Status}
use Rattle.proc_table.specs.declared.states.Status.TheVariants.{Runnable, Running, Asleep, Zombie}
use Rattle.proc_table.specs.Slots.{Slot, Table, Process, at, is_running, is_running_on, is_running_on_status, is_running_status}
use Rattle.proc_table.specs.Calls.{with_status, dispatched}
use Rattle.kernel_model.specs.declared.events.Event.{Event}
use Rattle.kernel_model.specs.declared.events.Event.TheVariants.{Dispatch, Trap}
use Rattle.kernel_model.specs.KernelState.{KernelState, fds_at}
use Rattle.kernel_model.specs.Events.{acted, can_dispatch, counted, happens, run, then_happens, trapped}
use Rattle.kernel_model.specs.Modes.{entry_mode}
use Rattle.kernel_model.specs.Pipes.{with_new}
use Rattle.kernel_model.specs.Opening.{with_bytes}
use Rattle.kernel_model.specs.Descriptors.{let_go_of, taken_away, closed, closed_below, opened_at, with_open, with_reader}
use Rattle.law_kernel.specs.Outcome.{Outcome, refused, lacks, forks, runs, exits, reaps, waits, opens, opens_empty, closes, dups, pipes, reads_input, reads_file, takes, waits_for_bytes, meets_end, tells, complains, writes_over, appends, puts_all, puts_part}
use Rattle.law_kernel.proofs.outcomes.Outcomes.{every_call_ends}
use Rattle.kernel_model.specs.Alike.{IsStill}
use Rattle.kernel_model.specs.Turns.{after_turn}
use Rattle.kernel_model.specs.Closes.{FindsFree, FindsFreeNext, HasRoomAhead}
use Rattle.law_turns.proofs.entry_numbers.Opening.{lowest_is_free, taken}
use Rattle.law_limits.proofs.opens.Sums.{one_of, free_set, held_free}
use Rattle.law_limits.proofs.opens.Left.{IsPaidOnce, IsSpent, slot_left as slot_left_of, table_left as table_left_of, outcome_costs, rewritten, status_left, turn_spends, turns_keep}

-- how many entries a call opens
abbrev pub cost : Call → ℕ
cost Fork = 0
cost (Exec found) = 0
cost Exit = 0
cost Wait = 0
cost MakePipe = 2
cost (Read fd n) = 0
cost (Write fd b) = 0
cost (OpenFile name mode) = 1
cost (Close fd) = 0
cost (Dup fd) = 0

runs_somewhere : (h : ℕ) (s : Status) → is_running_on_status h s ≡ true → is_running_status s ≡ true
runs_somewhere h Runnable on = absurd (let z : ⊥ = cc in z)
runs_somewhere h (Running other) on = refl
runs_somewhere h (Asleep c) on = absurd (let z : ⊥ = cc in z)
runs_somewhere h Zombie on = absurd (let z : ⊥ = cc in z)

paid_once : IsPaidOnce cost
paid_once = record { exits = refl; waits = refl; reads = λ fd n. refl; writes = λ fd b. refl }

module _ {S : Type 0} (call : S → Reply → Call) (next : S → Reply → S) (ahead : S → ℕ) where
  abbrev slot_left : Slot S → ℕ
  slot_left x = slot_left_of call next cost ahead x

  abbrev table_left : Table S → ℕ
  table_left t = table_left_of call next cost ahead t

  -- there are as many free entries as all of them still open
  abbrev pub HasEnough : KernelState S → Type 0
  HasEnough k = table_left k.table ≤ free_count k.entries

  -- ---- entries

  open_free : (k : KernelState S) (pid : ℕ) (object : Object) → free_count k.entries ≤ free_count (with_open k pid object).entries + 1
  open_free k pid object = by (lowest_free_entry k.entries) refl where
    by : (o : Option ℕ) → lowest_free_entry k.entries ≡ o → free_count k.entries ≤ free_count (opened_at k pid object o).entries + 1
    by None is = omega arith
    by (Some e) is =
        let now : (opened_at k pid object (Some e)).entries ≡ set k.entries e (Some (opened object)) = ap (λ (o : Option ℕ). added_at k.entries o object) is in
        omega (arith, taken k.entries e (opened object) (lowest_is_free k.entries e is), ap (free_count {X = Entry}) now)

  released_free : (t : Entries) (o : Option ℕ) → free_count t ≤ free_count (released_by_close t o)
  released_free t None = omega arith
  released_free t (Some e) = free_set less_held refl t e

  let_go_same : (k : KernelState S) (r : Result (Option Object) FdFault) → (let_go_of k r).entries ≡ k.entries
  let_go_same k (Err fault) = refl
  let_go_same k (Ok None) = refl
  let_go_same k (Ok (Some Input)) = refl
  let_go_same k (Ok (Some Out)) = refl
  let_go_same k (Ok (Some Diag)) = refl
  let_go_same k (Ok (Some (File name mode))) = refl
  let_go_same k (Ok (Some (PipeRead id))) = refl
  let_go_same k (Ok (Some (PipeWrite id))) = refl

  closed_free : (k : KernelState S) (pid fd : ℕ) → free_count k.entries ≤ free_count (closed k pid fd).entries
  closed_free k pid fd =
      let o = entry_of (fds_at k pid) fd in
      omega (arith, released_free k.entries o, ap (free_count {X = Entry}) (let_go_same (taken_away k pid fd o) (close_answer k.entries o)))

  below_free : (k : KernelState S) (pid n : ℕ) → free_count k.entries ≤ free_count (closed_below k pid n).entries
  unfolding closed_below
  below_free k pid zero = omega arith
  below_free k pid (suc n) = omega (arith, below_free k pid n, closed_free (closed_below k pid n) pid n)

  dup_free : (t : Entries) (entry place : Option ℕ) → free_count t ≤ free_count (held_by_dup t entry place)
  dup_free t None place = omega arith
  dup_free t (Some e) None = omega arith
  dup_free t (Some e) (Some place) = free_set (more_held 1) refl t e

  -- ---- calls: a call takes no more entries than it costs

  module _ (pid : ℕ) (k : KernelState S) (after : S) (made : Call) (new : KernelState S) where
    abbrev Takes : KernelState S → Type 0
    Takes j = free_count k.entries ≤ free_count j.entries + cost made

    is : (j : KernelState S) → new ≡ j → Takes j → Takes new
    is j same t = subst (λ (m : KernelState S). Takes m) (sym same) t

    same_free : Takes k
    same_free = omega arith

    outcome_takes : Outcome k pid after made new → Takes new
    outcome_takes (refused e) = is _ e same_free
    outcome_takes (lacks full e) = is _ e same_free
    outcome_takes (forks child c found e) = is _ e (omega (arith, held_free 0 k.entries (fds_at k pid)))
    outcome_takes (runs c e) = is _ e same_free
    outcome_takes (exits c ne e) = is _ e (omega (arith, below_free k pid DESCRIPTORS))
    outcome_takes (reaps child c found e) = is _ e same_free
    outcome_takes (waits child c none some e) = is _ e same_free
    outcome_takes (opens name mode fd c e) = is _ e (omega (arith, open_free k pid (File name (entry_mode mode)), ap cost c))
    outcome_takes (opens_empty name mode fd c e) = is _ e (omega (arith, open_free (with_bytes k name []) pid (File name (entry_mode mode)), ap cost c))
    outcome_takes (closes fd c e) = is _ e (omega (arith, closed_free k pid fd))
    outcome_takes (dups fd entry place c there free e) = is _ e (omega (arith, dup_free k.entries (Some entry) (Some place)))
    outcome_takes (pipes reader writer c room e) =
        let j : KernelState S = record k { pipes = with_new k.pipes k.events } in
        let i = with_reader k pid k.events in
        is _ e (omega (arith, open_free j pid (PipeRead k.events), open_free i pid (PipeWrite k.events), ap cost c))
    outcome_takes (reads_input n r e) = is _ e same_free
    outcome_takes (reads_file name mode entry n got r e) = is _ e (omega (arith, free_set (moved_on n) refl k.entries entry))
    outcome_takes (takes id n o r there some e) = is _ e same_free
    outcome_takes (waits_for_bytes id o r there none open_too e) = is _ e same_free
    outcome_takes (meets_end id o r there none over e) = is _ e same_free
    outcome_takes (tells b w e) = is _ e same_free
    outcome_takes (complains b w e) = is _ e same_free
    outcome_takes (writes_over name mode entry b bytes w e) = is _ e (omega (arith, free_set (moved_on (length b)) refl k.entries entry))
    outcome_takes (appends name mode entry b bytes w e) = is _ e (omega (arith, free_set (going_on_at (length bytes)) refl k.entries entry))
    outcome_takes (puts_all id o b w there part e) = is _ e same_free
    outcome_takes (puts_part id n o b w there reader space some short e) = is _ e same_free

  -- ---- turns

  module _ (spent : IsSpent call next cost ahead) where
    turn_enough : (k now : KernelState S) (q : ℕ) → IsStill k → HasEnough k → after_turn call next k q ≡ Some now → HasEnough now
    turn_enough k now q still enough it =
        let s = turn_spends call next cost ahead paid_once spent k now q still it in
        omega (arith, s.costs, outcome_takes s.pid s.dispatched s.after s.made now s.ends, ap (free_count {X = Entry}) s.same, enough)

    finds_by : (k : KernelState S) (made : Call) → cost made ≤ free_count k.entries → FindsFree k made
    finds_by k Fork some = tt
    finds_by k (Exec found) some = tt
    finds_by k Exit some = tt
    finds_by k Wait some = tt
    finds_by k MakePipe some = some
    finds_by k (Read fd n) some = tt
    finds_by k (Write fd b) some = tt
    finds_by k (OpenFile name mode) some = some
    finds_by k (Close fd) some = tt
    finds_by k (Dup fd) some = tt

    finds_free : (k : KernelState S) (q : ℕ) → HasEnough k → FindsFreeNext call next k q
    finds_free k q enough y there =
        finds_by k (call y.machine y.reply) (omega (arith, enough, one_of slot_left refl k.table q, ap slot_left there))

    -- so whatever is opened later finds free entries
    pub enough_ahead : (k : KernelState S) → IsStill k → HasEnough k → HasRoomAhead call next k
    enough_ahead k still enough pids m q it = finds_free m q (turns_keep call next cost ahead HasEnough turn_enough k m pids still enough it)

  -- ---- runs, whatever their events

  -- the entries that are in use and those that are still opened are together so many at most
  abbrev pub IsWithin : ℕ → KernelState S → Type 0
  IsWithin most k = table_left k.table + ENTRIES ≤ most + free_count k.entries

  module _ (spent : IsSpent call next cost ahead) (most : ℕ) where
    abbrev WithinIf : Option (KernelState S) → Type 0
    WithinIf None = ⊤
    WithinIf (Some k) = IsWithin most k

    within_where : (b : Bool) (o : Option (KernelState S)) → (b ≡ true → WithinIf o) → WithinIf (if b then o else None)
    within_where true o within = within refl
    within_where false o within = tt

    trap_within : (k : KernelState S) (h pid : ℕ) (x : Slot S) (memory : Bool) → at k.table pid ≡ x → is_running_on h x ≡ true → IsWithin most k → WithinIf (trapped call next k pid x memory)
    trap_within k h pid None memory there on within = tt
    trap_within k h pid (Some p) memory there on within =
        let after : S = next p.machine p.reply in
        let made : Call = call p.machine p.reply in
        let ends = every_call_ends (counted k) pid after made memory in
        let new = acted (counted k) pid after made memory in
        let costs = outcome_costs call next cost ahead pid (counted k) after made new paid_once (ap is_running there ∙ runs_somewhere h p.status on) (ap slot_left there) (spent.each after) (spent.splits p.machine p.reply) ends in
        omega (arith, costs, outcome_takes pid (counted k) after made new ends, within)

    happens_within : (k : KernelState S) (e : Event) (memory : Bool) → IsWithin most k → WithinIf (happens call next k e memory)
    happens_within k (Dispatch h pid) memory within =
        within_where (can_dispatch k.table h pid) (Some (record (counted k) { table = dispatched k.table pid h }))
        (λ _. omega (arith, within, rewritten call next cost ahead (with_status (Running h)) k.table pid (status_left call next cost ahead (Running h))))
    happens_within k (Trap h pid) memory within =
        within_where (is_running_on h (at k.table pid)) (trapped call next k pid (at k.table pid) memory) (λ on. trap_within k h pid (at k.table pid) memory refl on within)

    then_within : (o : Option (KernelState S)) (e : Event) (memory : Bool) → WithinIf o → WithinIf (then_happens call next o e memory)
    then_within None e memory within = tt
    then_within (Some k) e memory within = happens_within k e memory within

    run_within : (o : Option (KernelState S)) (events : List Event) (notes : List Bool) → WithinIf o → WithinIf (run call next o events notes)
    run_within o [] [] within = within
    run_within o (e ∷ es) (n ∷ ns) within = run_within (then_happens call next o e n) es ns (then_within o e n within)
    run_within o [] (n ∷ ns) within = tt
    run_within o (e ∷ es) [] within = tt

    pub every_run_within : (k m : KernelState S) (events : List Event) (notes : List Bool) → IsWithin most k → run call next (Some k) events notes ≡ Some m → IsWithin most m
    every_run_within k m events notes within ends = subst WithinIf ends (run_within (Some k) events notes within)

    -- so where these are no more than there are entries, whoever calls finds as many free as it opens
    pub finds_within : (k : KernelState S) (pid : ℕ) (p : Process S) → at k.table pid ≡ Some p → most ≤ ENTRIES → IsWithin most k → cost (call p.machine p.reply) ≤ free_count k.entries
    finds_within k pid p there few within = omega (arith, within, few, one_of slot_left refl k.table pid, ap slot_left there)
