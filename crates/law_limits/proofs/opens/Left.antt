-- What each process has left of something that calls cost, itself and through those that it forks: all of them together never get more.
use Rattle.std.proofs.Common.{◌≡◌, ◌≢◌, ℕ, zero, suc, ◌+◌, ◌≤◌, List, [], ◌∷◌, Bool, true, false, Option, Some, None, refl, sym, ap, subst, ◌∙◌, arith}
use Rattle.std.proofs.Math.ListN.{set}
use Rattle.std.specs.Prelude.{sum_by, take, map, is_some, ◌&&◌, if◌then◌else◌, Result, Ok, Err}
use Rattle.user_calls.specs.declared.calls.Call.{Call}
use Rattle.user_calls.specs.declared.calls.Call.TheVariants.{Fork, Exit, Wait, Read, Write}
use Rattle.user_calls.specs.declared.calls.Reply.{Reply}
use Rattle.user_calls.specs.declared.calls.Reply.TheVariants.{Child, Done, Bytes as Given}
use Rattle.mem_files.specs.Name.{Bytes}
use Rattle.fd_table.specs.declared.descriptors.TheConstants.{DESCRIPTORS}
use Rattle.fd_table.specs.declared.faults.FdFault.{FdFault}
use Rattle.fd_table.specs.declared.names.Object.{Object}
use Rattle.fd_table.specs.declared.names.Object.TheVariants.{Input, Out, Diag, File, PipeRead, PipeWrite}
use Rattle.fd_table.specs.Entries.{lowest_free_entry}
use Rattle.fd_table.specs.Descriptors.{Descriptors, entry_of, close_answer}
use Rattle.proc_table.specs.declared.states.Channel.{Channel}
use Rattle.proc_table.specs.declared.states.Channel.TheVariants.{PipeBytes, PipeRoom, Children}
use Rattle.proc_table.specs.declared.states.Status.{Status}
use Rattle.proc_table.specs.declared.states.Status.TheVariants.{Runnable, Running, Asleep, Zombie}
use Rattle.proc_table.specs.Slots.{Slot, Table, Process, at, is_running, is_running_status, is_zombie_status, is_child_of, is_zombie_child_of, parent_of, put_of}
use Rattle.proc_table.specs.Calls.{made_ready, put_to_sleep, with_fds, with_status, woken, all_woken, given, buried, exited, freed, reaped, zombie_child, forked, newborn, lowest_free}
use Rattle.proc_table.proofs.Changes.{written, kept, mapped, parent_stays, was_zombie_child}
use Rattle.kernel_model.specs.KernelState.{KernelState, fds_at}
use Rattle.kernel_model.specs.Events.{counted}
use Rattle.kernel_model.specs.Opening.{with_bytes}
use Rattle.kernel_model.specs.Descriptors.{let_go_of, taken_away, closed, closed_below, opened_at, with_open, with_reader}
use Rattle.kernel_model.proofs.Lasting.{no_run}
use Rattle.law_kernel.specs.Outcome.{Outcome, refused, lacks, forks, runs, exits, reaps, waits, opens, opens_empty, closes, dups, pipes, reads_input, reads_file, takes, waits_for_bytes, meets_end, tells, complains, writes_over, appends, puts_all, puts_part}
use Rattle.law_kernel.proofs.outcomes.Outcomes.{every_call_ends}
use Rattle.kernel_model.specs.Alike.{IsStill}
use Rattle.kernel_model.specs.Turns.{by_turns, after_turn, after_turns, quiet_turns, turn_events, turn_notes}
use Rattle.law_turns.proofs.orders.Back.{could_turn}
use Rattle.law_turns.proofs.orders.Follow.{after_turn as turned, given_0}
use Rattle.law_turns.proofs.private_turns.Begun.{after_still}
use Rattle.law_turns.proofs.private_turns.Turned.{turn_is, ready_slot}
use Rattle.law_limits.proofs.opens.Sums.{sum_set, sum_map}

-- whoever runs is no zombie
no_both : (b : Bool) (s : Status) → is_running_status s ≡ true → (b && is_zombie_status s) ≡ true → ⊥
no_both true Runnable up down = cc
no_both true (Running h) up down = cc
no_both true (Asleep c) up down = cc
no_both true Zombie up down = cc
no_both false s up down = cc

-- a call in which a process can fall asleep, which it makes again, costs nothing, and nor does an exit
pub record IsPaidOnce (cost : Call → ℕ) : Type 0 where
  pub exits : cost Exit ≡ 0
  pub waits : cost Wait ≡ 0
  pub reads : (fd n : ℕ) → cost (Read fd n) ≡ 0
  pub writes : (fd : ℕ) (b : Bytes) → cost (Write fd b) ≡ 0

module _ {S : Type 0} (call : S → Reply → Call) (next : S → Reply → S) (cost : Call → ℕ) (ahead : S → ℕ) where
  -- what a machine that gets this reply has left, where it has so much after each call
  abbrev pub left : S → Reply → ℕ
  left m r = cost (call m r) + ahead (next m r)

  -- it is what the machine had left, whatever the reply; and a fork splits it
  pub record IsSpent : Type 0 where
    pub each : (m : S) (r : Reply) → left m r ≤ ahead m
    pub splits : (m : S) (r : Reply) → call m r ≡ Fork → left (next m r) Child + left (next m r) Done ≤ ahead (next m r)

  abbrev pub slot_left : Slot S → ℕ
  slot_left None = 0
  slot_left (Some p) = left p.machine p.reply

  abbrev pub table_left : Table S → ℕ
  table_left t = sum_by slot_left t

  -- ---- slots

  woken_left : (c : Channel) (x : Slot S) → slot_left (woken c x) ≡ slot_left x
  woken_left c None = refl
  woken_left c (Some p) = refl

  given_left : (pid : ℕ) (x : Slot S) → slot_left (given pid x) ≡ slot_left x
  given_left pid None = refl
  given_left pid (Some p) = refl

  fds_left : (fds : Descriptors) (x : Slot S) → slot_left (with_fds fds x) ≡ slot_left x
  fds_left fds None = refl
  fds_left fds (Some p) = refl

  pub status_left : (s : Status) (x : Slot S) → slot_left (with_status s x) ≡ slot_left x
  status_left s None = refl
  status_left s (Some p) = refl

  asleep_left : (c : Channel) (put : ℕ) (x : Slot S) → slot_left (put_to_sleep c put x) ≡ slot_left x
  asleep_left c put None = refl
  asleep_left c put (Some p) = refl

  ready_left : (m : S) (r : Reply) (x : Slot S) → slot_left (made_ready m r x) ≤ left m r
  ready_left m r None = omega arith
  ready_left m r (Some p) = omega arith

  -- ---- tables

  set_left : (t : Table S) (pid : ℕ) (x : Slot S) → table_left (set t pid x) + slot_left (at t pid) ≤ table_left t + slot_left x
  set_left t pid x = sum_set slot_left refl t pid x

  -- a slot that is written from what it held, and has as much left
  pub rewritten : (g : Slot S → Slot S) (t : Table S) (pid : ℕ) → ((x : Slot S) → slot_left (g x) ≡ slot_left x) → table_left (set t pid (g (at t pid))) ≤ table_left t
  rewritten g t pid same = omega (arith, set_left t pid (g (at t pid)), same (at t pid))

  woken_all : (c : Channel) (t : Table S) → table_left (all_woken c t) ≡ table_left t
  woken_all c t = sum_map slot_left refl (woken c) (woken_left c) t

  exited_left : (t : Table S) (pid : ℕ) → table_left (exited t pid) ≤ table_left t
  exited_left t pid = by (is_some (zombie_child t pid)) where
    gone : Table S
    gone = all_woken (Children (parent_of (at t pid))) (buried t pid)

    less : table_left gone ≤ table_left t
    less =
        let others = sum_map slot_left refl (given pid) (given_left pid) t in
        omega (arith, others, woken_all (Children (parent_of (at t pid))) (buried t pid), rewritten (with_status Zombie) (map (given pid) t) pid (status_left Zombie))

    by : (b : Bool) → table_left (if b then all_woken (Children 0) gone else gone) ≤ table_left t
    by true = omega (arith, less, woken_all (Children 0) gone)
    by false = less

  -- ---- descriptors: less is left in all, and as much of pid's own

  module _ (pid : ℕ) where
    record Keeps (t u : Table S) : Type 0 where
      all : table_left u ≤ table_left t
      own : slot_left (at u pid) ≡ slot_left (at t pid)

    keeps_on : (t u v : Table S) → Keeps t u → Keeps u v → Keeps t v
    keeps_on t u v a b = record { all = omega (arith, a.all, b.all); own = b.own ∙ a.own }

    keeps_itself : (t : Table S) → Keeps t t
    keeps_itself t = record { all = omega arith; own = refl }

    fds_keep : (t : Table S) (fds : Descriptors) → Keeps t (set t pid (with_fds fds (at t pid)))
    fds_keep t fds = record { all = rewritten (with_fds fds) t pid (fds_left fds); own = ap slot_left (written (with_fds fds) refl t pid) ∙ fds_left fds (at t pid) }

    woken_keep : (c : Channel) (t : Table S) → Keeps t (all_woken c t)
    woken_keep c t = record { all = omega (arith, woken_all c t); own = ap slot_left (mapped (woken c) refl t pid) ∙ woken_left c (at t pid) }

    let_go_keep : (k : KernelState S) (r : Result (Option Object) FdFault) → Keeps k.table (let_go_of k r).table
    let_go_keep k (Err fault) = keeps_itself k.table
    let_go_keep k (Ok None) = keeps_itself k.table
    let_go_keep k (Ok (Some Input)) = keeps_itself k.table
    let_go_keep k (Ok (Some Out)) = keeps_itself k.table
    let_go_keep k (Ok (Some Diag)) = keeps_itself k.table
    let_go_keep k (Ok (Some (File name mode))) = keeps_itself k.table
    let_go_keep k (Ok (Some (PipeRead id))) = woken_keep (PipeRoom id) k.table
    let_go_keep k (Ok (Some (PipeWrite id))) = woken_keep (PipeBytes id) k.table

    closed_keep : (k : KernelState S) (fd : ℕ) → Keeps k.table (closed k pid fd).table
    closed_keep k fd =
        let o = entry_of (fds_at k pid) fd in
        let away = taken_away k pid fd o in
        keeps_on k.table away.table _ (fds_keep k.table _) (let_go_keep away (close_answer k.entries o))

    below_keep : (k : KernelState S) (n : ℕ) → Keeps k.table (closed_below k pid n).table
    unfolding closed_below
    below_keep k zero = keeps_itself k.table
    below_keep k (suc n) = keeps_on k.table (closed_below k pid n).table _ (below_keep k n) (closed_keep (closed_below k pid n) n)

    open_keep : (k : KernelState S) (object : Object) → Keeps k.table (with_open k pid object).table
    open_keep k object = by (lowest_free_entry k.entries) where
      by : (o : Option ℕ) → Keeps k.table (opened_at k pid object o).table
      by None = keeps_itself k.table
      by (Some e) = fds_keep k.table _

    -- ---- fork and wait: another slot is written

    other_keep : (t : Table S) (child : ℕ) (x : Slot S) → pid ≢ child → slot_left x ≡ 0 → Keeps t (set t child x)
    other_keep t child x ne none = record { all = omega (arith, set_left t child x, none); own = ap slot_left (kept t child pid x ne) }

    freed_keep : (t : Table S) (o : Option ℕ) → ((child : ℕ) → o ≡ Some child → pid ≢ child) → Keeps t (freed t o)
    freed_keep t None ne = keeps_itself t
    freed_keep t (Some child) ne = other_keep t child None (ne child refl) refl

    -- ---- calls

    module _ (k : KernelState S) (after : S) (made : Call) (new : KernelState S) (paid : IsPaidOnce cost) (runs_here : is_running (at k.table pid) ≡ true) (own : slot_left (at k.table pid) ≡ cost made + ahead after)
        (each : (r : Reply) → left after r ≤ ahead after) (splits : made ≡ Fork → left after Child + left after Done ≤ ahead after) where
      -- less is left, by what the call cost
      abbrev Costs : KernelState S → Type 0
      Costs j = table_left j.table + cost made ≤ table_left k.table

      is : (j : KernelState S) → new ≡ j → Costs j → Costs new
      is j same c = subst (λ (m : KernelState S). Costs m) (sym same) c

      -- the call is answered, where as much was left of pid's own
      ready : (t : Table S) (r : Reply) → Keeps k.table t → table_left (set t pid (made_ready after r (at t pid))) + cost made ≤ table_left k.table
      ready t r keeps = omega (arith, set_left t pid (made_ready after r (at t pid)), ready_left after r (at t pid), each r, keeps.all, keeps.own, own)

      at_once : (r : Reply) → table_left (set k.table pid (made_ready after r (at k.table pid))) + cost made ≤ table_left k.table
      at_once r = ready k.table r (keeps_itself k.table)

      asleep : (c : Channel) (put : ℕ) → cost made ≡ 0 → table_left (set k.table pid (put_to_sleep c put (at k.table pid))) + cost made ≤ table_left k.table
      asleep c put nothing = omega (arith, rewritten (put_to_sleep c put) k.table pid (asleep_left c put), nothing)

      forked_left : (child : ℕ) → made ≡ Fork → lowest_free k.table ≡ Some child → table_left (set (forked k.table child pid after (fds_at k pid)) pid (made_ready after Done (at (forked k.table child pid after (fds_at k pid)) pid))) + cost made ≤ table_left k.table
      forked_left child c found =
          let t = forked k.table child pid after (fds_at k pid) in
          omega (
            arith,
            set_left t pid (made_ready after Done (at t pid)),
            ready_left after Done (at t pid),
            splits c,
            own,
            set_left k.table child (Some (newborn pid after (fds_at k pid))),
            ap slot_left (parent_stays k.table pid child after (fds_at k pid) runs_here found),
          )

      no_zombie_runs : (x : Slot S) → is_running x ≡ true → is_zombie_child_of pid x ≡ true → ⊥
      no_zombie_runs None up dead = let z : ⊥ = cc in z
      no_zombie_runs (Some p) up dead = no_both (is_child_of pid (Some p)) p.status up dead

      child_apart : (child : ℕ) → zombie_child k.table pid ≡ Some child → pid ≢ child
      child_apart child found same = no_zombie_runs (at k.table child) (ap (λ (n : ℕ). is_running (at k.table n)) (sym same) ∙ runs_here) (was_zombie_child k.table pid child found).1

      pub outcome_costs : Outcome k pid after made new → Costs new
      outcome_costs (refused e) = is _ e (at_once _)
      outcome_costs (lacks full e) = is _ e (at_once _)
      outcome_costs (forks child c found e) = is _ e (forked_left child c found)
      outcome_costs (runs c e) = is _ e (at_once _)
      outcome_costs (exits c ne e) =
          let j = closed_below k pid DESCRIPTORS in
          is _ e (omega (arith, exited_left j.table pid, (below_keep k DESCRIPTORS).all, ap cost c, paid.exits))
      outcome_costs (reaps child c found e) = is _ e (ready (reaped k.table pid) _ (freed_keep k.table (zombie_child k.table pid) (λ other it. child_apart other it)))
      outcome_costs (waits child c none some e) = is _ e (asleep (Children pid) 0 (ap cost c ∙ paid.waits))
      outcome_costs (opens name mode fd c e) = is _ e (ready _ _ (open_keep k _))
      outcome_costs (opens_empty name mode fd c e) = is _ e (ready _ _ (open_keep (with_bytes k name []) _))
      outcome_costs (closes fd c e) = is _ e (ready _ _ (closed_keep k fd))
      outcome_costs (dups fd entry place c there free e) = is _ e (ready _ _ (fds_keep k.table _))
      outcome_costs (pipes reader writer c room e) =
          let j : KernelState S = record k { pipes = _ } in
          let i = with_reader k pid k.events in
          is _ e (ready _ _ (keeps_on k.table i.table _ (open_keep j (PipeRead k.events)) (open_keep i (PipeWrite k.events))))
      outcome_costs (reads_input n r e) = is _ e (at_once _)
      outcome_costs (reads_file name mode entry n got r e) = is _ e (at_once _)
      outcome_costs (takes id n o r there some e) = is _ e (omega (arith, at_once (Given (take n o.bytes)), woken_all (PipeRoom id) (set k.table pid (made_ready after (Given (take n o.bytes)) (at k.table pid)))))
      outcome_costs (waits_for_bytes id o r there none open_too e) = is _ e (asleep (PipeBytes id) 0 (ap cost r.2 ∙ paid.reads r.0 r.1))
      outcome_costs (meets_end id o r there none over e) = is _ e (at_once _)
      outcome_costs (tells b w e) = is _ e (at_once _)
      outcome_costs (complains b w e) = is _ e (at_once _)
      outcome_costs (writes_over name mode entry b bytes w e) = is _ e (at_once _)
      outcome_costs (appends name mode entry b bytes w e) = is _ e (at_once _)
      outcome_costs (puts_all id o b w there part e) = is _ e (omega (arith, at_once Done, woken_all (PipeBytes id) (set k.table pid (made_ready after Done (at k.table pid)))))
      outcome_costs (puts_part id n o b w there reader space some short e) =
          is _ e (omega (arith, asleep (PipeRoom id) (put_of (at k.table pid) + n) (ap cost w.1 ∙ paid.writes w.0 b), woken_all (PipeBytes id) (set k.table pid (put_to_sleep (PipeRoom id) (put_of (at k.table pid) + n) (at k.table pid)))))

  -- ---- turns

  -- a turn: how its call ends, and what it costs
  pub record Spends (k now : KernelState S) : Type 0 where
    pub dispatched : KernelState S
    pub pid : ℕ
    pub after : S
    pub made : Call
    pub ends : Outcome dispatched pid after made now
    pub same : dispatched.entries ≡ k.entries
    pub costs : table_left now.table + cost made ≤ table_left k.table

  module _ (paid : IsPaidOnce cost) (spent : IsSpent) where
    pub turn_spends : (k now : KernelState S) (q : ℕ) → IsStill k → after_turn call next k q ≡ Some now → Spends k now
    turn_spends k now q still it =
        let r = ready_slot (at k.table q) (could_turn call next k (record { pid = q; refused = false }) (now, it)) in
        let y : Process S = r.process in
        let both : Some (turned call next k q y false) ≡ Some now = sym (turn_is call next k q y still r.there r.ready) ∙ it in
        let same : turned call next k q y false ≡ now = cc in
        let d : KernelState S = counted (given_0 k q) in
        let there : at d.table q ≡ Some (record y { status = Running 0 }) = written (with_status (Running 0)) refl k.table q ∙ ap (with_status (Running 0)) r.there in
        let less : table_left d.table ≤ table_left k.table = rewritten (with_status (Running 0)) k.table q (status_left (Running 0)) in
        let made : Call = call y.machine y.reply in
        let after : S = next y.machine y.reply in
        let own : slot_left (at d.table q) ≡ cost made + ahead after = ap slot_left there in
        let ends = every_call_ends d q after made false in
        let costs = outcome_costs q d after made (turned call next k q y false) paid (ap is_running there) own (spent.each after) (spent.splits y.machine y.reply) ends in
        subst (λ (m : KernelState S). Spends k m) same (record { dispatched = d; pid = q; after = after; made = made; ends = ends; same = refl; costs = omega (arith, costs, less) })

  -- ---- what each turn keeps, all turns keep

  module _ (Is : KernelState S → Type 0) (on : (k now : KernelState S) (q : ℕ) → IsStill k → Is k → after_turn call next k q ≡ Some now → Is now) where
    pub turns_keep : (k m : KernelState S) (pids : List ℕ) → IsStill k → Is k → after_turns call next k pids ≡ Some m → Is m
    turns_keep k m [] still holds it = let same : k ≡ m = cc in subst Is same holds
    turns_keep k m (p ∷ pids) still holds it = by (after_turn call next k p) refl (λ j. turns_keep j m pids) it where
      by : (o : Option (KernelState S)) → after_turn call next k p ≡ o → ((j : KernelState S) → IsStill j → Is j → after_turns call next j pids ≡ Some m → Is m) → by_turns call next o (quiet_turns pids) ≡ Some m → Is m
      by None first later rest = absurd (no_run call next (turn_events (quiet_turns pids)) (turn_notes (quiet_turns pids)) m rest)
      by (Some j) first later rest = later j (after_still call next k j p still first) (on k j p still holds first) rest
