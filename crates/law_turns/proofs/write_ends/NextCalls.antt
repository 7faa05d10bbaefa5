-- What a slot alone says of its process's next call: a zombie's is the exit that it made, and one that has put bytes is a write.
use Rattle.std.proofs.Common.{◌≡◌, ◌≢◌, ◌⊎◌, ℕ, zero, suc, List, [], ◌∷◌, Bool, true, false, Option, Some, None, refl, sym, ap, subst, ◌∙◌, inl, inr}
use Rattle.std.proofs.Math.ListN.{set}
use Rattle.std.proofs.lemmas.Bool.{cases_eq, eq-eqb, eqb-true}
use Rattle.std.specs.Prelude.{is_some, map, ◌==◌, if◌then◌else◌, Result, Ok, Err}
use Rattle.user_calls.specs.declared.calls.Call.{Call}
use Rattle.user_calls.specs.declared.calls.Call.TheVariants.{Exit, Read, Write}
use Rattle.user_calls.specs.declared.calls.Reply.{Reply}
use Rattle.fd_table.specs.declared.descriptors.TheConstants.{DESCRIPTORS}
use Rattle.fd_table.specs.declared.faults.FdFault.{FdFault}
use Rattle.fd_table.specs.declared.names.Object.{Object}
use Rattle.fd_table.specs.declared.names.Object.TheVariants.{Input, Out, Diag, File, PipeRead, PipeWrite}
use Rattle.fd_table.specs.Entries.{lowest_free_entry}
use Rattle.fd_table.specs.Descriptors.{Descriptors, close_answer}
use Rattle.mem_files.specs.Name.{Name, Bytes}
use Rattle.proc_table.specs.declared.states.Channel.{Channel}
use Rattle.proc_table.specs.declared.states.Channel.TheVariants.{PipeBytes, PipeRoom, Children}
use Rattle.proc_table.specs.declared.states.Status.{Status}
use Rattle.proc_table.specs.declared.states.Status.TheVariants.{Runnable, Running, Asleep, Zombie}
use Rattle.proc_table.specs.Slots.{Slot, Table, Process, at, is_zombie_status, same_channel, parent_of}
use Rattle.proc_table.specs.Calls.{made_ready, put_to_sleep, with_fds, with_status, woken, woken_status, all_woken, given, buried, exited, freed, reaped, zombie_child}
use Rattle.proc_table.proofs.Changes.{written, kept, mapped}
use Rattle.kernel_model.specs.KernelState.{KernelState}
use Rattle.kernel_model.specs.Boot.{boot_kernel}
use Rattle.kernel_model.specs.Events.{counted}
use Rattle.kernel_model.specs.Descriptors.{let_go, let_go_of, taken_away, closed, closed_below, opened_at, with_open, with_reader, with_ends}
use Rattle.kernel_model.proofs.Offsets.{slot_cases}
use Rattle.kernel_model.proofs.Lasting.{no_run}
use Rattle.law_kernel.specs.Outcome.{Outcome, refused, lacks, forks, runs, exits, reaps, waits, opens, opens_empty, closes, dups, pipes, reads_input, reads_file, takes, waits_for_bytes, meets_end, tells, complains, writes_over, appends, puts_all, puts_part}
use Rattle.law_kernel.proofs.outcomes.Outcomes.{every_call_ends}
use Rattle.law_kernel.proofs.kernel.Runs.{past_two}
use Rattle.kernel_model.specs.Alike.{IsStill}
use Rattle.kernel_model.specs.Turns.{by_turns, after_turn, after_turns, quiet_turns, turn_events, turn_notes}
use Rattle.kernel_model.specs.Begun.{IsBegun}
use Rattle.law_turns.proofs.orders.Back.{could_turn}
use Rattle.law_turns.proofs.orders.Booted.{boot_still}
use Rattle.law_turns.proofs.orders.Follow.{after_turn as turned, given_0}
use Rattle.law_turns.proofs.private_turns.Begun.{after_still}
use Rattle.law_turns.proofs.private_turns.Turned.{turn_is, ready_slot}

module _ {S : Type 0} (call : S → Reply → Call) where
  -- a call of which so many bytes were put: none, or it is a write
  abbrev HasPut : Call → ℕ → Type 0
  HasPut made put = (put ≡ 0) ⊎ ((fd : ℕ) × (b : Bytes) × (made ≡ Write fd b))

  -- the slot's process is about to exit, or it is if it is a zombie; and it has put nothing but by a write
  abbrev Says : Bool → Slot S → Type 0
  Says now None = Unit {0}
  Says true (Some p) = (call p.machine p.reply ≡ Exit) × HasPut (call p.machine p.reply) p.put
  Says false (Some p) = (is_zombie_status p.status ≡ true → call p.machine p.reply ≡ Exit) × HasPut (call p.machine p.reply) p.put

  -- the slot's process makes this call
  abbrev Makes : Call → Slot S → Type 0
  Makes made None = Unit {0}
  Makes made (Some p) = call p.machine p.reply ≡ made

  -- so do these processes, and each zombie
  abbrev AllSay : (ℕ → Bool) → Table S → Type 0
  AllSay who t = (q : ℕ) → Says (who q) (at t q)

  abbrev nobody : ℕ → Bool
  nobody q = false

  abbrev TableSays : Table S → Type 0
  TableSays t = AllSay nobody t

  anyhow : (now : Bool) (x : Slot S) → Says now x → Says false x
  anyhow now None h = tt
  anyhow true (Some p) h = (λ dead. h.0, h.1)
  anyhow false (Some p) h = h

  -- ---- slots

  was_zombie : (c : Channel) (s : Status) → is_zombie_status (woken_status c s) ≡ true → is_zombie_status s ≡ true
  was_zombie c Runnable is = is
  was_zombie c (Running h) is = is
  was_zombie c (Asleep d) is = by (same_channel c d) is where
    by : (b : Bool) → is_zombie_status (if b then Runnable else Asleep d) ≡ true → false ≡ true
    by true it = it
    by false it = it
  was_zombie c Zombie is = is

  woken_says : (c : Channel) (now : Bool) (x : Slot S) → Says now x → Says now (woken c x)
  woken_says c now None h = tt
  woken_says c true (Some p) h = h
  woken_says c false (Some p) h = (λ dead. h.0 (was_zombie c p.status dead), h.1)

  given_says : (pid : ℕ) (now : Bool) (x : Slot S) → Says now x → Says now (given pid x)
  given_says pid now None h = tt
  given_says pid true (Some p) h = h
  given_says pid false (Some p) h = h

  fds_says : (fds : Descriptors) (now : Bool) (x : Slot S) → Says now x → Says now (with_fds fds x)
  fds_says fds now None h = tt
  fds_says fds true (Some p) h = h
  fds_says fds false (Some p) h = h

  alive : {X : Type 0} → false ≡ true → X
  alive dead = absurd (let z : ⊥ = cc in z)

  running_says : (h : ℕ) (x : Slot S) → Says false x → Says false (with_status (Running h) x)
  running_says h None f = tt
  running_says h (Some p) f = (λ dead. alive dead, f.1)

  ready_says : (m : S) (r : Reply) (x : Slot S) → Says false (made_ready m r x)
  ready_says m r None = tt
  ready_says m r (Some p) = (λ dead. alive dead, inl refl)

  sleep_says : (c : Channel) (put : ℕ) (made : Call) (x : Slot S) → Makes made x → HasPut made put → Says false (put_to_sleep c put x)
  sleep_says c put made None mine f = tt
  sleep_says c put made (Some p) mine f = (λ dead. alive dead, subst (λ (d : Call). HasPut d put) (sym mine) f)

  zombie_says : (x : Slot S) → Says true x → Says false (with_status Zombie x)
  zombie_says None h = tt
  zombie_says (Some p) h = (λ dead. h.0, h.1)

  surely : (x : Slot S) → Makes Exit x → Says false x → Says true x
  surely None mine h = tt
  surely (Some p) mine h = (mine, h.1)

  -- ---- tables, while a process closes what it has open

  module _ (who : ℕ → Bool) (pid : ℕ) where
    all_woken_say : (c : Channel) (t : Table S) → AllSay who t → AllSay who (all_woken c t)
    all_woken_say c t all q = subst (λ (y : Slot S). Says (who q) y) (sym (mapped (woken c) refl t q)) (woken_says c (who q) (at t q) (all q))

    own_fds_say : (t : Table S) (fds : Descriptors) → AllSay who t → AllSay who (set t pid (with_fds fds (at t pid)))
    own_fds_say t fds all q = by (cases_eq q pid) where
      by : (q ≡ pid) ⊎ (q ≢ pid) → Says (who q) (at (set t pid (with_fds fds (at t pid))) q)
      by (inl same) = subst (λ (i : ℕ). Says (who i) (at (set t pid (with_fds fds (at t pid))) i)) (sym same) (subst (λ (y : Slot S). Says (who pid) y) (sym (written (with_fds fds) refl t pid)) (fds_says fds (who pid) (at t pid) (all pid)))
      by (inr ne) = subst (λ (y : Slot S). Says (who q) y) (sym (kept t pid q (with_fds fds (at t pid)) ne)) (all q)

    let_go_say : (k : KernelState S) (object : Object) → AllSay who k.table → AllSay who (let_go k object).table
    let_go_say k Input all = all
    let_go_say k Out all = all
    let_go_say k Diag all = all
    let_go_say k (File file mode) all = all
    let_go_say k (PipeRead id) all = all_woken_say (PipeRoom id) k.table all
    let_go_say k (PipeWrite id) all = all_woken_say (PipeBytes id) k.table all

    let_go_of_say : (k : KernelState S) (r : Result (Option Object) FdFault) → AllSay who k.table → AllSay who (let_go_of k r).table
    let_go_of_say k (Err fault) all = all
    let_go_of_say k (Ok None) all = all
    let_go_of_say k (Ok (Some object)) all = let_go_say k object all

    closed_say : (k : KernelState S) (fd : ℕ) → AllSay who k.table → AllSay who (closed k pid fd).table
    closed_say k fd all = let_go_of_say (taken_away k pid fd _) (close_answer k.entries _) (own_fds_say k.table _ all)

    below_say : (k : KernelState S) (n : ℕ) → AllSay who k.table → AllSay who (closed_below k pid n).table
    unfolding closed_below
    below_say k zero all = all
    below_say k (suc n) all = closed_say (closed_below k pid n) n (below_say k n all)

  -- ---- a call

  set_says : (t : Table S) (i : ℕ) (x : Slot S) → TableSays t → Says false x → TableSays (set t i x)
  set_says t i x all f q = by (slot_cases t i q x) where
    by : (at (set t i x) q ≡ x) ⊎ (at (set t i x) q ≡ at t q) → Says false (at (set t i x) q)
    by (inl new) = subst (λ (y : Slot S). Says false y) (sym new) f
    by (inr same) = subst (λ (y : Slot S). Says false y) (sym same) (all q)

  module _ (pid : ℕ) where
    abbrev only : ℕ → Bool
    only q = q == pid

    only_says : (t : Table S) → TableSays t → Makes Exit (at t pid) → AllSay only t
    only_says t all own q = by (q == pid) refl where
      by : (b : Bool) → (q == pid) ≡ b → Says b (at t q)
      by true is = subst (λ (i : ℕ). Says true (at t i)) (sym (eqb-true q pid is)) (surely (at t pid) own (all pid))
      by false is = all q

    buried_says : (t : Table S) → AllSay only t → TableSays (buried t pid)
    buried_says t all =
        let own : Says true (at t pid) = subst (λ (b : Bool). Says b (at t pid)) (eq-eqb pid pid refl) (all pid) in
        let dead : Says true (at (map (given pid) t) pid) = subst (λ (y : Slot S). Says true y) (sym (mapped (given pid) refl t pid)) (given_says pid true (at t pid) own) in
        let others : TableSays (map (given pid) t) = λ q. subst (λ (y : Slot S). Says false y) (sym (mapped (given pid) refl t q)) (given_says pid false (at t q) (anyhow (only q) (at t q) (all q))) in
        set_says _ pid _ others (zombie_says _ dead)

    exit_by : (b : Bool) (t : Table S) → TableSays t → TableSays (if b then all_woken (Children 0) t else t)
    exit_by true t all = all_woken_say nobody pid (Children 0) t all
    exit_by false t all = all

    exited_says : (t : Table S) → AllSay only t → TableSays (exited t pid)
    exited_says t all = exit_by (is_some (zombie_child t pid)) _ (all_woken_say nobody pid (Children (parent_of (at t pid))) (buried t pid) (buried_says t all))

    reaped_says : (t : Table S) → TableSays t → TableSays (reaped t pid)
    reaped_says t all = by (zombie_child t pid) where
      by : (o : Option ℕ) → TableSays (freed t o)
      by None = all
      by (Some child) = set_says t child None all tt

    opened_says : (k : KernelState S) (object : Object) (o : Option ℕ) → TableSays k.table → TableSays (opened_at k pid object o).table
    opened_says k object None all = all
    opened_says k object (Some e) all = own_fds_say nobody pid k.table _ all

    open_says : (k : KernelState S) (object : Object) → TableSays k.table → TableSays (with_open k pid object).table
    open_says k object all = opened_says k object (lowest_free_entry k.entries) all

    ends_says : (k : KernelState S) (id : ℕ) → TableSays k.table → TableSays (with_ends k pid id).table
    ends_says k id all = open_says (with_reader k pid id) (PipeWrite id) (open_says (record k { pipes = _ }) (PipeRead id) all)

    module _ (k : KernelState S) (after : S) (made : Call) (new : KernelState S) (all : TableSays k.table) (own : Makes made (at k.table pid)) where
      is : (j : KernelState S) → new ≡ j → TableSays j.table → TableSays new.table
      is j same a = subst (λ (m : KernelState S). TableSays m.table) (sym same) a

      ready : (t : Table S) (r : Reply) → TableSays t → TableSays (set t pid (made_ready after r (at t pid)))
      ready t r a = set_says t pid _ a (ready_says after r (at t pid))

      asleep : (c : Channel) (put : ℕ) → HasPut made put → TableSays (set k.table pid (put_to_sleep c put (at k.table pid)))
      asleep c put f = set_says k.table pid _ all (sleep_says c put made (at k.table pid) own f)

      outcome_says : Outcome k pid after made new → TableSays new.table
      outcome_says (refused e) = is _ e (ready _ _ all)
      outcome_says (lacks full e) = is _ e (ready _ _ all)
      outcome_says (forks child c found e) = is _ e (ready _ _ (set_says k.table child _ all (λ dead. alive dead, inl refl)))
      outcome_says (runs c e) = is _ e (ready _ _ all)
      outcome_says (exits c ne e) = is _ e (exited_says _ (below_say only pid k DESCRIPTORS (only_says k.table all (subst (λ (d : Call). Makes d (at k.table pid)) c own))))
      outcome_says (reaps child c found e) = is _ e (ready _ _ (reaped_says k.table all))
      outcome_says (waits child c none some e) = is _ e (asleep (Children pid) 0 (inl refl))
      outcome_says (opens name mode fd c e) = is _ e (ready _ _ (open_says k _ all))
      outcome_says (opens_empty name mode fd c e) = is _ e (ready _ _ (open_says _ _ all))
      outcome_says (closes fd c e) = is _ e (ready _ _ (closed_say nobody pid k fd all))
      outcome_says (dups fd entry place c there free e) = is _ e (ready _ _ (own_fds_say nobody pid _ _ all))
      outcome_says (pipes reader writer c room e) = is _ e (ready _ _ (ends_says k k.events all))
      outcome_says (reads_input n r e) = is _ e (ready _ _ all)
      outcome_says (reads_file name mode entry n got r e) = is _ e (ready _ _ all)
      outcome_says (takes id n o r there some e) = is _ e (all_woken_say nobody pid (PipeRoom id) _ (ready _ _ all))
      outcome_says (waits_for_bytes id o r there none open_too e) = is _ e (asleep (PipeBytes id) 0 (inl refl))
      outcome_says (meets_end id o r there none over e) = is _ e (ready _ _ all)
      outcome_says (tells b w e) = is _ e (ready _ _ all)
      outcome_says (complains b w e) = is _ e (ready _ _ all)
      outcome_says (writes_over name mode entry b bytes w e) = is _ e (ready _ _ all)
      outcome_says (appends name mode entry b bytes w e) = is _ e (ready _ _ all)
      outcome_says (puts_all id o b w there part e) = is _ e (all_woken_say nobody pid (PipeBytes id) _ (ready _ _ all))
      outcome_says (puts_part id n o b w there reader space some short e) = is _ e (all_woken_say nobody pid (PipeBytes id) _ (asleep (PipeRoom id) _ (inr (w.0, b, w.1))))

  -- ---- turns

  boot_says : (init shell : S) (input : Bytes) (list : List (Name × Bytes)) → TableSays (boot_kernel init shell input list).table
  boot_says init shell input list zero = (λ dead. alive dead, inl refl)
  boot_says init shell input list (suc zero) = (λ dead. alive dead, inl refl)
  boot_says init shell input list (suc (suc q)) = subst (λ (x : Slot S). Says false x) (sym (past_two S 62 q)) tt

  module _ (next : S → Reply → S) where
    turn_says : (k now : KernelState S) (q : ℕ) → IsStill k → TableSays k.table → after_turn call next k q ≡ Some now → TableSays now.table
    turn_says k now q still all is =
        let r = ready_slot (at k.table q) (could_turn call next k (record { pid = q; refused = false }) (now, is)) in
        let y : Process S = r.process in
        let both : Some (turned call next k q y false) ≡ Some now = sym (turn_is call next k q y still r.there r.ready) ∙ is in
        let same : turned call next k q y false ≡ now = cc in
        let d : KernelState S = counted (given_0 k q) in
        let given_all : TableSays d.table = set_says k.table q _ all (running_says 0 (at k.table q) (all q)) in
        let there : at d.table q ≡ Some (record y { status = Running 0 }) = written (with_status (Running 0)) refl k.table q ∙ ap (with_status (Running 0)) r.there in
        let own : Makes (call y.machine y.reply) (at d.table q) = subst (λ (x : Slot S). Makes (call y.machine y.reply) x) (sym there) refl in
        subst (λ (m : KernelState S). TableSays m.table) same
        (outcome_says q d (next y.machine y.reply) (call y.machine y.reply) (turned call next k q y false) given_all own (every_call_ends d q (next y.machine y.reply) (call y.machine y.reply) false))

    turns_says : (k m : KernelState S) (pids : List ℕ) → IsStill k → TableSays k.table → after_turns call next k pids ≡ Some m → TableSays m.table
    turns_says k m [] still all is = let same : k ≡ m = cc in subst (λ (j : KernelState S). TableSays j.table) same all
    turns_says k m (p ∷ pids) still all is = by (after_turn call next k p) refl (λ j. turns_says j m pids) is where
      by : (o : Option (KernelState S)) → after_turn call next k p ≡ o → ((j : KernelState S) → IsStill j → TableSays j.table → after_turns call next j pids ≡ Some m → TableSays m.table) → by_turns call next o (quiet_turns pids) ≡ Some m → TableSays m.table
      by None first on rest = absurd (no_run call next (turn_events (quiet_turns pids)) (turn_notes (quiet_turns pids)) m rest)
      by (Some j) first on rest = on j (after_still call next k j p still first) (turn_says k j p still all first) rest

    module _ (k : KernelState S) (b : IsBegun call next k) (q : ℕ) (y : Process S) (there : at k.table q ≡ Some y) where
      says : Says false (Some y)
      says =
          let boot = boot_kernel b.init b.shell b.input b.files in
          subst (λ (x : Slot S). Says false x) there (turns_says boot k b.pids (boot_still b.init b.shell b.input b.files b.are) (boot_says b.init b.shell b.input b.files) b.turns q)

      -- each zombie made an exit, in a kernel to which turns lead from a boot
      pub zombies_exit : y.status ≡ Zombie → call y.machine y.reply ≡ Exit
      zombies_exit dead = says.0 (ap is_zombie_status dead)

      -- and whoever reads next has put nothing
      pub readers_put_nothing : (fd n : ℕ) → call y.machine y.reply ≡ Read fd n → y.put ≡ 0
      readers_put_nothing fd n reads = by says.1 where
        by : HasPut (call y.machine y.reply) y.put → y.put ≡ 0
        by (inl none) = none
        by (inr w) = let z : Write w.0 w.1 ≡ Read fd n = sym w.2 ∙ reads in absurd (let no_way : ⊥ = cc in no_way)
